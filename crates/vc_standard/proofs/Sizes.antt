-- A structure has as many positions as the bound of the tree says.
use Rattle.std.proofs.Common.{◌≡◌, ℕ, suc, List, [], ◌∷◌, map, Bool, refl, ap, ◌∙◌, ap₂, length, ◌+◌, ◌*◌, ◌-◌, arith, length-append}
use Rattle.std.specs.List.{flat_map}
use Rattle.std.proofs.lemmas.List.{length-map}
use Rattle.vc_model.specs.WeightSet.{WeightSet}
use Rattle.vc_terms.specs.Terms.{Term, Terms, NoTerms, MoreTerms, Zero, One, Atom, Sum, Product, Star, Weight, Both, Shuffle, bound_of, bounds_of}
use Rattle.vc_standard.specs.Structures.{Standard, Position, size_of, bare, beside, chained, moved_position, followed, moved, met, mixed_row, mixed_rows, standard_of, beside_all, chained_all}

none_before : (n : ℕ) → 0 + n ≡ n
none_before n = omega arith

module _ {V : Type 0} (R : WeightSet V) where
  pub size-beside : (A B : Standard V) → size_of (beside R A B) ≡ size_of A + size_of B
  size-beside A B = length-append A.positions (map (moved_position (size_of A)) B.positions) ∙ ap (λ n. size_of A + n) (length-map B.positions (moved_position (size_of A)))

  pub size-chained : (equal : V → V → Bool) (A B : Standard V) → size_of (chained R equal A B) ≡ size_of A + size_of B
  size-chained equal A B =
      length-append (map (followed R equal (moved (size_of A) B.start.moves) B.start.final) A.positions) (map (moved_position (size_of A)) B.positions)
      ∙ ap₂ ◌+◌ (length-map A.positions (followed R equal (moved (size_of A) B.start.moves) B.start.final)) (length-map B.positions (moved_position (size_of A)))

  pub length-pairs : (m : ℕ) (ps qs : List (Position V)) → length (flat_map (λ p. map (met R m p) qs) ps) ≡ length ps * length qs
  length-pairs m [] qs = omega arith
  length-pairs m (p ∷ ps) qs =
      length-append (map (met R m p) qs) (flat_map (λ p. map (met R m p) qs) ps) ∙ ap₂ ◌+◌ (length-map qs (met R m p)) (length-pairs m ps qs) ∙ more (length ps) (length qs)
    where
      more : (a b : ℕ) → b + a * b ≡ suc a * b
      more a b = grind arith

  pub length-row : (m i j : ℕ) (p : Position V) (qs : List (Position V)) → length (mixed_row R m i j p qs) ≡ length qs
  length-row m i j p [] = refl
  length-row m i j p (q ∷ qs) = ap suc (length-row m i (j + 1) p qs)

  pub length-rows : (m i : ℕ) (ps qs : List (Position V)) → length (mixed_rows R m i ps qs) ≡ length ps * length qs
  length-rows m i [] qs = omega arith
  length-rows m i (p ∷ ps) qs =
      length-append (mixed_row R m i 0 p qs) (mixed_rows R m (i + 1) ps qs) ∙ ap₂ ◌+◌ (length-row m i 0 p qs) (length-rows m (i + 1) ps qs) ∙ more (length ps) (length qs)
    where
      more : (a b : ℕ) → b + a * b ≡ suc a * b
      more a b = grind arith

  mutual
    pub size-standard : (equal : V → V → Bool) (t : Term V) → size_of (standard_of R equal t) ≡ bound_of t
    size-standard equal Zero = refl
    size-standard equal One = refl
    size-standard equal (Atom a) = refl
    size-standard equal (Sum ts) = size-beside_all equal (bare R.zero) ts ∙ none_before (bounds_of ts)
    size-standard equal (Product ts) = size-chained_all equal (bare R.one) ts ∙ none_before (bounds_of ts)
    size-standard equal (Star t) = length-map (standard_of R equal t).positions _ ∙ size-standard equal t
    size-standard equal (Weight k t) = size-standard equal t
    size-standard equal (Both t u) =
        length-pairs (size_of (standard_of R equal u)) (standard_of R equal t).positions (standard_of R equal u).positions
        ∙ ap₂ ◌*◌ (size-standard equal t) (size-standard equal u)
    size-standard equal (Shuffle t u) =
        length-append (mixed_row R (size_of (standard_of R equal u)) 0 1 (standard_of R equal t).start (standard_of R equal u).positions)
        (mixed_rows R (size_of (standard_of R equal u)) 1 (standard_of R equal t).positions ((standard_of R equal u).start ∷ (standard_of R equal u).positions))
        ∙ ap₂ ◌+◌ (length-row (size_of (standard_of R equal u)) 0 1 (standard_of R equal t).start (standard_of R equal u).positions)
        (length-rows (size_of (standard_of R equal u)) 1 (standard_of R equal t).positions ((standard_of R equal u).start ∷ (standard_of R equal u).positions))
        ∙ ap₂ (λ a b. b + a * suc b) (size-standard equal t) (size-standard equal u) ∙ turn (bound_of t) (bound_of u)
      where
        turn : (a b : ℕ) → b + a * suc b ≡ (a + 1) * (b + 1) - 1
        turn a b = let e : (a + 1) * (b + 1) ≡ suc (b + a * suc b) = grind arith in omega (arith, e)

    size-beside_all : (equal : V → V → Bool) (A : Standard V) (ts : Terms V) → size_of (beside_all R equal A ts) ≡ size_of A + bounds_of ts
    size-beside_all equal A NoTerms = omega arith
    size-beside_all equal A (MoreTerms t ts) =
        size-beside_all equal (beside R A (standard_of R equal t)) ts
        ∙ ap (λ n. n + bounds_of ts) (size-beside A (standard_of R equal t) ∙ ap (λ n. size_of A + n) (size-standard equal t)) ∙ turn (size_of A) (bound_of t) (bounds_of ts)
      where
        turn : (a b c : ℕ) → a + b + c ≡ a + (b + c)
        turn a b c = omega arith

    size-chained_all : (equal : V → V → Bool) (A : Standard V) (ts : Terms V) → size_of (chained_all R equal A ts) ≡ size_of A + bounds_of ts
    size-chained_all equal A NoTerms = omega arith
    size-chained_all equal A (MoreTerms t ts) =
        size-chained_all equal (chained R equal A (standard_of R equal t)) ts
        ∙ ap (λ n. n + bounds_of ts) (size-chained equal A (standard_of R equal t) ∙ ap (λ n. size_of A + n) (size-standard equal t)) ∙ turn (size_of A) (bound_of t) (bounds_of ts)
      where
        turn : (a b c : ℕ) → a + b + c ≡ a + (b + c)
        turn a b c = omega arith
