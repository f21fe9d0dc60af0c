-- No triple stands twice in the structure of a tree, so that nothing is added where its transitions are put together.
use Rattle.std.proofs.Common.{◌≡◌, ℕ, suc, List, [], ◌∷◌, ◌++◌, map, ◌+◌, ◌*◌, ◌/◌, ◌<◌, ◌≤◌, Bool, sym, ap, ap₂, ◌∙◌, subst, arith, refl, inl, inr}
use Rattle.std.specs.List.{flat_map}
use Rattle.std.proofs.lemmas.List.{map-append}
use Rattle.std.proofs.lemmas.Nat.{div-mul-add}
use Rattle.vc_model.specs.Automata.{triple}
use Rattle.vc_model.specs.Items.{item_key}
use Rattle.vc_model.specs.Lists.{In, NoRepeat}
use Rattle.vc_model.specs.Members.{In-append_cases, NoRepeat-append, NoRepeat-map}
use Rattle.vc_model.specs.WeightSet.{WeightSet}
use Rattle.vc_model.specs.Series.{star_or_zero}
use Rattle.vc_model.specs.Words.{Word}
use Rattle.vc_terms.specs.Terms.{Term, Terms, NoTerms, MoreTerms, Zero, One, Atom, Sum, Product, Star, Weight, Both, Shuffle}
use Rattle.vc_terms.specs.Expansions.{AtomsAre, AllAtomsAre}
use Rattle.vc_terms.specs.ItemLists.{mapped, scaled_items}
use Rattle.vc_standard.specs.Automata.{leaving, leaving_all}
use Rattle.vc_standard.specs.Structures.{Moves, Position, Standard, size_of, moved, moved_position, bare, beside, copied, followed, chained, again, met, mixed, mixed_row, mixed_rows, standard_of, beside_all, chained_all}
use Rattle.vc_standard.specs.Within.{Are, AreAll, IsTo, IsWithin}
use Rattle.vc_standard.proofs.MoveLaws.{are-weaker, are-copied}
use Rattle.vc_standard.proofs.WithinLaws.{within-standard, within-beside, within-chained}
use Rattle.vc_standard.proofs.OnceLaws.{Once, once-mapped, once-scaled, once-copied, once-moved, once-append, once-grouped, once-met}

-- of each of the positions
abbrev pub AllOnce : {V : Type 0} → List (Position V) → Type 0
AllOnce [] = Unit {0}
AllOnce (p ∷ ps) = Once p.moves × AllOnce ps

abbrev pub IsOnce : {V : Type 0} → Standard V → Type 0
IsOnce A = Once A.start.moves × AllOnce A.positions

abbrev Any : Word → Type 0
Any a = Unit {0}

module _ {V : Type 0} (R : WeightSet V) (equal : V → V → Bool) where
  all_once-append : (ps qs : List (Position V)) → AllOnce ps → AllOnce qs → AllOnce (ps ++ qs)
  all_once-append [] qs h g = g
  all_once-append (p ∷ ps) qs h g = (h.0, all_once-append ps qs h.1 g)

  all_once-moved : (n : ℕ) (ps : List (Position V)) → AllOnce ps → AllOnce (map (moved_position n) ps)
  all_once-moved n [] h = tt
  all_once-moved n (p ∷ ps) h = (once-moved n p.moves h.0, all_once-moved n ps h.1)

  below_n : (n : ℕ) (xs : Moves V) → Are (IsTo Any n) xs → Are (λ a i. i < n) xs
  below_n n xs h = are-weaker (IsTo Any n) (λ a i. i < n) (λ a i k. k.1) xs h

  behind_n : (n : ℕ) (xs : Moves V) → Are (λ a i. n ≤ i) (moved n xs)
  behind_n n [] = tt
  behind_n n (x ∷ xs) = (omega arith, behind_n n xs)

  once-beside : (A B : Standard V) → IsWithin Any A → IsOnce A → IsOnce B → IsOnce (beside R A B)
  once-beside A B w h g = (
    once-append (size_of A) A.start.moves (moved (size_of A) B.start.moves) (below_n (size_of A) A.start.moves w.0) (behind_n (size_of A) B.start.moves) h.0 (once-moved (size_of A) B.start.moves g.0),
    all_once-append A.positions (map (moved_position (size_of A)) B.positions) h.1 (all_once-moved (size_of A) B.positions g.1),
  )

  once-followed : (n : ℕ) (ys : Moves V) (c : V) (p : Position V) → Are (IsTo Any n) p.moves → Once p.moves → Once ys → Once (followed R equal (moved n ys) c p).moves
  once-followed n ys c p w h g =
      once-append n p.moves (copied R equal p.final (moved n ys)) (below_n n p.moves w) (are-copied R equal (λ a i. n ≤ i) p.final (moved n ys) (behind_n n ys)) h (once-copied R equal p.final (moved n ys) (once-moved n ys g))

  all_once-followed : (n : ℕ) (ys : Moves V) (c : V) (ps : List (Position V)) → AreAll (IsTo Any n) ps → AllOnce ps → Once ys → AllOnce (map (followed R equal (moved n ys) c) ps)
  all_once-followed n ys c [] w h g = tt
  all_once-followed n ys c (p ∷ ps) w h g = (once-followed n ys c p w.0 h.0 g, all_once-followed n ys c ps w.1 h.1 g)

  once-chained : (A B : Standard V) → IsWithin Any A → IsOnce A → IsOnce B → IsOnce (chained R equal A B)
  once-chained A B w h g = (
    once-followed (size_of A) B.start.moves B.start.final A.start w.0 h.0 g.0,
    all_once-append (map (followed R equal (moved (size_of A) B.start.moves) B.start.final) A.positions) (map (moved_position (size_of A)) B.positions)
        (all_once-followed (size_of A) B.start.moves B.start.final A.positions w.1 h.1 g.0) (all_once-moved (size_of A) B.positions g.1),
  )

  all_once-again : (xs : Moves V) (c : V) (ps : List (Position V)) → AllOnce ps → AllOnce (map (again R equal xs c) ps)
  all_once-again xs c [] h = tt
  all_once-again xs c (p ∷ ps) h = (once-grouped R p.moves (copied R equal p.final xs) h.0, all_once-again xs c ps h.1)

  all_once-met : (m : ℕ) (p : Position V) (qs : List (Position V)) → AreAll (IsTo Any m) qs → Once p.moves → AllOnce qs → AllOnce (map (met R m p) qs)
  all_once-met m p [] w h g = tt
  all_once-met m p (q ∷ qs) w h g = (once-met R m p.moves q.moves (below_n m q.moves w.0) h g.0, all_once-met m p qs w.1 h g.1)

  all_once-pairs : (m : ℕ) (ps qs : List (Position V)) → AreAll (IsTo Any m) qs → AllOnce ps → AllOnce qs → AllOnce (flat_map (λ p. map (met R m p) qs) ps)
  all_once-pairs m [] qs w h g = tt
  all_once-pairs m (p ∷ ps) qs w h g = all_once-append (map (met R m p) qs) (flat_map (λ p. map (met R m p) qs) ps) (all_once-met m p qs w h.0 g) (all_once-pairs m ps qs w h.1 g)

  apart : (m j a b : ℕ) → a * (m + 1) + m + j ≡ b * (m + 1) + m + j → a ≡ b
  apart m j a b e = let h : a * (m + 1) + m ≡ b * (m + 1) + m = omega (arith, e) in let l : m < m + 1 = omega arith in sym (div-mul-add a (m + 1) m l) ∙ ap (λ n. n / (m + 1)) h ∙ div-mul-add b (m + 1) m l

  once-mixed : (m i j : ℕ) (p q : Position V) → Once p.moves → Once (mixed R m i j p q).moves
  once-mixed m i j p q h = once-grouped R (mapped (λ k. k * (m + 1) + m + j) p.moves) (mapped (λ k. i * (m + 1) + k) q.moves) (once-mapped (λ k. k * (m + 1) + m + j) (apart m j) p.moves h)

  all_once-row : (m i j : ℕ) (p : Position V) (qs : List (Position V)) → Once p.moves → AllOnce (mixed_row R m i j p qs)
  all_once-row m i j p [] h = tt
  all_once-row m i j p (q ∷ qs) h = (once-mixed m i j p q h, all_once-row m i (j + 1) p qs h)

  all_once-rows : (m i : ℕ) (ps qs : List (Position V)) → AllOnce ps → AllOnce (mixed_rows R m i ps qs)
  all_once-rows m i [] qs h = tt
  all_once-rows m i (p ∷ ps) qs h = all_once-append (mixed_row R m i 0 p qs) (mixed_rows R m (i + 1) ps qs) (all_once-row m i 0 p qs h.0) (all_once-rows m (i + 1) ps qs h.1)

  mutual
    any_atoms : (t : Term V) → AtomsAre Any t
    any_atoms Zero = tt
    any_atoms One = tt
    any_atoms (Atom a) = tt
    any_atoms (Sum ts) = all_any_atoms ts
    any_atoms (Product ts) = all_any_atoms ts
    any_atoms (Star t) = any_atoms t
    any_atoms (Weight k t) = any_atoms t
    any_atoms (Both t u) = (any_atoms t, any_atoms u)
    any_atoms (Shuffle t u) = (any_atoms t, any_atoms u)

    all_any_atoms : (ts : Terms V) → AllAtomsAre Any ts
    all_any_atoms NoTerms = tt
    all_any_atoms (MoreTerms t ts) = (any_atoms t, all_any_atoms ts)

  within_any : (t : Term V) → IsWithin Any (standard_of R equal t)
  within_any t = within-standard R equal Any t (any_atoms t)

  mutual
    pub once-standard : (t : Term V) → IsOnce (standard_of R equal t)
    once-standard Zero = (tt, tt)
    once-standard One = (tt, tt)
    once-standard (Atom a) = (((λ i. i), tt), (tt, tt))
    once-standard (Sum ts) = once-beside_all (bare R.zero) ts (tt, tt) (tt, tt)
    once-standard (Product ts) = once-chained_all (bare R.one) ts (tt, tt) (tt, tt)
    once-standard (Star t) =
        let A = standard_of R equal t in
        let h = star_or_zero R A.start.final in
        let r = once-standard t in
        (once-scaled R h A.start.moves r.0, all_once-again (scaled_items R h A.start.moves) h A.positions r.1)
    once-standard (Weight k t) = let r = once-standard t in (once-scaled R k (standard_of R equal t).start.moves r.0, r.1)
    once-standard (Both t u) =
        let A = standard_of R equal t in
        let B = standard_of R equal u in
        let r = once-standard t in
        let q = once-standard u in
        let w = within_any u in
        (once-met R (size_of B) A.start.moves B.start.moves (below_n (size_of B) B.start.moves w.0) r.0 q.0, all_once-pairs (size_of B) A.positions B.positions w.1 r.1 q.1)
    once-standard (Shuffle t u) =
        let A = standard_of R equal t in
        let B = standard_of R equal u in
        let r = once-standard t in (
          once-mixed (size_of B) 0 0 A.start B.start r.0,
          all_once-append (mixed_row R (size_of B) 0 1 A.start B.positions) (mixed_rows R (size_of B) 1 A.positions (B.start ∷ B.positions)) (all_once-row (size_of B) 0 1 A.start B.positions r.0) (all_once-rows (size_of B) 1 A.positions (B.start ∷ B.positions) r.1),
        )

    once-beside_all : (A : Standard V) (ts : Terms V) → IsWithin Any A → IsOnce A → IsOnce (beside_all R equal A ts)
    once-beside_all A NoTerms w h = h
    once-beside_all A (MoreTerms t ts) w h =
        once-beside_all (beside R A (standard_of R equal t)) ts (within-beside R equal Any A (standard_of R equal t) w (within_any t)) (once-beside A (standard_of R equal t) w h (once-standard t))

    once-chained_all : (A : Standard V) (ts : Terms V) → IsWithin Any A → IsOnce A → IsOnce (chained_all R equal A ts)
    once-chained_all A NoTerms w h = h
    once-chained_all A (MoreTerms t ts) w h =
        once-chained_all (chained R equal A (standard_of R equal t)) ts (within-chained R equal Any A (standard_of R equal t) w (within_any t)) (once-chained A (standard_of R equal t) w h (once-standard t))

module _ {V : Type 0} where
  leaving_triples : (i : ℕ) (xs : Moves V) → map triple (leaving i xs) ≡ map (λ (k : Word × ℕ). (i, k.0, suc k.1)) (map item_key xs)
  leaving_triples i [] = refl
  leaving_triples i (x ∷ xs) = ap (λ (ts : List (ℕ × Word × ℕ)). (i, x.label, suc x.to) ∷ ts) (leaving_triples i xs)

  once-leaving : (i : ℕ) (xs : Moves V) → Once xs → NoRepeat (map triple (leaving i xs))
  once-leaving i xs h =
      subst NoRepeat (sym (leaving_triples i xs)) (NoRepeat-map (λ (k : Word × ℕ). (i, k.0, suc k.1)) (map item_key xs)
      (λ k l a b e.
      let p = ap (λ (z : ℕ × Word × ℕ). z.1) e in
      let q : suc k.1 ≡ suc l.1 = ap (λ (z : ℕ × Word × ℕ). z.2) e in
      let r : k.1 ≡ l.1 = omega (arith, q) in
      ap₂ (λ (w : Word) (j : ℕ). (w, j)) p r) h)

  at : (i : ℕ) (xs : Moves V) (d : ℕ × Word × ℕ) → In d (map triple (leaving i xs)) → d.0 ≡ i
  at i [] d m = absurd m
  at i (x ∷ xs) d (inl q) = ap (λ (z : ℕ × Word × ℕ). z.0) q
  at i (x ∷ xs) d (inr m) = at i xs d m

  later : (i : ℕ) (ps : List (Position V)) (d : ℕ × Word × ℕ) → In d (map triple (leaving_all i ps)) → i ≤ d.0
  later i [] d k = absurd k
  later i (p ∷ ps) d k =
      elim (In-append_cases d (map triple (leaving i p.moves)) (map triple (leaving_all (suc i) ps)) (subst (In d) (map-append triple (leaving i p.moves) (leaving_all (suc i) ps)) k)) [
        | inl m ↦ let e = at i p.moves d m in omega (arith, e)
        | inr m ↦ let h = later (suc i) ps d m in omega (arith, h)
      ]

  pub once-all : (i : ℕ) (ps : List (Position V)) → AllOnce ps → NoRepeat (map triple (leaving_all i ps))
  once-all i [] h = tt
  once-all i (p ∷ ps) h =
      subst NoRepeat (sym (map-append triple (leaving i p.moves) (leaving_all (suc i) ps)))
      (NoRepeat-append (map triple (leaving i p.moves)) (map triple (leaving_all (suc i) ps)) (once-leaving i p.moves h.0) (once-all (suc i) ps h.1)
      (λ d k l. let e = at i p.moves d k in let g = later (suc i) ps d l in absurd (omega (arith, e, g))))
