-- Each transition of the structure of a tree leads to one of its positions, and has a label of the tree.
use Rattle.std.proofs.Common.{◌≡◌, ℕ, suc, List, [], ◌∷◌, map, Bool, ap, ◌∙◌, length, ◌+◌, ◌*◌, ◌≤◌, arith}
use Rattle.std.specs.List.{flat_map}
use Rattle.std.proofs.lemmas.List.{length-map}
use Rattle.vc_model.specs.WeightSet.{WeightSet}
use Rattle.vc_model.specs.Words.{Word}
use Rattle.vc_model.specs.Series.{star_or_zero}
use Rattle.vc_terms.specs.ItemLists.{scaled_items, mapped}
use Rattle.vc_terms.specs.Terms.{Term, Terms, NoTerms, MoreTerms, Zero, One, Atom, Sum, Product, Star, Weight, Both, Shuffle}
use Rattle.vc_terms.specs.Expansions.{AtomsAre, AllAtomsAre}
use Rattle.vc_standard.specs.Structures.{Moves, Standard, Position, size_of, bare, beside, chained, copied, moved_position, followed, moved, again, met, mixed, mixed_row, mixed_rows, standard_of, beside_all, chained_all, looped, conjoined, shuffled}
use Rattle.vc_standard.specs.Within.{Are, AreAll, IsTo, IsWithin}
use Rattle.vc_standard.proofs.Sizes.{size-beside, size-chained, length-pairs, length-row, length-rows}
use Rattle.vc_standard.proofs.MoveLaws.{are-weaker, all-weaker, are-append, all-append, all-map, are-mapped, are-grouped, are-scaled, are-copied, are-met}
use Rattle.vc_standard.proofs.Numbers.{pair_below, row_below}
use Rattle.std.proofs.lemmas.List.{length-append}

module _ {V : Type 0} (R : WeightSet V) (equal : V → V → Bool) (Q : Word → Type 0) where
  -- more places
  wider : (n m : ℕ) → n ≤ m → (a : Word) (i : ℕ) → IsTo Q n a i → IsTo Q m a i
  wider n m h a i k = let l = k.1 in (k.0, omega (arith, l, h))

  -- behind others
  behind : (n m s : ℕ) → s ≡ n + m → (a : Word) (i : ℕ) → IsTo Q m a i → IsTo Q s a (n + i)
  behind n m s e a i k = let l = k.1 in (k.0, omega (arith, l, e))

  are-moved : (n m s : ℕ) → s ≡ n + m → (xs : Moves V) → Are (IsTo Q m) xs → Are (IsTo Q s) (moved n xs)
  are-moved n m s e xs h = are-mapped (IsTo Q m) (IsTo Q s) (λ i. n + i) (behind n m s e) xs h

  pub within-beside : (A B : Standard V) → IsWithin Q A → IsWithin Q B → IsWithin Q (beside R A B)
  within-beside A B h g =
      let e = size-beside R A B in
      let n = size_of A in
      let m = size_of B in
      let s = size_of (beside R A B) in
      let l : n ≤ s = omega (arith, e) in (
        are-append (IsTo Q s) A.start.moves (moved n B.start.moves) (are-weaker (IsTo Q n) (IsTo Q s) (wider n s l) A.start.moves h.0) (are-moved n m s e B.start.moves g.0),
        all-append (IsTo Q s) A.positions (map (moved_position n) B.positions) (all-weaker (IsTo Q n) (IsTo Q s) (wider n s l) A.positions h.1)
            (all-map (IsTo Q m) (IsTo Q s) (moved_position n) (λ p k. are-moved n m s e p.moves k) B.positions g.1),
      )

  pub within-chained : (A B : Standard V) → IsWithin Q A → IsWithin Q B → IsWithin Q (chained R equal A B)
  within-chained A B h g =
      let e = size-chained R equal A B in
      let n = size_of A in
      let m = size_of B in
      let s = size_of (chained R equal A B) in
      let l : n ≤ s = omega (arith, e) in
      let b = are-moved n m s e B.start.moves g.0 in (
        are-append (IsTo Q s) A.start.moves (copied R equal A.start.final (moved n B.start.moves)) (are-weaker (IsTo Q n) (IsTo Q s) (wider n s l) A.start.moves h.0) (are-copied R equal (IsTo Q s) A.start.final (moved n B.start.moves) b),
        all-append (IsTo Q s) (map (followed R equal (moved n B.start.moves) B.start.final) A.positions) (map (moved_position n) B.positions)
            (all-map (IsTo Q n) (IsTo Q s) (followed R equal (moved n B.start.moves) B.start.final)
            (λ p k. are-append (IsTo Q s) p.moves (copied R equal p.final (moved n B.start.moves)) (are-weaker (IsTo Q n) (IsTo Q s) (wider n s l) p.moves k) (are-copied R equal (IsTo Q s) p.final (moved n B.start.moves) b)) A.positions h.1)
            (all-map (IsTo Q m) (IsTo Q s) (moved_position n) (λ p k. are-moved n m s e p.moves k) B.positions g.1),
      )

  pub within-looped : (c : V) (A : Standard V) → IsWithin Q A → IsWithin Q (looped R equal c A)
  within-looped c A h =
      let n = size_of A in
      let s = size_of (looped R equal c A) in
      let e : s ≡ n = length-map A.positions (again R equal (scaled_items R c A.start.moves) c) in
      let l : n ≤ s = omega (arith, e) in
      let b = are-scaled R (IsTo Q s) c A.start.moves (are-weaker (IsTo Q n) (IsTo Q s) (wider n s l) A.start.moves h.0) in (
        b,
        all-map (IsTo Q n) (IsTo Q s) (again R equal (scaled_items R c A.start.moves) c)
            (λ p k. are-grouped R (IsTo Q s) p.moves (copied R equal p.final (scaled_items R c A.start.moves)) (are-weaker (IsTo Q n) (IsTo Q s) (wider n s l) p.moves k) (are-copied R equal (IsTo Q s) p.final (scaled_items R c A.start.moves) b)) A.positions h.1,
      )

  pub within-met : (n m s : ℕ) → s ≡ n * m → (p q : Position V) → Are (IsTo Q n) p.moves → Are (IsTo Q m) q.moves → Are (IsTo Q s) (met R m p q).moves
  within-met n m s e p q h g =
      are-met R (IsTo Q n) (IsTo Q m) (IsTo Q s) (λ i j. i * m + j) (λ a b i j k l. let c = pair_below i n j m k.1 l.1 in (k.0, omega (arith, c, e))) p.moves q.moves h g

  pub within-pairs : (n m s : ℕ) → s ≡ n * m → (ps qs : List (Position V)) → AreAll (IsTo Q n) ps → AreAll (IsTo Q m) qs → AreAll (IsTo Q s) (flat_map (λ p. map (met R m p) qs) ps)
  within-pairs n m s e [] qs h g = tt
  within-pairs n m s e (p ∷ ps) qs h g =
      all-append (IsTo Q s) (map (met R m p) qs) (flat_map (λ r. map (met R m r) qs) ps) (all-map (IsTo Q m) (IsTo Q s) (met R m p) (λ q k. within-met n m s e p q h.0 k) qs g)
      (within-pairs n m s e ps qs h.1 g)

  pub within-mixed : (n m s i j : ℕ) → s ≡ m + n * (m + 1) → i ≤ n → j ≤ m → (p q : Position V) → Are (IsTo Q n) p.moves → Are (IsTo Q m) q.moves → Are (IsTo Q s) (mixed R m i j p q).moves
  within-mixed n m s i j e u v p q h g =
      are-grouped R (IsTo Q s) (mapped (λ k. k * (m + 1) + m + j) p.moves) (mapped (λ k. i * (m + 1) + k) q.moves)
      (are-mapped (IsTo Q n) (IsTo Q s) (λ k. k * (m + 1) + m + j) (λ a k l. let c = pair_below k n j (m + 1) l.1 (omega (arith, v)) in (l.0, omega (arith, c, e))) p.moves h)
      (are-mapped (IsTo Q m) (IsTo Q s) (λ k. i * (m + 1) + k) (λ a k l. let c = row_below i n (m + 1) u in let d = l.1 in (l.0, omega (arith, c, d, e))) q.moves g)

  pub within-row : (n m s i j : ℕ) → s ≡ m + n * (m + 1) → i ≤ n → (p : Position V) (qs : List (Position V)) → j + length qs ≤ m + 1 → Are (IsTo Q n) p.moves → AreAll (IsTo Q m) qs → AreAll (IsTo Q s) (mixed_row R m i j p qs)
  within-row n m s i j e u p [] l h g = tt
  within-row n m s i j e u p (q ∷ qs) l h g =
      (within-mixed n m s i j e u (omega (arith, l)) p q h g.0, within-row n m s i (j + 1) e u p qs (omega (arith, l)) h g.1)

  pub within-rows : (n m s i : ℕ) → s ≡ m + n * (m + 1) → (ps qs : List (Position V)) → i + length ps ≤ n + 1 → length qs ≤ m + 1 → AreAll (IsTo Q n) ps → AreAll (IsTo Q m) qs → AreAll (IsTo Q s) (mixed_rows R m i ps qs)
  within-rows n m s i e [] qs k l h g = tt
  within-rows n m s i e (p ∷ ps) qs k l h g =
      all-append (IsTo Q s) (mixed_row R m i 0 p qs) (mixed_rows R m (i + 1) ps qs) (within-row n m s i 0 e (omega (arith, k)) p qs (omega (arith, l)) h.0 g)
      (within-rows n m s (i + 1) e ps qs (omega (arith, k)) l h.1 g)

  pub within-shuffled : (A B : Standard V) → IsWithin Q A → IsWithin Q B → IsWithin Q (shuffled R A B)
  within-shuffled A B h g =
      let n = size_of A in
      let m = size_of B in
      let s = size_of (shuffled R A B) in
      let e : s ≡ m + n * (m + 1) =
      length-append (mixed_row R m 0 1 A.start B.positions) (mixed_rows R m 1 A.positions (B.start ∷ B.positions))
      ∙ ap (λ x. x + length (mixed_rows R m 1 A.positions (B.start ∷ B.positions))) (length-row R m 0 1 A.start B.positions)
      ∙ ap (λ x. m + x) (length-rows R m 1 A.positions (B.start ∷ B.positions) ∙ ap (λ x. n * x) (succ m)) in (
        within-mixed n m s 0 0 e (omega arith) (omega arith) A.start B.start h.0 g.0,
        all-append (IsTo Q s) (mixed_row R m 0 1 A.start B.positions) (mixed_rows R m 1 A.positions (B.start ∷ B.positions))
            (within-row n m s 0 1 e (omega arith) A.start B.positions (omega arith) h.0 g.1)
            (within-rows n m s 1 e A.positions (B.start ∷ B.positions) (omega arith) (omega arith) h.1 (g.0, g.1)),
      )
    where
      succ : (m : ℕ) → suc m ≡ m + 1
      succ m = omega arith

  mutual
    pub within-standard : (t : Term V) → AtomsAre Q t → IsWithin Q (standard_of R equal t)
    within-standard Zero h = (tt, tt)
    within-standard One h = (tt, tt)
    within-standard (Atom a) h = (((h, omega arith), tt), (tt, tt))
    within-standard (Sum ts) h = within-beside_all (bare R.zero) ts (tt, tt) h
    within-standard (Product ts) h = within-chained_all (bare R.one) ts (tt, tt) h
    within-standard (Star t) h = within-looped (star_or_zero R (standard_of R equal t).start.final) (standard_of R equal t) (within-standard t h)
    within-standard (Weight k t) h = let r = within-standard t h in (are-scaled R (IsTo Q (size_of (standard_of R equal t))) k (standard_of R equal t).start.moves r.0, r.1)
    within-standard (Both t u) h =
        let A = standard_of R equal t in
        let B = standard_of R equal u in
        let r = within-standard t h.0 in
        let q = within-standard u h.1 in
        let e = length-pairs R (size_of B) A.positions B.positions in
        (within-met (size_of A) (size_of B) (size_of (conjoined R A B)) e A.start B.start r.0 q.0, within-pairs (size_of A) (size_of B) (size_of (conjoined R A B)) e A.positions B.positions r.1 q.1)
    within-standard (Shuffle t u) h = within-shuffled (standard_of R equal t) (standard_of R equal u) (within-standard t h.0) (within-standard u h.1)

    pub within-beside_all : (A : Standard V) (ts : Terms V) → IsWithin Q A → AllAtomsAre Q ts → IsWithin Q (beside_all R equal A ts)
    within-beside_all A NoTerms h g = h
    within-beside_all A (MoreTerms t ts) h g = within-beside_all (beside R A (standard_of R equal t)) ts (within-beside A (standard_of R equal t) h (within-standard t g.0)) g.1

    pub within-chained_all : (A : Standard V) (ts : Terms V) → IsWithin Q A → AllAtomsAre Q ts → IsWithin Q (chained_all R equal A ts)
    within-chained_all A NoTerms h g = h
    within-chained_all A (MoreTerms t ts) h g = within-chained_all (chained R equal A (standard_of R equal t)) ts (within-chained A (standard_of R equal t) h (within-standard t g.0)) g.1
