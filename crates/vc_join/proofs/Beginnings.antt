-- The initial weights of pairs.
use Rattle.std.proofs.Common.{◌≡◌, ℕ, List, map, Bool, true, false, refl, sym, ap, ◌∙◌, subst, ◌<◌, arith, length, get_or, inl, inr, ◌⊎◌}
use Rattle.std.specs.Prelude.{not}
use Rattle.vc_model.specs.Automata.{Automaton, initial_weight}
use Rattle.vc_products.specs.LetterProducts.{initial_pairs_sum}
use Rattle.vc_model.specs.Lists.{In, NoRepeat, IsEqualityTest, below}
use Rattle.vc_model.specs.Members.{In-filter, In-map, In-map_from, In-flat_map, In-flat_map_from, In-up_from, up_from-In, NoRepeat-up_from, NoRepeat-map, NoRepeat-flat_map}
use Rattle.vc_model.specs.Moves.{initial_sum}
use Rattle.vc_model.specs.Rearranged.{zero_times}
use Rattle.vc_model.specs.SumLaws.{sum_same, sum-flat_map, sum-map}
use Rattle.vc_model.specs.Sums.{sum_over}
use Rattle.vc_model.specs.WeightSet.{WeightSet, SemiringLaws}
use Rattle.vc_join.proofs.PlaceSums.{sum_places}
use Rattle.vc_join.proofs.Steps.{paired}
use Rattle.vc_join.specs.Pairs.{Pair, pairs_of, starts_of, first_pairs, IsOfStates}

-- lists without repeats whose other members have the value zero have one sum
abbrev pub OtherSums : {V : Type 0} → WeightSet V → Type 0
OtherSums {V} R = (f : Pair → V) (xs ys : List Pair) → NoRepeat xs → NoRepeat ys → ((x : Pair) → In x xs → (f x ≡ R.zero) ⊎ In x ys) → ((y : Pair) → In y ys → (f y ≡ R.zero) ⊎ In y xs) → sum_over R f xs ≡ sum_over R f ys

row_once : (p : ℕ) (qs : List ℕ) → NoRepeat qs → NoRepeat (map (λ (q : ℕ). paired p q) qs)
row_once p qs n = NoRepeat-map (λ (q : ℕ). paired p q) qs (λ a b i j e. ap (λ (z : Pair). z.1) e) n

pairs_once : (n m : ℕ) → NoRepeat (pairs_of (below n) (below m))
pairs_once n m = NoRepeat-flat_map (λ (p : ℕ). map (λ (q : ℕ). paired p q) (below m)) (below n) (NoRepeat-up_from 0 n) (λ p i. row_once p (below m) (NoRepeat-up_from 0 m))
    (λ p z y i j a b. let r = In-map_from (λ (q : ℕ). paired p q) y (below m) a in let s = In-map_from (λ (q : ℕ). paired z q) y (below m) b in ap (λ (k : Pair). k.0) (sym r.2 ∙ s.2))

pair_in : (ps qs : List ℕ) (k : Pair) → In k.0 ps → In k.1 qs → In k (pairs_of ps qs)
pair_in ps qs k i j = In-flat_map (λ (p : ℕ). map (λ (q : ℕ). paired p q) qs) k k.0 ps i (In-map (λ (q : ℕ). paired k.0 q) k.1 qs j)

pair_parts : (ps qs : List ℕ) (k : Pair) → In k (pairs_of ps qs) → In k.0 ps × In k.1 qs
pair_parts ps qs k i =
    let r = In-flat_map_from (λ (p : ℕ). map (λ (q : ℕ). paired p q) qs) k ps i in
    let s = In-map_from (λ (q : ℕ). paired r.0 q) k qs r.2 in
    (subst (λ z. In z ps) (sym (ap (λ (z : Pair). z.0) s.2)) r.1, subst (λ z. In z qs) (sym (ap (λ (z : Pair). z.1) s.2)) s.1)

module _ {V : Type 0} (R : WeightSet V) (L : SemiringLaws R) (same : V → V → Bool) (T : IsEqualityTest same) (A B : Automaton V) where
  start_in : (C : Automaton V) (p : ℕ) → p < C.states → same (initial_weight R C p) R.zero ≡ false → In p (starts_of R same C)
  start_in C p h e = In-filter (λ q. not (same (initial_weight R C q) R.zero)) p (below C.states) (up_from-In p 0 C.states (omega arith) (omega arith)) (ap not e)

  abbrev value : (ℕ → ℕ → V) → Pair → V
  value g k = R.times (R.times (initial_weight R A k.0) (initial_weight R B k.1)) (g k.0 k.1)

  -- a pair begins with zero, or is one of the first
  zero_or_first : (g : ℕ → ℕ → V) (k : Pair) → k.0 < A.states → k.1 < B.states → (value g k ≡ R.zero) ⊎ In k (first_pairs R same A B)
  zero_or_first g k h j = go (same (initial_weight R A k.0) R.zero) (same (initial_weight R B k.1) R.zero) refl refl
    where
      go : (a b : Bool) → same (initial_weight R A k.0) R.zero ≡ a → same (initial_weight R B k.1) R.zero ≡ b → (value g k ≡ R.zero) ⊎ In k (first_pairs R same A B)
      go true b e f = inl (ap (λ v. R.times (R.times v (initial_weight R B k.1)) (g k.0 k.1)) ((T (initial_weight R A k.0) R.zero).0 e) ∙ ap (λ v. R.times v (g k.0 k.1)) (zero_times L (initial_weight R B k.1)) ∙ zero_times L (g k.0 k.1))
      go false true e f = inl (ap (λ v. R.times (R.times (initial_weight R A k.0) v) (g k.0 k.1)) ((T (initial_weight R B k.1) R.zero).0 f) ∙ ap (λ v. R.times v (g k.0 k.1)) (L.times_zero (initial_weight R A k.0)) ∙ zero_times L (g k.0 k.1))
      go false false e f = inr (pair_in (starts_of R same A) (starts_of R same B) k (start_in A k.0 h e) (start_in B k.1 j f))

  -- over the states that stand for pairs, the sum of initial weight times value is that over all pairs
  pub initial_pairs : (P : Automaton V) (ks : List Pair) (d : Pair) → P.states ≡ length ks → NoRepeat ks
      → ((i : ℕ) → i < length ks → initial_weight R P i ≡ R.times (initial_weight R A (get_or ks i d).0) (initial_weight R B (get_or ks i d).1))
      → ((k : Pair) → In k ks → IsOfStates A B k) → ((k : Pair) → In k (first_pairs R same A B) → In k ks)
      → OtherSums R
      → (g : ℕ → ℕ → V) → initial_sum R P (λ i. g (get_or ks i d).0 (get_or ks i d).1) ≡ initial_pairs_sum R A B g
  initial_pairs P ks d s once w states firsts others g =
      let all = pairs_of (below A.states) (below B.states) in
      ap (λ n. sum_over R (λ p. R.times (initial_weight R P p) (g (get_or ks p d).0 (get_or ks p d).1)) (below n)) s
      ∙ sum_same L _ _ (below (length ks)) (λ i j. ap (λ v. R.times v (g (get_or ks i d).0 (get_or ks i d).1)) (w i (let r = In-up_from i 0 (length ks) j in omega (arith, r.1))))
      ∙ sum_places R L (value g) ks d
      ∙ others (value g) ks all once (pairs_once A.states B.states)
      (λ k i. let h = states k i in inr (pair_in (below A.states) (below B.states) k (up_from-In k.0 0 A.states (omega arith) (omega (arith, h.0))) (up_from-In k.1 0 B.states (omega arith) (omega (arith, h.1)))))
      (λ k i. let h = pair_parts (below A.states) (below B.states) k i in
      let a = In-up_from k.0 0 A.states h.0 in let b = In-up_from k.1 0 B.states h.1 in
      elim (zero_or_first g k (omega (arith, a.1)) (omega (arith, b.1))) [ inl z ↦ inl z | inr j ↦ inr (firsts k j) ])
      ∙ sum-flat_map L (value g) (λ (p : ℕ). map (λ (q : ℕ). paired p q) (below B.states)) (below A.states)
      ∙ sum_same L _ _ (below A.states) (λ p i. sum-map L (value g) (λ (q : ℕ). paired p q) (below B.states))
