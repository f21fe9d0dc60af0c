-- The states of a product of pairs move as both states of the pair do by the same letter.
use Rattle.std.proofs.Common.{◌≡◌, ℕ, List, [], ◌∷◌, map, Bool, true, false, cond, refl, sym, ap, ap₂, ◌∙◌, subst, ◌<◌, arith, length, get_or, inl, inr, zero, suc}
use Rattle.std.specs.Prelude.{◌==◌, ◌&&◌}
use Rattle.std.specs.List.{filter}
use Rattle.std.proofs.lemmas.Bool.{eqb-true, eq-eqb, false≢true}
use Rattle.vc_model.specs.Automata.{Automaton, Transition}
use Rattle.vc_model.specs.Choices.{times-cond}
use Rattle.vc_model.specs.Items.{Item, taken}
use Rattle.vc_aut.specs.Order.{moves_from}
use Rattle.vc_model.specs.Letters.{HasLetters, letter_in, letter_of, step_sum}
use Rattle.vc_model.specs.Lists.{In, NoRepeat, IsEqualityTest}
use Rattle.vc_model.specs.Machines.{StandsFor}
use Rattle.vc_model.specs.Sums.{sum_over}
use Rattle.vc_model.specs.SumLaws.{sum_same, sum_zero, sum-filter, sum-times, sum-map, sum-flat_map}
use Rattle.vc_model.specs.WeightSet.{WeightSet, SemiringLaws}
use Rattle.vc_model.specs.Words.{Word, same_word}
use Rattle.vc_search.specs.Explored.{IsExplored}
use Rattle.vc_join.specs.Conjunctions.{both_item, both_items, conjunction_items}
use Rattle.vc_join.specs.Pairs.{Pair, first_pairs, no_pair, same_states, pair_initial, pair_final, IsOfStates}
use Rattle.vc_join.specs.Products.{MovesTogether}
use Rattle.vc_join.proofs.Beginnings.{OtherSums, initial_pairs}
use Rattle.vc_join.proofs.PlaceSums.{mapped_at}

module _ {V : Type 0} (R : WeightSet V) (L : SemiringLaws R) (h : Word → Pair → V) where
  run_sum : (t : Transition V) (us : List (Transition V)) → taken R h (map (both_item R t) us) ≡ sum_over R (λ (u : Transition V). R.times (R.times t.weight u.weight) (h t.label (t.to, u.to))) us
  run_sum t us = sum-map L (λ (z : Item V Pair). R.times z.weight (h z.label z.to)) (both_item R t) us

  pub both_sum : (ts us : List (Transition V)) → taken R h (both_items R ts us) ≡ sum_over R (λ (t : Transition V). sum_over R (λ (u : Transition V). R.times (R.times t.weight u.weight) (h t.label (t.to, u.to))) (filter (λ (u : Transition V). same_word t.label u.label) us)) ts
  both_sum ts us =
      sum-flat_map L (λ (z : Item V Pair). R.times z.weight (h z.label z.to)) (λ (t : Transition V). map (both_item R t) (filter (λ (u : Transition V). same_word t.label u.label) us)) ts
      ∙ sum_same L _ _ ts (λ t i. run_sum t (filter (λ (u : Transition V). same_word t.label u.label) us))

eq_turned : (a b : ℕ) → (((a == b) && true) && true) ≡ (b == a)
eq_turned a b = go (a == b) (b == a) refl refl
  where
    go : (x y : Bool) → (a == b) ≡ x → (b == a) ≡ y → ((x && true) && true) ≡ y
    go true true e f = refl
    go false false e f = refl
    go true false e f = absurd (false≢true (sym f ∙ eq-eqb b a (sym (eqb-true a b e))))
    go false true e f = absurd (false≢true (sym e ∙ eq-eqb a b (sym (eqb-true b a f))))

module _ {V : Type 0} (R : WeightSet V) (L : SemiringLaws R) (A B : Automaton V) (lA : HasLetters A) (lB : HasLetters B) where
  same_letter : (t u : Transition V) → In t A.transitions → In u B.transitions → same_word t.label u.label ≡ (letter_of u == letter_of t)
  same_letter t u i j = ap₂ same_word (lA t i) (lB u j) ∙ eq_turned (letter_of t) (letter_of u)

  module _ (q x : ℕ) (g : ℕ → ℕ → V) where
    -- what a transition meets by its letter
    inner : (t : Transition V) → In t A.transitions
        → sum_over R (λ (u : Transition V). R.times (R.times t.weight u.weight) (cond (letter_of t == x) (g t.to u.to) R.zero)) (filter (λ (u : Transition V). same_word t.label u.label) (moves_from B.transitions q))
        ≡ cond (letter_of t == x) (R.times t.weight (step_sum R B q x (λ b. g t.to b))) R.zero
    inner t i = go (letter_of t == x) refl
      where
        one : letter_of t ≡ x → (u : Transition V) → In u B.transitions
            → cond (u.from == q) (cond (same_word t.label u.label) (R.times (R.times t.weight u.weight) (g t.to u.to)) R.zero) R.zero ≡ R.times t.weight (cond (u.from == q) (cond (letter_of u == x) (R.times u.weight (g t.to u.to)) R.zero) R.zero)
        one e u j =
            ap (λ b. cond (u.from == q) (cond b (R.times (R.times t.weight u.weight) (g t.to u.to)) R.zero) R.zero) (same_letter t u i j ∙ ap (λ y. letter_of u == y) e)
            ∙ ap (λ v. cond (u.from == q) (cond (letter_of u == x) v R.zero) R.zero) (L.times_assoc t.weight u.weight (g t.to u.to))
            ∙ ap (λ v. cond (u.from == q) v R.zero) (sym (times-cond L t.weight (letter_of u == x) (R.times u.weight (g t.to u.to))))
            ∙ sym (times-cond L t.weight (u.from == q) (cond (letter_of u == x) (R.times u.weight (g t.to u.to)) R.zero))

        go : (b : Bool) → (letter_of t == x) ≡ b
            → sum_over R (λ (u : Transition V). R.times (R.times t.weight u.weight) (cond b (g t.to u.to) R.zero)) (filter (λ (u : Transition V). same_word t.label u.label) (moves_from B.transitions q)) ≡ cond b (R.times t.weight (step_sum R B q x (λ b. g t.to b))) R.zero
        go true e =
            sum-filter L (λ (u : Transition V). R.times (R.times t.weight u.weight) (g t.to u.to)) (λ (u : Transition V). same_word t.label u.label) (moves_from B.transitions q)
            ∙ sum-filter L (λ (u : Transition V). cond (same_word t.label u.label) (R.times (R.times t.weight u.weight) (g t.to u.to)) R.zero) (λ (u : Transition V). u.from == q) B.transitions
            ∙ sum_same L _ _ B.transitions (one (eqb-true (letter_of t) x e))
            ∙ sum-times L t.weight (λ (u : Transition V). cond (u.from == q) (cond (letter_of u == x) (R.times u.weight (g t.to u.to)) R.zero) R.zero) B.transitions
        go false e = sum_zero L _ (filter (λ (u : Transition V). same_word t.label u.label) (moves_from B.transitions q)) (λ u j. L.times_zero (R.times t.weight u.weight))

    -- what both meet
    step_is : (p : ℕ) → sum_over R (λ (t : Transition V). sum_over R (λ (u : Transition V). R.times (R.times t.weight u.weight) (cond (letter_of t == x) (g t.to u.to) R.zero)) (filter (λ (u : Transition V). same_word t.label u.label) (moves_from B.transitions q))) (moves_from A.transitions p)
        ≡ step_sum R A p x (λ a. step_sum R B q x (λ b. g a b))
    step_is p =
        sum-filter L (λ (t : Transition V). sum_over R (λ (u : Transition V). R.times (R.times t.weight u.weight) (cond (letter_of t == x) (g t.to u.to) R.zero)) (filter (λ (u : Transition V). same_word t.label u.label) (moves_from B.transitions q))) (λ (t : Transition V). t.from == p) A.transitions
        ∙ sum_same L _ _ A.transitions (λ t i. ap (λ v. cond (t.from == p) v R.zero) (inner t i))

  -- a state that stands for a pair moves as both
  pub pair_steps : (P : Automaton V) (state : ℕ → Pair) (i x : ℕ) (g : ℕ → ℕ → V) (final : Pair → V) → StandsFor R P state final (conjunction_items R A B) → i < P.states
      → step_sum R P i x (λ j. g (state j).0 (state j).1) ≡ step_sum R A (state i).0 x (λ a. step_sum R B (state i).1 x (λ b. g a b))
  pair_steps P state i x g final S h =
      sum_same L _ _ P.transitions (λ t j. ap (λ v. cond (t.from == i) v R.zero) (sym (times-cond L t.weight (letter_of t == x) (g (state t.to).0 (state t.to).1))))
      ∙ S.steps i (λ a k. cond (letter_in a == x) (g k.0 k.1) R.zero) h
      ∙ both_sum R L (λ a k. cond (letter_in a == x) (g k.0 k.1) R.zero) (moves_from A.transitions (state i).0) (moves_from B.transitions (state i).1)
      ∙ step_is (state i).1 x g (state i).0

pub get_or-In : {X : Type 0} (xs : List X) (i : ℕ) (d : X) → i < length xs → In (get_or xs i d) xs
get_or-In [] i d h = absurd (omega arith)
get_or-In (x ∷ xs) zero d h = inl refl
get_or-In (x ∷ xs) (suc i) d h = inr (get_or-In xs i d (omega arith))

-- the product of pairs is a conjunction
pub conjoined : {V : Type 0} (R : WeightSet V) (L : SemiringLaws R) (same : V → V → Bool) (T : IsEqualityTest same) (A B P : Automaton V) → HasLetters A → HasLetters B
    → (ks : List Pair) (X : IsExplored R same_states no_pair (conjunction_items R A B) (pair_initial R A B) (pair_final R A B) ks P)
    → StandsFor R P (λ i. get_or ks i no_pair) (pair_final R A B) (conjunction_items R A B)
    → ((k : Pair) → In k (first_pairs R same A B) → In k ks) → NoRepeat ks → ((k : Pair) → In k ks → IsOfStates A B k) → OtherSums R → MovesTogether R A B P
conjoined R L same T A B P lA lB ks X S firsts once all others =
    let state = λ (i : ℕ). get_or ks i no_pair in
    let at : (i : ℕ) → i < P.states → i < length ks = λ i h. subst (λ n. i < n) X.states h in
    record {
      left = λ i. (state i).0;
      right = λ i. (state i).1;
      conjunction = record {
        initial = initial_pairs R L same T A B P ks no_pair X.states once (λ i h. ap (λ ws. get_or ws i R.zero) X.begins ∙ mapped_at (pair_initial R A B) ks i no_pair R.zero h) all firsts others;
        final = λ i h. S.ends i h;
        steps = λ i x g h. pair_steps R L A B lA lB P state i x g (pair_final R A B) S h;
        left_below = λ i h. (all (state i) (get_or-In ks i no_pair (at i h))).0;
        right_below = λ i h. (all (state i) (get_or-In ks i no_pair (at i h))).1;
      };
    }
