-- The states of a product of pairs move as one state of the pair does while the other stays.
use Rattle.std.proofs.Common.{◌≡◌, ℕ, List, [], ◌∷◌, map, Bool, cond, refl, sym, ap, ap₂, ◌∙◌, subst, ◌<◌, length, get_or, Less, Equal, Greater}
use Rattle.std.specs.Prelude.{◌==◌, ◌↔◌}
use Rattle.std.specs.Ordering.{match_ordering}
use Rattle.std.specs.declared.cmp.Ordering.{Ordering}
use Rattle.vc_aut.specs.Order.{moves_from}
use Rattle.vc_label.specs.Order.{word_order}
use Rattle.vc_model.specs.Automata.{Automaton, Transition}
use Rattle.vc_model.specs.Choices.{times-cond}
use Rattle.vc_model.specs.Items.{Item, taken}
use Rattle.vc_model.specs.Letters.{letter_in, letter_of, step_sum}
use Rattle.vc_model.specs.Lists.{In, IsEqualityTest, NoRepeat}
use Rattle.vc_model.specs.Machines.{StandsFor}
use Rattle.vc_model.specs.Rearranged.{plus_times}
use Rattle.vc_model.specs.SumLaws.{sum-filter, sum-map, sum_same}
use Rattle.vc_model.specs.WeightSet.{WeightSet, SemiringLaws}
use Rattle.vc_model.specs.Words.{Word}
use Rattle.std.specs.Cmp.{IsTotalOrder}
use Rattle.vc_search.specs.Explored.{IsExplored}
use Rattle.vc_join.specs.Orders.{item_order}
use Rattle.vc_join.specs.Pairs.{Pair, first_pairs, no_pair, same_states, pair_initial, pair_final, IsOfStates}
use Rattle.vc_join.specs.Products.{MovesAlone}
use Rattle.vc_join.specs.Shuffles.{insert_item, insert_items, left_item, right_item, shuffle_items}
use Rattle.vc_join.proofs.Beginnings.{OtherSums, initial_pairs}
use Rattle.vc_join.proofs.Conjoining.{get_or-In}
use Rattle.vc_join.proofs.ItemOrder.{same_key}
use Rattle.vc_join.proofs.PlaceSums.{mapped_at}

module _ {V : Type 0} (R : WeightSet V) (L : SemiringLaws R) where
  module _ (total : IsTotalOrder word_order) (equal : (v w : Word) → (word_order v w ≡ Equal) ↔ (v ≡ w)) (h : Word → Pair → V) where
    abbrev value : Item V Pair → V
    value e = R.times e.weight (h e.label e.to)

    -- an item that is inserted adds its value
    taken-insert : (ds : List (Item V Pair)) (e : Item V Pair) → taken R h (insert_item R ds e) ≡ R.plus (taken R h ds) (value e)
    taken-insert [] e = L.plus_comm (value e) R.zero
    taken-insert (d ∷ ds) e = go (item_order e d) refl (taken-insert ds e)
      where
        go : (o : Ordering) → item_order e d ≡ o → taken R h (insert_item R ds e) ≡ R.plus (taken R h ds) (value e)
            → taken R h (match_ordering o (e ∷ d ∷ ds) (record d { weight = R.plus d.weight e.weight } ∷ ds) (d ∷ insert_item R ds e)) ≡ R.plus (R.plus (value d) (taken R h ds)) (value e)
        go Less p ih = L.plus_comm (value e) (R.plus (value d) (taken R h ds))
        go Equal p ih =
            let k = same_key total equal e d p in
            let v : R.times e.weight (h d.label d.to) ≡ value e = ap (λ (z : Word × Pair). R.times e.weight (h z.0 z.1)) (sym k) in
            ap (λ x. R.plus x (taken R h ds)) (plus_times L d.weight e.weight (h d.label d.to) ∙ ap (R.plus (value d)) v)
            ∙ L.plus_assoc (value d) (value e) (taken R h ds)
            ∙ ap (R.plus (value d)) (L.plus_comm (value e) (taken R h ds))
            ∙ sym (L.plus_assoc (value d) (taken R h ds) (value e))
        go Greater p ih = ap (R.plus (value d)) ih ∙ sym (L.plus_assoc (value d) (taken R h ds) (value e))

    pub taken-inserts : (ds es : List (Item V Pair)) → taken R h (insert_items R ds es) ≡ R.plus (taken R h ds) (taken R h es)
    taken-inserts ds [] = sym (L.plus_zero (taken R h ds))
    taken-inserts ds (e ∷ es) =
        taken-inserts (insert_item R ds e) es
        ∙ ap (λ x. R.plus x (taken R h es)) (taken-insert ds e)
        ∙ L.plus_assoc (taken R h ds) (value e) (taken R h es)

  module _ (x : ℕ) (g : ℕ → ℕ → V) where
    abbrev by_letter : Word → Pair → V
    by_letter a k = cond (letter_in a == x) (g k.0 k.1) R.zero

    left_steps : (A : Automaton V) (p q : ℕ) → taken R by_letter (map (left_item q) (moves_from A.transitions p)) ≡ step_sum R A p x (λ a. g a q)
    left_steps A p q =
        sum-map L (λ (e : Item V Pair). R.times e.weight (by_letter e.label e.to)) (left_item q) (moves_from A.transitions p)
        ∙ sum-filter L (λ (t : Transition V). R.times t.weight (cond (letter_of t == x) (g t.to q) R.zero)) (λ (t : Transition V). t.from == p) A.transitions
        ∙ sum_same L _ _ A.transitions (λ t i. ap (λ v. cond (t.from == p) v R.zero) (times-cond L t.weight (letter_of t == x) (g t.to q)))

    right_steps : (B : Automaton V) (p q : ℕ) → taken R by_letter (map (right_item p) (moves_from B.transitions q)) ≡ step_sum R B q x (λ b. g p b)
    right_steps B p q =
        sum-map L (λ (e : Item V Pair). R.times e.weight (by_letter e.label e.to)) (right_item p) (moves_from B.transitions q)
        ∙ sum-filter L (λ (t : Transition V). R.times t.weight (cond (letter_of t == x) (g p t.to) R.zero)) (λ (t : Transition V). t.from == q) B.transitions
        ∙ sum_same L _ _ B.transitions (λ t i. ap (λ v. cond (t.from == q) v R.zero) (times-cond L t.weight (letter_of t == x) (g p t.to)))

-- the product of pairs is a shuffle
pub shuffled : {V : Type 0} (R : WeightSet V) (L : SemiringLaws R) (total : IsTotalOrder word_order) (equal : (v w : Word) → (word_order v w ≡ Equal) ↔ (v ≡ w)) (same : V → V → Bool) (T : IsEqualityTest same) (A B P : Automaton V)
    → (ks : List Pair) (X : IsExplored R same_states no_pair (shuffle_items R A B) (pair_initial R A B) (pair_final R A B) ks P)
    → StandsFor R P (λ i. get_or ks i no_pair) (pair_final R A B) (shuffle_items R A B)
    → ((k : Pair) → In k (first_pairs R same A B) → In k ks) → NoRepeat ks → ((k : Pair) → In k ks → IsOfStates A B k) → OtherSums R → MovesAlone R A B P
shuffled R L total equal same T A B P ks X S firsts once all others =
    let state = λ (i : ℕ). get_or ks i no_pair in
    let at : (i : ℕ) → i < P.states → i < length ks = λ i h. subst (λ n. i < n) X.states h in
    record {
      left = λ i. (state i).0;
      right = λ i. (state i).1;
      shuffle = record {
        initial = initial_pairs R L same T A B P ks no_pair X.states once (λ i h. ap (λ ws. get_or ws i R.zero) X.begins ∙ mapped_at (pair_initial R A B) ks i no_pair R.zero h) all firsts others;
        final = λ i h. S.ends i h;
        steps = λ i x g h.
            sum_same L _ _ P.transitions (λ t j. ap (λ v. cond (t.from == i) v R.zero) (sym (times-cond L t.weight (letter_of t == x) (g (state t.to).0 (state t.to).1))))
            ∙ S.steps i (λ a k. cond (letter_in a == x) (g k.0 k.1) R.zero) h
            ∙ taken-inserts R L total equal (λ a k. cond (letter_in a == x) (g k.0 k.1) R.zero) (map (left_item (state i).1) (moves_from A.transitions (state i).0)) (map (right_item (state i).0) (moves_from B.transitions (state i).1))
            ∙ ap₂ R.plus (left_steps R L x g A (state i).0 (state i).1) (right_steps R L x g B (state i).0 (state i).1);
        left_below = λ i h. (all (state i) (get_or-In ks i no_pair (at i h))).0;
        right_below = λ i h. (all (state i) (get_or-In ks i no_pair (at i h))).1;
      };
    }
