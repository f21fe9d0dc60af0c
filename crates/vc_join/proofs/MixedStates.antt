-- Where one state of a pair moves and the other stays, a pair of states leads to pairs of states.
use Rattle.std.proofs.Common.{◌≡◌, ◌∙◌, List, [], ◌∷◌, map, sym, ap, subst, ◌<◌, Less, Equal, Greater, inl, inr, ◌⊎◌}
use Rattle.std.specs.Ordering.{match_ordering}
use Rattle.std.specs.declared.cmp.Ordering.{Ordering}
use Rattle.vc_aut.specs.Order.{moves_from}
use Rattle.vc_model.specs.Automata.{Automaton, Transition}
use Rattle.vc_model.specs.Items.{Item}
use Rattle.vc_model.specs.Lists.{In}
use Rattle.vc_model.specs.Members.{In-map_from}
use Rattle.vc_model.specs.WeightSet.{WeightSet}
use Rattle.vc_search.specs.Courses.{targets}
use Rattle.vc_search.specs.Explored.{next_by}
use Rattle.vc_join.specs.Orders.{item_order}
use Rattle.vc_join.specs.Pairs.{Pair, IsOfStates}
use Rattle.vc_join.specs.Shuffles.{insert_item, insert_items, left_item, right_item, shuffle_items}
use Rattle.vc_join.proofs.Among.{move_among}

module _ {V : Type 0} (R : WeightSet V) where
  -- the pairs of items that are inserted are theirs
  target_of : (ds : List (Item V Pair)) (e : Item V Pair) (k : Pair) → In k (targets (insert_item R ds e)) → (k ≡ e.to) ⊎ In k (targets ds)
  target_of [] e k (inl p) = inl p
  target_of [] e k (inr i) = absurd i
  target_of (d ∷ ds) e k i = go (item_order e d) i (target_of ds e k)
    where
      go : (o : Ordering) → In k (targets (match_ordering o (e ∷ d ∷ ds) (record d { weight = R.plus d.weight e.weight } ∷ ds) (d ∷ insert_item R ds e))) → (In k (targets (insert_item R ds e)) → (k ≡ e.to) ⊎ In k (targets ds)) → (k ≡ e.to) ⊎ In k (d.to ∷ targets ds)
      go Less (inl p) ih = inl p
      go Less (inr j) ih = inr j
      go Equal j ih = inr j
      go Greater (inl p) ih = inr (inl p)
      go Greater (inr j) ih = elim (ih j) [ inl p ↦ inl p | inr m ↦ inr (inr m) ]

  targets_of : (ds es : List (Item V Pair)) (k : Pair) → In k (targets (insert_items R ds es)) → In k (targets ds) ⊎ In k (targets es)
  targets_of ds [] k i = inl i
  targets_of ds (e ∷ es) k i = elim (targets_of (insert_item R ds e) es k i) [
    | inl j ↦ elim (target_of ds e k j) [ inl p ↦ inr (inl p) | inr m ↦ inl m ]
    | inr j ↦ inr (inr j)
  ]

  pub mixed_states : (A B : Automaton V) → ((t : Transition V) → In t A.transitions → t.to < A.states) → ((t : Transition V) → In t B.transitions → t.to < B.states) → (j k : Pair) → IsOfStates A B j → In k (next_by (shuffle_items R A B) j) → IsOfStates A B k
  mixed_states A B a b j k h i =
      let ts = moves_from A.transitions j.0 in
      let us = moves_from B.transitions j.1 in
      elim (targets_of (map (left_item j.1) ts) (map (right_item j.0) us) k i) [
        | inl m ↦
            let e = In-map_from (λ (e : Item V Pair). e.to) k (map (left_item j.1) ts) m in
            let t = In-map_from (left_item j.1) e.0 ts e.1 in
            subst (IsOfStates A B) (sym (e.2 ∙ ap (λ (z : Item V Pair). z.to) t.2)) (a t.0 (move_among A j.0 t.0 t.1), h.1)
        | inr m ↦
            let e = In-map_from (λ (e : Item V Pair). e.to) k (map (right_item j.0) us) m in
            let t = In-map_from (right_item j.0) e.0 us e.1 in
            subst (IsOfStates A B) (sym (e.2 ∙ ap (λ (z : Item V Pair). z.to) t.2)) (h.0, b t.0 (move_among B j.1 t.0 t.1))
      ]
