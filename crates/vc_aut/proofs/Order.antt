-- The order of transitions is that of their triples.
use Rattle.std.proofs.Common.{◌≡◌, ap, refl, ℕ, List, [], ◌∷◌, map, nat_cmp, Less, Equal, Greater, arith, inl, inr}
use Rattle.std.specs.Prelude.{◌↔◌}
use Rattle.std.specs.List.{AllByRecursion}
use Rattle.std.specs.Ordering.{ordering_then}
use Rattle.std.specs.Cmp.{IsTotalOrder, then_total, on_total, nat_cmp_total}
use Rattle.std.specs.declared.cmp.Ordering.{Ordering}
use Rattle.std.proofs.lemmas.Grind.{common_steps}
use Rattle.std.proofs.lemmas.Map.Keys.{sorted_head, sorted_tail}
use Rattle.vc_label.specs.Order.{word_order}
use Rattle.vc_model.specs.Automata.{Transition, triple}
use Rattle.vc_model.specs.Lists.{In, NoRepeat}
use Rattle.vc_model.specs.Words.{Word}
use Rattle.vc_aut.specs.Order.{triple_order, AreInOrder}

nat_cmp-equal : (x y : ℕ) → nat_cmp x y ≡ Equal → x ≡ y
nat_cmp-equal x y h = grind (arith, common_steps)

nat_cmp-self : (x : ℕ) → nat_cmp x x ≡ Equal
nat_cmp-self x = grind (arith, common_steps)

then_left : (o p : Ordering) → ordering_then o p ≡ Equal → o ≡ Equal
then_left Less p h = h
then_left Equal p h = refl
then_left Greater p h = h

then_right : (o p : Ordering) → ordering_then o p ≡ Equal → p ≡ Equal
then_right Less p h = cc
then_right Equal p h = h
then_right Greater p h = cc

module _ (total : IsTotalOrder word_order) (equal : (v w : Word) → (word_order v w ≡ Equal) ↔ (v ≡ w)) where
  module _ {V : Type 0} where
    -- the order is total
    pub triple_order_total : IsTotalOrder (triple_order {V = V})
    triple_order_total =
        then_total (then_total (on_total (λ (t : Transition V). t.from) nat_cmp_total) (on_total (λ (t : Transition V). t.label) total)) (on_total (λ (t : Transition V). t.to) nat_cmp_total)

    -- it tells whether triples are equal
    pub same_triples : (t u : Transition V) → triple_order t u ≡ Equal → triple t ≡ triple u
    same_triples t u h =
        let front : ordering_then (nat_cmp t.from u.from) (word_order t.label u.label) ≡ Equal = then_left _ _ h in
        let from : t.from ≡ u.from = nat_cmp-equal _ _ (then_left _ _ front) in
        let label : t.label ≡ u.label = (equal t.label u.label).0 (then_right (nat_cmp t.from u.from) _ front) in
        let to : t.to ≡ u.to = nat_cmp-equal _ _ (then_right (ordering_then (nat_cmp t.from u.from) (word_order t.label u.label)) _ h) in
        cc

    pub order_of_same : (t u : Transition V) → triple t ≡ triple u → triple_order t u ≡ Equal
    order_of_same t u h =
        let from : t.from ≡ u.from = ap (λ d. d.0) h in
        let label : t.label ≡ u.label = ap (λ d. d.1) h in
        let to : t.to ≡ u.to = ap (λ d. d.2) h in
        rw (from, label, to, nat_cmp-self u.from, nat_cmp-self u.to, (equal u.label u.label).1 refl) refl

    -- a transition that comes before others has none of their triples
    pub not_after : (t : Transition V) (ts : List (Transition V)) → AllByRecursion (λ u. triple_order t u ≡ Less) ts → In (triple t) (map triple ts) → ⊥
    not_after t [] h i = i
    not_after t (u ∷ us) h i =
        elim i [
          | inl e ↦ (let d : triple_order t u ≡ Equal = order_of_same t u e in let l : triple_order t u ≡ Less = h.0 in cc)
          | inr j ↦ not_after t us h.1 j
        ]

    -- in strict order no triple occurs twice
    pub once_in_order : (ts : List (Transition V)) → AreInOrder ts → NoRepeat (map triple ts)
    once_in_order [] h = tt
    once_in_order (t ∷ ts) h = (not_after t ts (sorted_head triple_order t ts h), once_in_order ts (sorted_tail triple_order t ts h))
