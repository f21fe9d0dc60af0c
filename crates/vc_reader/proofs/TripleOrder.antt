-- Transitions are in the order of their triples, where words are ordered.
use Rattle.std.proofs.Common.{◌≡◌, refl, ap, ℕ, List, [], ◌∷◌, map, nat_cmp, Less, Equal, arith, inl, inr}
use Rattle.std.specs.Prelude.{◌↔◌}
use Rattle.std.specs.List.{AllByRecursion}
use Rattle.std.specs.Cmp.{IsTotalOrder, then_total, on_total, nat_cmp_total}
use Rattle.std.proofs.lemmas.Grind.{common_steps}
use Rattle.std.proofs.lemmas.Map.Keys.{sorted_head, sorted_tail}
use Rattle.vc_aut.specs.Order.{triple_order, AreInOrder}
use Rattle.vc_label.specs.Order.{word_order}
use Rattle.vc_model.specs.Automata.{Transition, triple}
use Rattle.vc_model.specs.Lists.{In, NoRepeat}
use Rattle.vc_model.specs.Words.{Word}

number_itself : (x : ℕ) → nat_cmp x x ≡ Equal
number_itself x = grind (arith, common_steps)

module _ {V : Type 0} where
  pub triples_total : IsTotalOrder word_order → IsTotalOrder (triple_order {V = V})
  triples_total total =
      then_total (then_total (on_total (λ (t : Transition V). t.from) nat_cmp_total) (on_total (λ (t : Transition V). t.label) total)) (on_total (λ (t : Transition V). t.to) nat_cmp_total)

  module _ (equal : (v w : Word) → (word_order v w ≡ Equal) ↔ (v ≡ w)) where
    same_rank : (t u : Transition V) → triple t ≡ triple u → triple_order t u ≡ Equal
    same_rank t u h =
        let from : t.from ≡ u.from = ap (λ d. d.0) h in
        let label : t.label ≡ u.label = ap (λ d. d.1) h in
        let to : t.to ≡ u.to = ap (λ d. d.2) h in
        rw (from, label, to, number_itself u.from, number_itself u.to, (equal u.label u.label).1 refl) refl

    not_after : (t : Transition V) (ts : List (Transition V)) → AllByRecursion (λ u. triple_order t u ≡ Less) ts → In (triple t) (map triple ts) → ⊥
    not_after t [] h i = i
    not_after t (u ∷ us) h (inl e) = let s : triple_order t u ≡ Equal = same_rank t u e in let l : triple_order t u ≡ Less = h.0 in cc
    not_after t (u ∷ us) h (inr i) = not_after t us h.1 i

    -- in strict order no triple stands twice
    pub once_in_order : (ts : List (Transition V)) → AreInOrder ts → NoRepeat (map triple ts)
    once_in_order [] h = tt
    once_in_order (t ∷ ts) h = (not_after t ts (sorted_head triple_order t ts h), once_in_order ts (sorted_tail triple_order t ts h))
