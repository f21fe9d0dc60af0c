-- Transitions in order have different triples, and ascend by them.
use Rattle.std.proofs.Common.{◌≡◌, ap, refl, sym, ◌∙◌, subst, ℕ, List, [], ◌∷◌, Bool, true, false, map, nat_cmp, Less, Equal, Greater, arith, inl, inr}
use Rattle.std.specs.List.{AllByRecursion}
use Rattle.std.specs.Ordering.{is_lt, ordering_then, ordering_reverse}
use Rattle.std.specs.Cmp.{IsTotalOrder, then_total, on_total, nat_cmp_total}
use Rattle.std.specs.declared.cmp.Ordering.{Ordering}
use Rattle.std.proofs.lemmas.Grind.{common_steps}
use Rattle.std.proofs.lemmas.Map.Keys.{sorted_head, sorted_tail}
use Rattle.vc_aut.specs.Order.{triple_order, AreInOrder}
use Rattle.vc_label.specs.Order.{word_order}
use Rattle.vc_label.specs.OrderLaws.{equal, total}
use Rattle.vc_model.specs.Automata.{Transition, triple}
use Rattle.vc_model.specs.Gathered.{IsAscending}
use Rattle.vc_model.specs.Lists.{In, NoRepeat}
use Rattle.vc_model.specs.Words.{Word}

nat_cmp-self : (x : ℕ) → nat_cmp x x ≡ Equal
nat_cmp-self x = grind (arith, common_steps)

-- by source, label and target
abbrev pub key_order : ℕ × Word × ℕ → ℕ × Word × ℕ → Ordering
key_order a b = ordering_then (ordering_then (nat_cmp a.0 b.0) (word_order a.1 b.1)) (nat_cmp a.2 b.2)

abbrev pub before : ℕ × Word × ℕ → ℕ × Word × ℕ → Bool
before a b = is_lt (key_order a b)

key_total : IsTotalOrder key_order
key_total = then_total (then_total (on_total (λ (d : ℕ × Word × ℕ). d.0) nat_cmp_total) (on_total (λ (d : ℕ × Word × ℕ). d.1) total)) (on_total (λ (d : ℕ × Word × ℕ). d.2) nat_cmp_total)

pub before_once : (a b : ℕ × Word × ℕ) → before a b ≡ true → before b a ≡ false
before_once a b h = ap is_lt (key_total.antisymm b a) ∙ go (key_order a b) h
  where
    go : (o : Ordering) → is_lt o ≡ true → is_lt (ordering_reverse o) ≡ false
    go Less e = refl
    go Equal e = refl
    go Greater e = cc

module _ {V : Type 0} where
  order_of_same : (t u : Transition V) → triple t ≡ triple u → triple_order t u ≡ Equal
  order_of_same t u h =
      let from : t.from ≡ u.from = ap (λ d. d.0) h in
      let label : t.label ≡ u.label = ap (λ d. d.1) h in
      let to : t.to ≡ u.to = ap (λ d. d.2) h in
      rw (from, label, to, nat_cmp-self u.from, nat_cmp-self u.to, (equal u.label u.label).1 refl) refl

  -- a transition that comes before others has none of their triples
  not_after : (t : Transition V) (ts : List (Transition V)) → AllByRecursion (λ u. triple_order t u ≡ Less) ts → In (triple t) (map triple ts) → ⊥
  not_after t [] h i = i
  not_after t (u ∷ us) h i =
      elim i [
        | inl e ↦ (let d : triple_order t u ≡ Equal = order_of_same t u e in let l : triple_order t u ≡ Less = h.0 in cc)
        | inr j ↦ not_after t us h.1 j
      ]

  pub ordered_once : (ts : List (Transition V)) → AreInOrder ts → NoRepeat (map triple ts)
  ordered_once [] h = tt
  ordered_once (t ∷ ts) h = (not_after t ts (sorted_head triple_order t ts h), ordered_once ts (sorted_tail triple_order t ts h))

  member_less : (t : Transition V) (us : List (Transition V)) → AllByRecursion (λ u. triple_order t u ≡ Less) us → (u : Transition V) → In u us → triple_order t u ≡ Less
  member_less t [] h u i = absurd i
  member_less t (v ∷ us) h u (inl e) = subst (λ (x : Transition V). triple_order t x ≡ Less) (sym e) h.0
  member_less t (v ∷ us) h u (inr i) = member_less t us h.1 u i

  pub ordered_ascends : (ts : List (Transition V)) → AreInOrder ts → IsAscending (λ (t u : Transition V). before (triple t) (triple u)) ts
  ordered_ascends [] h = tt
  ordered_ascends (t ∷ ts) h = ((λ u i. ap is_lt (member_less t ts (sorted_head triple_order t ts h) u i)), ordered_ascends ts (sorted_tail triple_order t ts h))
