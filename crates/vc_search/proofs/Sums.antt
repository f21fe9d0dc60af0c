-- Transitions of which no triple occurs twice are added up to themselves, and what an exploration comes to.
use Rattle.std.proofs.Common.{◌≡◌, ◌≤◌, ◌+◌, ◌⊎◌, ℕ, List, [], ◌∷◌, ◌++◌, map, Bool, false, refl, ap, ap₂, ◌∙◌, subst, arith, length, Option, Some, None, Less, Equal, Greater, inl, inr}
use Rattle.std.specs.Prelude.{◌↔◌, not}
use Rattle.std.specs.Ordering.{match_ordering}
use Rattle.std.specs.declared.cmp.Ordering.{Ordering}
use Rattle.vc_aut.specs.Additions.{IsSumRefusal, addition_to, additions}
use Rattle.vc_aut.specs.Drafts.{without_zeros}
use Rattle.vc_aut.specs.Order.{AreInOrder, triple_order}
use Rattle.vc_aut.specs.Sums.{insert_all, insert_transition, standing}
use Rattle.vc_model.specs.Automata.{Transition, triple}
use Rattle.vc_model.specs.Items.{Item}
use Rattle.vc_model.specs.Lists.{In, NoRepeat}
use Rattle.vc_model.specs.Members.{In-filter_from, In-map, In-map_from}
use Rattle.vc_model.specs.WeightSet.{WeightSet}
use Rattle.vc_model.specs.Words.{Word, is_empty}
use Rattle.vc_ring.specs.declared.faults.MakeFault.{MakeFault}
use Rattle.vc_ring.specs.declared.faults.MakeFault.TheVariants.{Overflow as Unfit, Limit as PastLimit, Memory}
use Rattle.vc_ring.specs.declared.faults.Overflow.{Overflow}
use Rattle.vc_search.specs.Explored.{IsUnexplored}

module _ {V : Type 0} (R : WeightSet V) where
  insert-length : (ts : List (Transition V)) (t : Transition V) → length (insert_transition R ts t) ≤ length ts + 1
  insert-length [] t = omega arith
  insert-length (u ∷ us) t = go (triple_order t u) (insert-length us t)
    where
      go : (o : Ordering) → length (insert_transition R us t) ≤ length us + 1 → length (match_ordering o (t ∷ u ∷ us) (record u { weight = R.plus u.weight t.weight } ∷ us) (u ∷ insert_transition R us t)) ≤ length (u ∷ us) + 1
      go Less h = omega arith
      go Equal h = omega arith
      go Greater h = omega (arith, h)

  inserted-length : (ts added : List (Transition V)) → length (insert_all R ts added) ≤ length ts + length added
  inserted-length ts [] = omega arith
  inserted-length ts (t ∷ added) =
      let a = inserted-length (insert_transition R ts t) added in
      let b = insert-length ts t in
      omega (arith, a, b)

  module _ (from : (ts : List (Transition V)) (t : Transition V) (d : ℕ × Word × ℕ) → In d (map triple (insert_transition R ts t)) ↔ ((d ≡ triple t) ⊎ In d (map triple ts))) where
    -- the triples of transitions that are inserted are theirs
    triples_of : (ts added : List (Transition V)) (d : ℕ × Word × ℕ) → In d (map triple (insert_all R ts added)) → In d (map triple ts) ⊎ In d (map triple added)
    triples_of ts [] d i = inl i
    triples_of ts (t ∷ added) d i = elim (triples_of (insert_transition R ts t) added d i) [
      | inl j ↦ elim ((from ts t d).0 j) [ inl e ↦ inr (inl e) | inr k ↦ inl k ]
      | inr j ↦ inr (inr j)
    ]

    -- no label of what they come to is empty
    pub labels_stay : (equal : V → V → Bool) (ts : List (Transition V)) → ((t : Transition V) → In t ts → is_empty t.label ≡ false) → (t : Transition V) → In t (without_zeros R equal (insert_all R [] ts)) → is_empty t.label ≡ false
    labels_stay equal ts h t i =
        let j = In-filter_from (λ (t : Transition V). not (equal t.weight R.zero)) t (insert_all R [] ts) i in
        elim (triples_of [] ts (triple t) (In-map triple t (insert_all R [] ts) j.0)) [
          | inl a ↦ absurd a
          | inr k ↦ (let r = In-map_from triple (triple t) ts k in ap (λ (z : ℕ × Word × ℕ). is_empty z.1) r.2 ∙ h r.0 r.1)
        ]

    module _ (known : (ts : List (Transition V)) (t : Transition V) (w : V) → AreInOrder ts → (standing ts t ≡ Some w) ↔ In (record t { weight = w }) ts)
        (order : (ts : List (Transition V)) (t : Transition V) → AreInOrder ts → AreInOrder (insert_transition R ts t)) where
      nothing_stands : (ts : List (Transition V)) (t : Transition V) → AreInOrder ts → (In (triple t) (map triple ts) → ⊥) → standing ts t ≡ None
      nothing_stands ts t o h = go (standing ts t) refl
        where
          go : (r : Option V) → standing ts t ≡ r → r ≡ None
          go None e = refl
          go (Some w) e = absurd (h (In-map triple (record t { weight = w }) ts ((known ts t w o).0 e)))

      -- where no triple stands twice, nothing is added
      nothing_added : (ts raw : List (Transition V)) → AreInOrder ts → NoRepeat (map triple raw) → ((d : ℕ × Word × ℕ) → In d (map triple ts) → In d (map triple raw) → ⊥) → additions R ts raw ≡ []
      nothing_added ts [] o n apart = refl
      nothing_added ts (t ∷ raw) o n apart =
          ap₂ (λ (v : Option V) rest. addition_to v t.weight ++ rest) (nothing_stands ts t o (λ i. apart (triple t) i (inl refl)))
          (nothing_added (insert_transition R ts t) raw (order ts t o) n.1 (λ d i j. elim ((from ts t d).0 i) [ inl e ↦ n.0 (subst (λ z. In z (map triple raw)) e j) | inr k ↦ apart d k (inr j) ]))

      -- and the sum is refused for want of memory alone
      pub sum_refusal : {K : Type 0} (items : K → List (Item V K)) (first : List K) (is_step : K → Overflow V → Type 0) (most : ℕ) (ts : List (Transition V)) → AreInOrder (insert_all R [] []) → NoRepeat (map triple ts) → length ts ≤ 4000000
          → (f : MakeFault V) → IsSumRefusal R ts f → IsUnexplored R items first is_step most f
      sum_refusal items first is_step most ts o n h (Unfit x) r = absurd (subst (In x) (nothing_added [] ts o n (λ d i j. i)) r.0)
      sum_refusal items first is_step most ts o n h (PastLimit l) r =
          let a = inserted-length [] ts in
          let b = r.1 in
          absurd (omega (arith, a, b, h))
      sum_refusal items first is_step most ts o n h (Memory x) r = tt
