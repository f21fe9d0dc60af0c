-- A transition that is inserted keeps the order.
use Rattle.std.proofs.Common.{◌≡◌, ◌∙◌, ap, refl, suc, ◌≤◌, List, [], ◌∷◌, length, None, Some, Less, Equal, Greater, arith}
use Rattle.std.specs.List.{AllByRecursion}
use Rattle.std.specs.List.Sorted.{IsStrictlySortedBy}
use Rattle.std.specs.Ordering.{match_ordering, ordering_reverse}
use Rattle.std.specs.Cmp.{IsTotalOrder}
use Rattle.std.specs.declared.cmp.Ordering.{Ordering}
use Rattle.std.proofs.lemmas.Map.Keys.{sorted_head, sorted_tail}
use Rattle.vc_model.specs.Automata.{Transition}
use Rattle.vc_model.specs.WeightSet.{WeightSet}
use Rattle.vc_aut.specs.Order.{triple_order, AreInOrder}
use Rattle.vc_aut.specs.Sums.{insert_transition, standing}

module _ {V : Type 0} where
  pub in_order-none : (ts : List (Transition V)) → ts ≡ [] → AreInOrder ts
  unfolding IsStrictlySortedBy
  in_order-none ts e = rw e tt

  pub in_order-more : (t : Transition V) (ts : List (Transition V)) → AllByRecursion (λ u. triple_order t u ≡ Less) ts → AreInOrder ts → AreInOrder (t ∷ ts)
  unfolding IsStrictlySortedBy
  in_order-more t ts h k = (h, k)

module _ {V : Type 0} (R : WeightSet V) where
  all_by : (P : Transition V → Type 0) → ((u : Transition V) (w : V) → P u → P (record u { weight = w })) → (u : Transition V) (us vs : List (Transition V)) (t : Transition V) → P t → AllByRecursion P (u ∷ us) → AllByRecursion P vs
      → (o : Ordering) → AllByRecursion P (match_ordering o (t ∷ u ∷ us) (record u { weight = R.plus u.weight t.weight } ∷ us) (u ∷ vs))
  all_by P any u us vs t p h k Less = (p, h)
  all_by P any u us vs t p h k Equal = (any u (R.plus u.weight t.weight) h.0, h.1)
  all_by P any u us vs t p h k Greater = (h.0, k)

  -- what holds of t, of the others, and whatever the weight is, holds after t is inserted
  pub all_inserted : (P : Transition V → Type 0) → ((u : Transition V) (w : V) → P u → P (record u { weight = w })) → (ts : List (Transition V)) (t : Transition V) → P t → AllByRecursion P ts → AllByRecursion P (insert_transition R ts t)
  all_inserted P any [] t p h = (p, tt)
  all_inserted P any (u ∷ us) t p h = all_by P any u us (insert_transition R us t) t p h (all_inserted P any us t p h.1) (triple_order t u)

  module _ (total : IsTotalOrder (triple_order {V = V})) where
    after : (t u : Transition V) → triple_order t u ≡ Greater → triple_order u t ≡ Less
    after t u h = total.antisymm u t ∙ ap ordering_reverse h

    pub later : (t u : Transition V) (us : List (Transition V)) → triple_order t u ≡ Less → AllByRecursion (λ v. triple_order u v ≡ Less) us → AllByRecursion (λ v. triple_order t v ≡ Less) us
    later t u [] l h = tt
    later t u (v ∷ vs) l h = (total.trans t u v l h.0, later t u vs l h.1)

    order_by : (u : Transition V) (us vs : List (Transition V)) (t : Transition V) → AreInOrder (u ∷ us) → AreInOrder vs → (triple_order u t ≡ Less → AllByRecursion (λ v. triple_order u v ≡ Less) vs)
        → (o : Ordering) → triple_order t u ≡ o → AreInOrder (match_ordering o (t ∷ u ∷ us) (record u { weight = R.plus u.weight t.weight } ∷ us) (u ∷ vs))
    order_by u us vs t h k m Less q = in_order-more t (u ∷ us) (q, later t u us q (sorted_head triple_order u us h)) h
    order_by u us vs t h k m Equal q = in_order-more (record u { weight = R.plus u.weight t.weight }) us (sorted_head triple_order u us h) (sorted_tail triple_order u us h)
    order_by u us vs t h k m Greater q = in_order-more u vs (m (after t u q)) k

    pub in_order-inserted : (ts : List (Transition V)) (t : Transition V) → AreInOrder ts → AreInOrder (insert_transition R ts t)
    in_order-inserted [] t h = in_order-more t [] tt (in_order-none [] refl)
    in_order-inserted (u ∷ us) t h =
        order_by u us (insert_transition R us t) t h
        (in_order-inserted us t (sorted_tail triple_order u us h))
        (λ l. all_inserted (λ v. triple_order u v ≡ Less) (λ v w e. e) us t l (sorted_head triple_order u us h))
        (triple_order t u) refl

    pub none_after : (t : Transition V) (us : List (Transition V)) → AllByRecursion (λ v. triple_order t v ≡ Less) us → standing us t ≡ None
    none_after t [] h = refl
    none_after t (u ∷ us) h = let l : triple_order t u ≡ Less = h.0 in rw l (none_after t us h.1)

    length_by : (u : Transition V) (us vs : List (Transition V)) (t : Transition V) → length vs ≤ suc (length us)
        → (o : Ordering) → length (match_ordering o (t ∷ u ∷ us) (record u { weight = R.plus u.weight t.weight } ∷ us) (u ∷ vs)) ≤ suc (suc (length us))
    length_by u us vs t h Less = omega arith
    length_by u us vs t h Equal = omega arith
    length_by u us vs t h Greater = omega arith

    -- there is one transition more at most
    pub length-inserted : (ts : List (Transition V)) (t : Transition V) → length (insert_transition R ts t) ≤ suc (length ts)
    length-inserted [] t = omega arith
    length-inserted (u ∷ us) t = length_by u us (insert_transition R us t) t (length-inserted us t) (triple_order t u)

    old_by : (u : Transition V) (us vs : List (Transition V)) (t : Transition V) (w : V) → AreInOrder (u ∷ us) → standing (u ∷ us) t ≡ Some w → (standing us t ≡ Some w → length vs ≡ length us)
        → (o : Ordering) → triple_order t u ≡ o → length (match_ordering o (t ∷ u ∷ us) (record u { weight = R.plus u.weight t.weight } ∷ us) (u ∷ vs)) ≡ suc (length us)
    old_by u us vs t w h s k Less q =
        let n : standing (u ∷ us) t ≡ None = none_after t (u ∷ us) (q, later t u us q (sorted_head triple_order u us h)) in cc
    old_by u us vs t w h s k Equal q = refl
    old_by u us vs t w h s k Greater q = ap (λ n. suc n) (k (rw q at s))

    -- there are as many as before where an equal triple stands
    pub length-inserted_old : (ts : List (Transition V)) (t : Transition V) (w : V) → AreInOrder ts → standing ts t ≡ Some w → length (insert_transition R ts t) ≡ length ts
    length-inserted_old [] t w h s = cc
    length-inserted_old (u ∷ us) t w h s =
        old_by u us (insert_transition R us t) t w h s
        (λ k. length-inserted_old us t w (sorted_tail triple_order u us h) k)
        (triple_order t u) refl
