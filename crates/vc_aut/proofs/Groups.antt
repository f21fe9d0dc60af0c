-- What transitions add up to at a triple depends on those of that triple alone, in their order.
use Rattle.std.proofs.Common.{◌≡◌, ◌∙◌, sym, ap, subst, refl, Bool, true, false, List, [], ◌∷◌, ◌++◌, cond, None, Some, Option, Less, Equal, Greater, inl, inr}
use Rattle.std.specs.Prelude.{◌↔◌}
use Rattle.std.specs.List.{AllByRecursion, filter}
use Rattle.std.specs.Ordering.{match_ordering, ordering_reverse, is_eq, is_lt}
use Rattle.std.specs.Cmp.{IsTotalOrder}
use Rattle.std.specs.declared.cmp.Ordering.{Ordering}
use Rattle.std.proofs.lemmas.Map.Keys.{sorted_head, sorted_tail}
use Rattle.vc_label.specs.Order.{word_order}
use Rattle.vc_model.specs.Automata.{Transition}
use Rattle.vc_model.specs.Gathered.{IsAscending}
use Rattle.vc_model.specs.GatheredLaws.{ascending_same}
use Rattle.vc_model.specs.Lists.{In}
use Rattle.vc_model.specs.Members.{In-append_left, In-append_right, In-append_cases}
use Rattle.vc_model.specs.WeightSet.{WeightSet}
use Rattle.vc_model.specs.Words.{Word}
use Rattle.vc_ring.specs.declared.faults.Overflow.{Overflow}
use Rattle.vc_aut.specs.Additions.{addition_to, additions}
use Rattle.vc_aut.specs.Order.{triple_order, AreInOrder}
use Rattle.vc_aut.specs.Sums.{insert_transition, insert_all, standing}
use Rattle.vc_aut.proofs.Added.{standing-member, in_order-inserted_all}
use Rattle.vc_aut.proofs.Inserted.{in_order-none, in_order-inserted, none_after, later}
use Rattle.vc_aut.proofs.Order.{triple_order_total, order_of_same}

-- the triples are equal
abbrev pub at : {V : Type 0} → Transition V → Transition V → Bool
at t u = is_eq (triple_order t u)

-- a weight added to what stands
abbrev joined : {V : Type 0} → WeightSet V → Option V → V → V
joined R None w = w
joined R (Some v) w = R.plus v w

-- what the weights of the transitions come to, added one after the other to what stands
abbrev sum_onto : {V : Type 0} → WeightSet V → Option V → List (Transition V) → Option V
sum_onto R o [] = o
sum_onto R o (u ∷ us) = sum_onto R (Some (joined R o u.weight)) us

-- the additions that this takes
abbrev steps_onto : {V : Type 0} → WeightSet V → Option V → List (Transition V) → List (Overflow V)
steps_onto R o [] = []
steps_onto R o (u ∷ us) = addition_to o u.weight ++ steps_onto R (Some (joined R o u.weight)) us

pub is_equal : (o : Ordering) → is_eq o ≡ true → o ≡ Equal
is_equal Less h = cc
is_equal Equal h = refl
is_equal Greater h = cc

one_way : (o p : Ordering) → p ≡ ordering_reverse o → is_lt o ≡ true → is_lt p ≡ false
one_way Less p e h = ap is_lt e
one_way Equal p e h = cc
one_way Greater p e h = cc

member_of : {X : Type 0} (P : X → Type 0) (x : X) (xs : List X) → AllByRecursion P xs → In x xs → P x
member_of P x [] h i = absurd i
member_of P x (y ∷ ys) h i = elim i [ inl e ↦ subst P (sym e) h.0 | inr j ↦ member_of P x ys h.1 j ]

module _ {V : Type 0} (order : IsTotalOrder (triple_order {V = V})) where
  -- the right one of a comparison may be any of its triple
  pub on_right : (t u v : Transition V) → triple_order u v ≡ Equal → triple_order t v ≡ triple_order t u
  on_right t u v e = order.antisymm t v ∙ ap ordering_reverse (sym (order.congr u v t e)) ∙ sym (order.antisymm t u)

  standing_alike : (ts : List (Transition V)) (t u : Transition V) → triple_order t u ≡ Equal → standing ts t ≡ standing ts u
  standing_alike [] t u e = refl
  standing_alike (v ∷ vs) t u e =
      ap (λ o. cond (is_eq o) (Some v.weight) (standing vs t)) (order.congr t u v e)
      ∙ ap (λ s. cond (is_eq (triple_order u v)) (Some v.weight) s) (standing_alike vs t u e)

  module _ (R : WeightSet V) (self : (t : Transition V) → triple_order t t ≡ Equal) where
    self_by : (u v : Transition V) (vs ws : List (Transition V)) → AreInOrder (v ∷ vs) → standing ws u ≡ Some (joined R (standing vs u) u.weight)
        → (o : Ordering) → triple_order u v ≡ o
        → standing (match_ordering o (u ∷ v ∷ vs) (record v { weight = R.plus v.weight u.weight } ∷ vs) (v ∷ ws)) u ≡ Some (joined R (cond (is_eq o) (Some v.weight) (standing vs u)) u.weight)
    self_by u v vs ws h k Less q =
        ap (λ o. cond (is_eq o) (Some u.weight) (standing (v ∷ vs) u)) (self u)
        ∙ ap (λ s. Some (joined R s u.weight)) (sym (none_after R order u vs (later R order u v vs q (sorted_head triple_order v vs h))))
    self_by u v vs ws h k Equal q = ap (λ o. cond (is_eq o) (Some (R.plus v.weight u.weight)) (standing vs u)) q
    self_by u v vs ws h k Greater q = ap (λ o. cond (is_eq o) (Some v.weight) (standing ws u)) q ∙ k

    standing_self : (ts : List (Transition V)) (u : Transition V) → AreInOrder ts → standing (insert_transition R ts u) u ≡ Some (joined R (standing ts u) u.weight)
    standing_self [] u h = ap (λ o. cond (is_eq o) (Some u.weight) None) (self u)
    standing_self (v ∷ vs) u h = self_by u v vs (insert_transition R vs u) h (standing_self vs u (sorted_tail triple_order v vs h)) (triple_order u v) refl

    standing_same : (ts : List (Transition V)) (t u : Transition V) → AreInOrder ts → at t u ≡ true → standing (insert_transition R ts u) t ≡ Some (joined R (standing ts t) u.weight)
    standing_same ts t u h e =
        let q : triple_order t u ≡ Equal = is_equal (triple_order t u) e in
        standing_alike (insert_transition R ts u) t u q ∙ standing_self ts u h ∙ ap (λ s. Some (joined R s u.weight)) (sym (standing_alike ts t u q))

    other_by : (t u v : Transition V) (vs ws : List (Transition V)) → at t u ≡ false → standing ws t ≡ standing vs t
        → (o : Ordering) → triple_order u v ≡ o
        → standing (match_ordering o (u ∷ v ∷ vs) (record v { weight = R.plus v.weight u.weight } ∷ vs) (v ∷ ws)) t ≡ standing (v ∷ vs) t
    other_by t u v vs ws h k Less q = ap (λ b. cond b (Some u.weight) (standing (v ∷ vs) t)) h
    other_by t u v vs ws h k Equal q =
        let n : at t v ≡ false = ap is_eq (on_right t u v q) ∙ h in
        ap (λ b. cond b (Some (R.plus v.weight u.weight)) (standing vs t)) n ∙ sym (ap (λ b. cond b (Some v.weight) (standing vs t)) n)
    other_by t u v vs ws h k Greater q = ap (λ s. cond (at t v) (Some v.weight) s) k

    standing_other : (ts : List (Transition V)) (t u : Transition V) → at t u ≡ false → standing (insert_transition R ts u) t ≡ standing ts t
    standing_other [] t u h = ap (λ b. cond b (Some u.weight) None) h
    standing_other (v ∷ vs) t u h = other_by t u v vs (insert_transition R vs u) h (standing_other vs t u h) (triple_order u v) refl

    -- what stands at a triple in the end
    group_by : (ts : List (Transition V)) (x : Transition V) (xs : List (Transition V)) (t : Transition V) → AreInOrder ts → (b : Bool) → at t x ≡ b
        → sum_onto R (standing (insert_transition R ts x) t) (filter (at t) xs) ≡ sum_onto R (standing ts t) (cond b (x ∷ filter (at t) xs) (filter (at t) xs))
    group_by ts x xs t h true e = ap (λ s. sum_onto R s (filter (at t) xs)) (standing_same ts t x h e)
    group_by ts x xs t h false e = ap (λ s. sum_onto R s (filter (at t) xs)) (standing_other ts t x e)

    group : (ts xs : List (Transition V)) (t : Transition V) → AreInOrder ts → standing (insert_all R ts xs) t ≡ sum_onto R (standing ts t) (filter (at t) xs)
    group ts [] t h = refl
    group ts (x ∷ xs) t h = group (insert_transition R ts x) xs t (in_order-inserted R order ts x h) ∙ group_by ts x xs t h (at t x) refl

    -- an addition is one at some triple
    to_by : (o : Overflow V) (ts : List (Transition V)) (x : Transition V) (xs : List (Transition V)) (t : Transition V) → AreInOrder ts → (b : Bool) → at t x ≡ b
        → In o (steps_onto R (standing (insert_transition R ts x) t) (filter (at t) xs)) → In o (steps_onto R (standing ts t) (cond b (x ∷ filter (at t) xs) (filter (at t) xs)))
    to_by o ts x xs t h true e i =
        In-append_right o (addition_to (standing ts t) x.weight) _ (subst (λ s. In o (steps_onto R s (filter (at t) xs))) (standing_same ts t x h e) i)
    to_by o ts x xs t h false e i = subst (λ s. In o (steps_onto R s (filter (at t) xs))) (standing_other ts t x e) i

    to_group : (o : Overflow V) (ts xs : List (Transition V)) → AreInOrder ts → In o (additions R ts xs) → (t : Transition V) × In o (steps_onto R (standing ts t) (filter (at t) xs))
    to_group o ts [] h i = absurd i
    to_group o ts (x ∷ xs) h i = elim (In-append_cases o (addition_to (standing ts x) x.weight) (additions R (insert_transition R ts x) xs) i) [
      | inl j ↦ (x, subst (λ b. In o (steps_onto R (standing ts x) (cond b (x ∷ filter (at x) xs) (filter (at x) xs)))) (sym (ap is_eq (self x))) (In-append_left o (addition_to (standing ts x) x.weight) _ j))
      | inr j ↦ (let r = to_group o (insert_transition R ts x) xs (in_order-inserted R order ts x h) j in (r.0, to_by o ts x xs r.0 h (at r.0 x) refl r.1))
    ]

    from_by : (o : Overflow V) (ts : List (Transition V)) (x : Transition V) (xs : List (Transition V)) (t : Transition V) → AreInOrder ts
        → (In o (steps_onto R (standing (insert_transition R ts x) t) (filter (at t) xs)) → In o (additions R (insert_transition R ts x) xs))
        → (b : Bool) → at t x ≡ b → In o (steps_onto R (standing ts t) (cond b (x ∷ filter (at t) xs) (filter (at t) xs))) → In o (additions R ts (x ∷ xs))
    from_by o ts x xs t h k true e i = elim (In-append_cases o (addition_to (standing ts t) x.weight) _ i) [
      | inl j ↦ In-append_left o (addition_to (standing ts x) x.weight) _ (subst (λ s. In o (addition_to s x.weight)) (standing_alike ts t x (is_equal (triple_order t x) e)) j)
      | inr j ↦ In-append_right o (addition_to (standing ts x) x.weight) _ (k (subst (λ s. In o (steps_onto R s (filter (at t) xs))) (sym (standing_same ts t x h e)) j))
    ]
    from_by o ts x xs t h k false e i = In-append_right o (addition_to (standing ts x) x.weight) _ (k (subst (λ s. In o (steps_onto R s (filter (at t) xs))) (sym (standing_other ts t x e)) i))

    from_group : (o : Overflow V) (ts xs : List (Transition V)) (t : Transition V) → AreInOrder ts → In o (steps_onto R (standing ts t) (filter (at t) xs)) → In o (additions R ts xs)
    from_group o ts [] t h i = i
    from_group o ts (x ∷ xs) t h i = from_by o ts x xs t h (λ j. from_group o (insert_transition R ts x) xs t (in_order-inserted R order ts x h) j) (at t x) refl i

    -- lists with the same transitions at each triple take the same additions
    pub same_additions : (o : Overflow V) (xs ys : List (Transition V)) → ((t : Transition V) → filter (at t) xs ≡ filter (at t) ys) → In o (additions R [] xs) → In o (additions R [] ys)
    same_additions o xs ys e i =
        let r = to_group o [] xs (in_order-none [] refl) i in
        from_group o [] ys r.0 (in_order-none [] refl) (subst (λ f. In o (steps_onto R None f)) (e r.0) r.1)

module _ (total : IsTotalOrder word_order) (equal : (v w : Word) → (word_order v w ≡ Equal) ↔ (v ≡ w)) {V : Type 0} where
  order : IsTotalOrder (triple_order {V = V})
  order = triple_order_total total equal

  ascends : (ts : List (Transition V)) → AreInOrder ts → IsAscending (λ a b. is_lt (triple_order a b)) ts
  ascends [] h = tt
  ascends (t ∷ ts) h = ((λ y i. ap is_lt (member_of (λ u. triple_order t u ≡ Less) y ts (sorted_head triple_order t ts h) i)), ascends ts (sorted_tail triple_order t ts h))

  -- lists in order are equal where the same weights stand in them
  same_lists : (ts us : List (Transition V)) → AreInOrder ts → AreInOrder us → ((t : Transition V) → standing ts t ≡ standing us t) → ts ≡ us
  same_lists ts us h k e =
      ascending_same (λ a b. is_lt (triple_order a b)) (λ a b l. one_way (triple_order a b) (triple_order b a) (order.antisymm b a) l) ts us (ascends ts h) (ascends us k)
      (λ t i. (standing-member total equal us t t.weight k).0 (sym (e t) ∙ (standing-member total equal ts t t.weight h).1 i))
      (λ t i. (standing-member total equal ts t t.weight h).0 (e t ∙ (standing-member total equal us t t.weight k).1 i))

  -- lists with the same transitions at each triple come to the same
  pub same_sums : (R : WeightSet V) (xs ys : List (Transition V)) → ((t : Transition V) → filter (at t) xs ≡ filter (at t) ys) → insert_all R [] xs ≡ insert_all R [] ys
  same_sums R xs ys e =
      let self : (t : Transition V) → triple_order t t ≡ Equal = λ t. order_of_same total equal t t refl in
      same_lists (insert_all R [] xs) (insert_all R [] ys)
      (in_order-inserted_all total equal R [] xs (in_order-none [] refl)) (in_order-inserted_all total equal R [] ys (in_order-none [] refl))
      (λ t. group order R self [] xs t (in_order-none [] refl) ∙ ap (sum_onto R None) (e t) ∙ sym (group order R self [] ys t (in_order-none [] refl)))
