-- Transitions in order, cut in three at a state or at a label, and state by state.
use Rattle.std.proofs.Common.{◌≡◌, ◌∙◌, sym, ap, ap₂, refl, ℕ, zero, suc, ◌+◌, ◌<◌, ◌≤◌, Bool, true, false, List, [], ◌∷◌, ◌++◌, cond, nat_cmp, Less, Equal, Greater, arith, ◌==◌, All, inl, inr, ◌⊎◌}
use Rattle.std.specs.Prelude.{◌↔◌, nat_lt}
use Rattle.std.specs.Cmp.{IsTotalOrder}
use Rattle.std.specs.List.{AllByRecursion, filter, flat_map}
use Rattle.std.specs.Ordering.{is_eq, is_gt, is_lt, ordering_reverse, ordering_then}
use Rattle.std.specs.declared.cmp.Ordering.{Ordering}
use Rattle.std.proofs.lemmas.Grind.{common_steps}
use Rattle.std.proofs.lemmas.List.Elements.{All-head, All-tail, filter_agree}
use Rattle.std.proofs.lemmas.Map.Keys.{sorted_head, sorted_tail}
use Rattle.std.specs.List.Sorted.{IsStrictlySortedBy}
use Rattle.vc_label.specs.Order.{word_order}
use Rattle.vc_model.specs.Automata.{Transition}
use Rattle.vc_model.specs.Lists.{below, up_from}
use Rattle.vc_model.specs.WordLaws.{same_word-true, same_word_is, bool_same}
use Rattle.vc_model.specs.Words.{Word, same_word}
use Rattle.vc_aut.specs.Order.{triple_order, move_order, moves_from, AreInOrder}
use Rattle.vc_aut.proofs.Groups.{is_equal}
use Rattle.vc_aut.proofs.Rows.{from_order, from_state-none, later}

-- what is compared with a middle does not come back to it, nor to what is before it
abbrev Follows : Ordering → Ordering → Type 0
Follows Less p = Unit {0}
Follows Equal p = is_lt p ≡ false
Follows Greater p = p ≡ Greater

module _ {X : Type 0} (c : X → Ordering) where
  abbrev pub AreRising : List X → Type 0
  AreRising [] = Unit {0}
  AreRising (x ∷ xs) = AllByRecursion (λ y. Follows (c x) (c y)) xs × AreRising xs

  none_before : (xs : List X) → AllByRecursion (λ y. is_lt (c y) ≡ false) xs → filter (λ x. is_lt (c x)) xs ≡ []
  none_before [] h = refl
  none_before (x ∷ xs) h = rw h.0 (none_before xs h.1)

  none_at : (xs : List X) → AllByRecursion (λ y. c y ≡ Greater) xs → filter (λ x. is_eq (c x)) xs ≡ []
  none_at [] h = refl
  none_at (x ∷ xs) h = rw h.0 (none_at xs h.1)

  none_before_greater : (xs : List X) → AllByRecursion (λ y. c y ≡ Greater) xs → filter (λ x. is_lt (c x)) xs ≡ []
  none_before_greater [] h = refl
  none_before_greater (x ∷ xs) h = rw h.0 (none_before_greater xs h.1)

  abbrev three : List X → List X
  three xs = filter (λ x. is_lt (c x)) xs ++ (filter (λ x. is_eq (c x)) xs ++ filter (λ x. is_gt (c x)) xs)

  cut_by : (x : X) (xs : List X) (o : Ordering) → AllByRecursion (λ y. Follows o (c y)) xs → three xs ≡ xs
      → cond (is_lt o) (x ∷ filter (λ x. is_lt (c x)) xs) (filter (λ x. is_lt (c x)) xs)
      ++ (cond (is_eq o) (x ∷ filter (λ x. is_eq (c x)) xs) (filter (λ x. is_eq (c x)) xs)
      ++ cond (is_gt o) (x ∷ filter (λ x. is_gt (c x)) xs) (filter (λ x. is_gt (c x)) xs)) ≡ x ∷ xs
  cut_by x xs Less h k = ap (λ ys. x ∷ ys) k
  cut_by x xs Equal h k =
      let e : filter (λ x. is_lt (c x)) xs ≡ [] = none_before xs h in
      ap (λ ys. ys ++ (x ∷ filter (λ x. is_eq (c x)) xs ++ filter (λ x. is_gt (c x)) xs)) e
      ∙ ap (λ ys. x ∷ ys) (sym (ap (λ ys. ys ++ (filter (λ x. is_eq (c x)) xs ++ filter (λ x. is_gt (c x)) xs)) e) ∙ k)
  cut_by x xs Greater h k =
      let e : filter (λ x. is_lt (c x)) xs ≡ [] = none_before_greater xs h in
      let f : filter (λ x. is_eq (c x)) xs ≡ [] = none_at xs h in
      ap (λ ys. ys ++ (filter (λ x. is_eq (c x)) xs ++ (x ∷ filter (λ x. is_gt (c x)) xs))) e
      ∙ ap (λ ys. ys ++ (x ∷ filter (λ x. is_gt (c x)) xs)) f
      ∙ ap (λ ys. x ∷ ys)
      (sym (ap (λ ys. ys ++ (filter (λ x. is_eq (c x)) xs ++ filter (λ x. is_gt (c x)) xs)) e ∙ ap (λ ys. ys ++ filter (λ x. is_gt (c x)) xs) f) ∙ k)

  -- those before the middle, those at it and those after it
  pub cut_in_three : (xs : List X) → AreRising xs → three xs ≡ xs
  cut_in_three [] h = refl
  cut_in_three (x ∷ xs) h = cut_by x xs (c x) h.0 (cut_in_three xs h.1)

nat_cmp-at : (x s : ℕ) → is_eq (nat_cmp x s) ≡ (x == s)
nat_cmp-at x s = grind (arith, common_steps)

nat_cmp-before : (x s : ℕ) → is_lt (nat_cmp x s) ≡ nat_lt x s
nat_cmp-before x s = grind (arith, common_steps)

nat_cmp-after : (x s : ℕ) → is_gt (nat_cmp x s) ≡ nat_lt s x
nat_cmp-after x s = grind (arith, common_steps)

regroup : (a b c : Ordering) → a ≡ Equal → ordering_then (ordering_then a b) c ≡ Less → ordering_then b c ≡ Less
regroup Equal b c e h = h
regroup Less b c e h = absurd (cc)
regroup Greater b c e h = absurd (cc)

after : IsTotalOrder word_order → (v w x : Word) → word_order w v ≡ Greater → word_order w x ≡ Less → word_order x v ≡ Greater
after total v w x g l =
    let back : word_order v w ≡ Less = total.antisymm v w ∙ ap ordering_reverse g in
    total.antisymm x v ∙ ap ordering_reverse (total.trans v w x back l)

module _ {V : Type 0} where
  source_follows : (s : ℕ) (t u : Transition V) → triple_order t u ≡ Less → Follows (nat_cmp t.from s) (nat_cmp u.from s)
  source_follows s t u h = by (nat_cmp t.from s) refl
    where
      rises : t.from ≤ u.from
      rises = grind (arith, common_steps)

      by : (o : Ordering) → nat_cmp t.from s ≡ o → Follows o (nat_cmp u.from s)
      by Less e = tt
      by Equal e = grind (arith, common_steps)
      by Greater e = grind (arith, common_steps)

  sources_follow : (s : ℕ) (t : Transition V) (ts : List (Transition V)) → AllByRecursion (λ u. triple_order t u ≡ Less) ts → AllByRecursion (λ u. Follows (nat_cmp t.from s) (nat_cmp u.from s)) ts
  sources_follow s t [] h = tt
  sources_follow s t (u ∷ us) h = (source_follows s t u h.0, sources_follow s t us h.1)

  sources_rise : (s : ℕ) (ts : List (Transition V)) → AreInOrder ts → AreRising (λ (t : Transition V). nat_cmp t.from s) ts
  sources_rise s [] h = tt
  sources_rise s (t ∷ ts) h = (sources_follow s t ts (sorted_head triple_order t ts h), sources_rise s ts (sorted_tail triple_order t ts h))

  -- the transitions of a state stand together
  pub together : (ts : List (Transition V)) (s : ℕ) → AreInOrder ts
      → filter (λ t. nat_lt t.from s) ts ++ (moves_from ts s ++ filter (λ t. nat_lt s t.from) ts) ≡ ts
  together ts s h =
      rw (
        ← filter_agree (λ (t : Transition V). is_lt (nat_cmp t.from s)) (λ t. nat_lt t.from s) (λ t. nat_cmp-before t.from s) ts,
        ← filter_agree (λ (t : Transition V). is_eq (nat_cmp t.from s)) (λ t. t.from == s) (λ t. nat_cmp-at t.from s) ts,
        ← filter_agree (λ (t : Transition V). is_gt (nat_cmp t.from s)) (λ t. nat_lt s t.from) (λ t. nat_cmp-after t.from s) ts,
      )
      (cut_in_three (λ (t : Transition V). nat_cmp t.from s) ts (sources_rise s ts h))

  -- a transition that stands in front of later ones, where the states from s on are gone through
  other_states : (t : Transition V) (ts : List (Transition V)) (s n : ℕ) → t.from < s → flat_map (moves_from (t ∷ ts)) (up_from s n) ≡ flat_map (moves_from ts) (up_from s n)
  other_states t ts s zero h = refl
  other_states t ts s (suc n) h =
      let e : (t.from == s) ≡ false = grind (arith, common_steps) in
      ap₂ (λ us vs. us ++ vs) (ap (λ b. cond b (t ∷ moves_from ts s) (moves_from ts s)) e) (other_states t ts (suc s) n (omega arith))

  in_front_by : (t : Transition V) (ts : List (Transition V)) (s n : ℕ) → AllByRecursion (λ u. t.from ≤ u.from) ts → s ≤ t.from
      → (suc s ≤ t.from → flat_map (moves_from (t ∷ ts)) (up_from (suc s) n) ≡ t ∷ flat_map (moves_from ts) (up_from (suc s) n))
      → (b : Bool) → (t.from == s) ≡ b → flat_map (moves_from (t ∷ ts)) (up_from s (suc n)) ≡ t ∷ flat_map (moves_from ts) (up_from s (suc n))
  in_front_by t ts s n h l ih true e =
      let same : t.from ≡ s = grind (arith, common_steps) in
      ap₂ (λ us vs. us ++ vs) (ap (λ b. cond b (t ∷ moves_from ts s) (moves_from ts s)) e) (other_states t ts (suc s) n (omega (arith, same)))
  in_front_by t ts s n h l ih false e =
      let after : suc s ≤ t.from = grind (arith, common_steps) in
      let none : moves_from ts s ≡ [] = from_state-none s ts (later (suc s) t.from ts after h) in
      ap (λ b. cond b (t ∷ moves_from ts s) (moves_from ts s) ++ flat_map (moves_from (t ∷ ts)) (up_from (suc s) n)) e
      ∙ ap (λ us. us ++ flat_map (moves_from (t ∷ ts)) (up_from (suc s) n)) none
      ∙ ih after
      ∙ ap (λ us. t ∷ us ++ flat_map (moves_from ts) (up_from (suc s) n)) (sym none)

  in_front : (t : Transition V) (ts : List (Transition V)) (s n : ℕ) → AllByRecursion (λ u. t.from ≤ u.from) ts → s ≤ t.from → t.from < s + n
      → flat_map (moves_from (t ∷ ts)) (up_from s n) ≡ t ∷ flat_map (moves_from ts) (up_from s n)
  in_front t ts s zero h l m = absurd (omega (arith, l, m))
  in_front t ts s (suc n) h l m =
      in_front_by t ts s n h l (λ k. in_front t ts (suc s) n h k (omega (arith, m))) (t.from == s) refl

  no_states : (s n : ℕ) → flat_map (moves_from {V = V} []) (up_from s n) ≡ []
  no_states s zero = refl
  no_states s (suc n) = no_states (suc s) n

  -- state by state these are all transitions
  pub by_state : (ts : List (Transition V)) (n : ℕ) → AreInOrder ts → All (λ t. t.from < n) ts → flat_map (moves_from ts) (below n) ≡ ts
  by_state [] n h k = no_states 0 n
  by_state (t ∷ ts) n h k =
      in_front t ts 0 n (from_order t ts (sorted_head triple_order t ts h)) (omega arith) (let l : t.from < n = All-head (λ (u : Transition V). u.from < n) t ts k in omega (arith, l))
      ∙ ap (λ us. t ∷ us) (by_state ts n (sorted_tail triple_order t ts h) (All-tail (λ (u : Transition V). u.from < n) t ts k))

  by_move : (t u : Transition V) (us : List (Transition V)) (s : ℕ) → t.from ≡ s → triple_order t u ≡ Less → AllByRecursion (λ u. move_order t u ≡ Less) (moves_from us s)
      → (b : Bool) → (u.from == s) ≡ b → AllByRecursion (λ u. move_order t u ≡ Less) (cond b (u ∷ moves_from us s) (moves_from us s))
  by_move t u us s e h rest true q = (
    (let same : nat_cmp t.from u.from ≡ Equal = grind (arith, common_steps) in regroup (nat_cmp t.from u.from) (word_order t.label u.label) (nat_cmp t.to u.to) same h),
    rest,
  )
  by_move t u us s e h rest false q = rest

  moves_after : (t : Transition V) (ts : List (Transition V)) (s : ℕ) → t.from ≡ s → AllByRecursion (λ u. triple_order t u ≡ Less) ts → AllByRecursion (λ u. move_order t u ≡ Less) (moves_from ts s)
  moves_after t [] s e h = tt
  moves_after t (u ∷ us) s e h = by_move t u us s e h.0 (moves_after t us s e h.1) (u.from == s) refl

  no_moves : (ts : List (Transition V)) → ts ≡ [] → IsStrictlySortedBy move_order ts
  unfolding IsStrictlySortedBy
  no_moves ts e = rw e tt

  one_more : (t : Transition V) (ts : List (Transition V)) → AllByRecursion (λ u. move_order t u ≡ Less) ts → IsStrictlySortedBy move_order ts → IsStrictlySortedBy move_order (t ∷ ts)
  unfolding IsStrictlySortedBy
  one_more t ts h k = (h, k)

  order_by : (t : Transition V) (ts : List (Transition V)) (s : ℕ) → AllByRecursion (λ u. triple_order t u ≡ Less) ts → IsStrictlySortedBy move_order (moves_from ts s)
      → (b : Bool) → (t.from == s) ≡ b → IsStrictlySortedBy move_order (cond b (t ∷ moves_from ts s) (moves_from ts s))
  order_by t ts s h rest true q = one_more t (moves_from ts s) (moves_after t ts s (grind (arith, common_steps)) h) rest
  order_by t ts s h rest false q = rest

  -- those of a state are in order of labels, and then of targets
  pub moves_in_order : (ts : List (Transition V)) (s : ℕ) → AreInOrder ts → IsStrictlySortedBy move_order (moves_from ts s)
  moves_in_order [] s h = no_moves [] refl
  moves_in_order (t ∷ ts) s h = order_by t ts s (sorted_head triple_order t ts h) (moves_in_order ts s (sorted_tail triple_order t ts h)) (t.from == s) refl

  module _ (total : IsTotalOrder word_order) (equal : (v w : Word) → (word_order v w ≡ Equal) ↔ (v ≡ w)) where
    label_rises : (t u : Transition V) → (o : Ordering) → word_order t.label u.label ≡ o → ordering_then o (nat_cmp t.to u.to) ≡ Less → (word_order t.label u.label ≡ Less) ⊎ (t.label ≡ u.label)
    label_rises t u Less e h = inl e
    label_rises t u Equal e h = inr ((equal t.label u.label).0 e)
    label_rises t u Greater e h = absurd (cc)

    label_follows : (w : Word) (t u : Transition V) → move_order t u ≡ Less → Follows (word_order t.label w) (word_order u.label w)
    label_follows w t u h = elim (label_rises t u (word_order t.label u.label) refl h) [
      | inl l ↦ less (word_order t.label w) refl l
      | inr e ↦ same (word_order t.label w) (ap (λ v. word_order v w) (sym e))
    ]
      where
        same : (o : Ordering) → word_order u.label w ≡ o → Follows o (word_order u.label w)
        same Less q = tt
        same Equal q = ap is_lt q
        same Greater q = q

        less : (o : Ordering) → word_order t.label w ≡ o → word_order t.label u.label ≡ Less → Follows o (word_order u.label w)
        less Less q l = tt
        less Equal q l =
            let g : word_order u.label t.label ≡ Greater = total.antisymm u.label t.label ∙ ap ordering_reverse l in
            ap is_lt (ap (word_order u.label) (sym ((equal t.label w).0 q)) ∙ g)
        less Greater q l = after total w t.label u.label q l

    labels_follow : (w : Word) (t : Transition V) (ts : List (Transition V)) → AllByRecursion (λ u. move_order t u ≡ Less) ts → AllByRecursion (λ u. Follows (word_order t.label w) (word_order u.label w)) ts
    labels_follow w t [] h = tt
    labels_follow w t (u ∷ us) h = (label_follows w t u h.0, labels_follow w t us h.1)

    labels_rise : (w : Word) (ts : List (Transition V)) → IsStrictlySortedBy move_order ts → AreRising (λ (t : Transition V). word_order t.label w) ts
    labels_rise w [] h = tt
    labels_rise w (t ∷ ts) h = (labels_follow w t ts (sorted_head move_order t ts h), labels_rise w ts (sorted_tail move_order t ts h))

    at_label : (w : Word) (t : Transition V) → is_eq (word_order t.label w) ≡ same_word w t.label
    at_label w t = bool_same (is_eq (word_order t.label w)) (same_word w t.label)
        (λ e. same_word_is w t.label (sym ((equal t.label w).0 (is_equal (word_order t.label w) e))))
        (λ e. ap is_eq ((equal t.label w).1 (sym (same_word-true w t.label e))))

    -- those with a label stand together
    pub labels_together : (ts : List (Transition V)) (w : Word) → IsStrictlySortedBy move_order ts
        → filter (λ t. is_lt (word_order t.label w)) ts ++ (filter (λ t. same_word w t.label) ts ++ filter (λ t. is_gt (word_order t.label w)) ts) ≡ ts
    labels_together ts w h =
        rw (← filter_agree (λ (t : Transition V). is_eq (word_order t.label w)) (λ t. same_word w t.label) (at_label w) ts)
        (cut_in_three (λ (t : Transition V). word_order t.label w) ts (labels_rise w ts h))
