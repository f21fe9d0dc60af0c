-- One member after the other is followed.
use Rattle.std.proofs.Common.{◌≡◌, ◌<◌, ◌≤◌, ◌+◌, ℕ, zero, suc, List, [], ◌∷◌, ◌++◌, map, Bool, true, refl, sym, ap, ◌∙◌, subst, arith, length, length-append, append_assoc, get_or, Some, inl, inr}
use Rattle.std.specs.Prelude.{slice_get, false}
use Rattle.std.specs.List.{flat_map}
use Rattle.std.proofs.lemmas.Bool.{cases_lt}
use Rattle.std.proofs.lemmas.List.{append-nil}
use Rattle.vc_label.specs.declared.tape_set.TapeSet.{TapeSet}
use Rattle.vc_model.specs.Items.{Item, item_key}
use Rattle.vc_model.specs.Lists.{In, NoRepeat, below}
use Rattle.vc_model.specs.Members.{up_from-more}
use Rattle.vc_model.specs.Numbering.{with_new, found_from, numbered, IsAccessible}
use Rattle.vc_model.specs.NumberingLaws.{Longer, Longer-same, Longer-trans, get_or-append}
use Rattle.vc_model.specs.WeightSet.{WeightSet}
use Rattle.vc_ring.specs.Steps.{fits}
use Rattle.vc_ring.specs.declared.faults.MakeFault.{MakeFault}
use Rattle.vc_ring.specs.declared.faults.MakeFault.TheVariants.{Overflow as Unfit, Limit as PastLimit, Memory}
use Rattle.vc_ring.specs.declared.faults.Measure.TheVariants.{States}
use Rattle.vc_ring.specs.declared.faults.Overflow.{Overflow}
use Rattle.vc_search.specs.CourseLaws.{led_all-is}
use Rattle.vc_search.specs.Courses.{Course, IsStopped, NoStep, begun_all, empty_course, led, led_all, step_of, steps_at, steps_below, targets}
use Rattle.vc_search.specs.Explored.{IsUnexplored, next_by}
use Rattle.vc_search.specs.Followed.{IsFollowed, IsUnderway}
use Rattle.vc_search.specs.Found.{with_key}
use Rattle.vc_search.specs.FoundLaws.{number-final, place_found, with_new-behind}
use Rattle.vc_search.proofs.Among.{with_new-among}
use Rattle.vc_search.proofs.Triples.{named_below, named_by, named_length, named_more, named_once}

flat_map-append : {X Y : Type 0} (f : X → List Y) (xs ys : List X) → flat_map f (xs ++ ys) ≡ flat_map f xs ++ flat_map f ys
flat_map-append f [] ys = refl
flat_map-append f (x ∷ xs) ys = ap (λ zs. f x ++ zs) (flat_map-append f xs ys) ∙ sym (append_assoc (f x) (flat_map f xs) (flat_map f ys))

module _ {V K : Type 0} (same : K → K → Bool) (self : (k : K) → same k k ≡ true) (past : K) (first : List K) (items : K → List (Item V K)) where
  -- the transitions of items lead to the numbers that members have in the end
  led_all-steps : (from : ℕ) (c : Course V K) (es : List (Item V K)) (all : List K) → Longer (led_all same from c es).members all → (led_all same from c es).transitions ≡ c.transitions ++ map (step_of same all from) es
  led_all-steps from c [] all p = sym (append-nil c.transitions)
  led_all-steps from c (e ∷ es) all p =
      let c' : Course V K = led same from c e in
      let i = led_all-is same from c' es in
      let m : Longer c'.members (led_all same from c' es).members = subst (Longer c'.members) (sym i.members) (with_new-behind same c'.members (targets es)) in
      let l : Longer (with_key same c.members e.to) all = Longer-trans c'.members (led_all same from c' es).members all m p in
      led_all-steps from c' es all p
      ∙ append_assoc c.transitions (step_of same c.members from e ∷ []) (map (step_of same all from) es)
      ∙ ap (λ n. c.transitions ++ record { from = from; label = e.label; to = n; weight = e.weight } ∷ map (step_of same all from) es) (sym (number-final same self e.to c.members all l))

  steps-more : (all : List K) (n : ℕ) → steps_below same items past all (n + 1) ≡ steps_below same items past all n ++ steps_at same items past all n
  steps-more all n =
      let f = steps_at same items past all in
      let z : 0 + n ≡ n = omega arith in
      ap (flat_map f) (up_from-more 0 n ∙ ap (λ m. below n ++ m ∷ []) z)
      ∙ flat_map-append f (below n) (n ∷ []) ∙ ap (λ us. flat_map f (below n) ++ us) (append-nil (f n))

  found_at : (n : ℕ) (all xs : List K) → n < length xs → found_from same (next_by items) n all xs ≡ with_new same all (targets (items (get_or xs n past)))
  found_at n all [] h = absurd (omega arith)
  found_at zero all (x ∷ xs) h = refl
  found_at (suc n) all (x ∷ xs) h = found_at n all xs (omega arith)

  module _ (P : K → Type 0) (most : ℕ) (sets : List TapeSet) where
    -- after the first members none is followed
    pub starts : (c : Course V K) → c ≡ begun_all same (empty_course most sets) first → ((k : K) → In k first → P k) → IsUnderway same past first items P most sets c 0
    starts c e h = subst (λ z. IsUnderway same past first items P most sets z 0) (sym e) (record {
      numbered = refl;
      transitions = λ all p. refl;
      most = refl;
      sets = refl;
      within = omega arith;
      members = λ k i. h k (elim (with_new-among same [] first k i) [ inl j ↦ absurd j | inr j ↦ j ]);
      once = λ i l. absurd (omega arith);
    })

    module _ (c : Course V K) (n : ℕ) (k : K) (W : IsUnderway same past first items P most sets c n) (s : slice_get c.members n ≡ Some k) where
      at : k ≡ get_or c.members n past
      at = (place_found c.members n k past s).2

      numbered_next : with_new same c.members (targets (items k)) ≡ numbered same (next_by items) first (n + 1)
      numbered_next =
          let e : n + 1 ≡ suc n = omega arith in
          let p = place_found c.members n k past s in
          ap (λ x. with_new same c.members (targets (items x))) p.2
          ∙ sym (found_at n c.members c.members p.0)
          ∙ ap (λ ks. found_from same (next_by items) n ks ks) W.numbered
          ∙ ap (numbered same (next_by items) first) (sym e)

      once_next : (all : List K) → Longer c.members all → NoRepeat (map item_key (items k)) → (i : ℕ) → i < n + 1 → NoRepeat (map item_key (items (get_or all i past)))
      once_next all l o i h =
          let p = place_found c.members n k past s in
          let front : (j : ℕ) → j < length c.members → get_or all j past ≡ get_or c.members j past = λ j q. ap (λ ks. get_or ks j past) l.is ∙ get_or-append c.members l.more j past q in
          elim (cases_lt i n) [
            | inl q ↦ subst (λ x. NoRepeat (map item_key (items x))) (sym (front i (omega (arith, q, p.0)))) (W.once i q)
            | inr q ↦
                let e : i ≡ n = omega arith in
                subst (λ x. NoRepeat (map item_key (items x))) (p.2 ∙ sym (front n p.0) ∙ ap (λ j. get_or all j past) (sym e)) o
          ]

      -- one member more is followed
      pub goes_on : (c' : Course V K) → c' ≡ led_all same n c (items k) → ((x : K) → In x (targets (items k)) → P x) → NoRepeat (map item_key (items k)) → IsUnderway same past first items P most sets c' (n + 1)
      goes_on c' e h o =
          let d : Course V K = led_all same n c (items k) in
          let p = place_found c.members n k past s in
          let i = led_all-is same n c (items k) in
          let l : Longer c.members d.members = subst (Longer c.members) (sym i.members) (with_new-behind same c.members (targets (items k))) in
          subst (λ z. IsUnderway same past first items P most sets z (n + 1)) (sym e) (record {
            numbered = i.members ∙ numbered_next;
            transitions = λ all q.
                let m : Longer c.members all = Longer-trans c.members d.members all l q in
                let there : get_or all n past ≡ k = ap (λ ks. get_or ks n past) m.is ∙ get_or-append c.members m.more n past p.0 ∙ sym p.2 in
                led_all-steps n c (items k) all q
                ∙ ap (λ ts. ts ++ map (step_of same all n) (items k)) (W.transitions all m)
                ∙ ap (λ x. steps_below same items past all n ++ map (step_of same all n) (items x)) (sym there)
                ∙ sym (steps-more all n);
            most = i.most ∙ W.most;
            sets = i.sets ∙ W.sets;
            within = omega (arith, p.0, ap length l.is, length-append c.members l.more);
            members = λ x j. elim (with_new-among same c.members (targets (items k)) x (subst (In x) i.members j)) [ inl a ↦ W.members x a | inr b ↦ h x b ];
            once = once_next d.members l o;
          })

      module _ (R : WeightSet V) (is_step : K → Overflow V → Type 0) (once : (m : ℕ) → NoRepeat (numbered same (next_by items) first m)) (found : (m : ℕ) (x : K) → In x (numbered same (next_by items) first m) → IsAccessible (next_by items) first x) where
        accessible : (x : K) → In x c.members → IsAccessible (next_by items) first x
        accessible x i = found n x (subst (In x) W.numbered i)

        get_in : (xs : List K) (i : ℕ) → i < length xs → In (get_or xs i past) xs
        get_in [] i h = absurd (omega arith)
        get_in (x ∷ xs) zero h = inl refl
        get_in (x ∷ xs) (suc i) h = inr (get_in xs i (omega arith))

        -- where the search stops at a member, the cause stands
        pub stops : NoRepeat (map item_key (items k)) → (f : MakeFault V) → IsStopped same (λ o. is_step k o × (fits R o ≡ false)) c (targets (items k)) (length (items k)) f → IsUnexplored R items first is_step most f
        stops o (Unfit x) h = record { member = k; accessible = accessible k (place_found c.members n k past s).1; step = h.0; fails = h.1 }
        stops o (PastLimit l) h = elim h [
          | inl q ↦
              let more = q.1 in
              let e = ap length numbered_next in
              let w = W.most in
              inl (
                q.0 ∙ ap (λ m. record { what = States; most = m }) w,
                record {
                  members = numbered same (next_by items) first (n + 1);
                  once = once (n + 1);
                  accessible = found (n + 1);
                  more = omega (arith, more, e, w);
                },
              )
          | inr q ↦
              let more = q.1 in
              let p = place_found c.members n k past s in
              let l = Longer-same c.members in
              let a = named_more items past c.members n in
              let b = named_length items past c.members same n in
              let d = ap length (W.transitions c.members l) in
              let e = ap (λ x. length (items x)) p.2 in
              inr (
                q.0,
                record {
                  triples = named_below items past c.members (n + 1);
                  once = named_once items past c.members (n + 1) (subst NoRepeat (sym W.numbered) (once n)) (omega (arith, p.0)) (once_next c.members l o);
                  accessible = λ y i. let r = named_by items past c.members (n + 1) y i in let b = r.1 in subst (IsAccessible (next_by items) first) (sym r.2) (accessible (get_or c.members r.0 past) (get_in c.members r.0 (omega (arith, b, p.0))));
                  named = λ y i. (named_by items past c.members (n + 1) y i).3;
                  more = omega (arith, more, a, b, d, e);
                },
              )
        ]
        stops o (Memory x) h = tt

    -- where the first members have no room, the cause stands
    pub stops_first : (R : WeightSet V) (is_step : K → Overflow V → Type 0) → ((m : ℕ) → NoRepeat (numbered same (next_by items) first m)) → ((m : ℕ) (x : K) → In x (numbered same (next_by items) first m) → IsAccessible (next_by items) first x)
        → (f : MakeFault V) → IsStopped same NoStep (empty_course {V = V} most sets) first 0 f → IsUnexplored R items first is_step most f
    stops_first R is_step once found (Unfit x) h = absurd h
    stops_first R is_step once found (PastLimit l) h = elim h [
      | inl q ↦ inl (q.0, record { members = numbered same (next_by items) first 0; once = once 0; accessible = found 0; more = q.1 })
      | inr q ↦ (let more = q.1 in absurd (omega (arith, more)))
    ]
    stops_first R is_step once found (Memory x) h = tt

    -- once all are followed, they are numbered
    pub ends : (c : Course V K) (n : ℕ) → IsUnderway same past first items P most sets c n → length c.members ≤ n → IsFollowed same past first items P c
    ends c n W h =
        let w = W.within in
        let e : n ≡ length c.members = omega (arith, h, w) in
        record {
          numbering = record { followed = n; are = sym W.numbered; whole = h };
          transitions = W.transitions c.members (Longer-same c.members) ∙ ap (steps_below same items past c.members) e;
          members = W.members;
          once = λ i l. W.once i (omega (arith, l, e));
        }
