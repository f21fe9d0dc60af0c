-- What is left of an automaton between some of its states.
use Rattle.std.proofs.Common.{◌≡◌, ◌≢◌, ℕ, ◌<◌, ◌≤◌, ◌+◌, List, [], ◌∷◌, ◌++◌, Bool, true, false, not, cond, ◌&&◌, eqb, length, map, filter, get_or, Option, None, Some, nat_cmp, Less, Equal, Greater, All, IsTrue, ◌||◌, ◌^◌, refl, sym, ap, ap₂, ◌∙◌, inl, inr, subst, zero, suc, arith, append-nil}
use Rattle.std.specs.Prelude.{◌↔◌}
use Rattle.std.specs.List.{AllByRecursion}
use Rattle.std.specs.List.Sorted.{IsStrictlySortedBy}
use Rattle.std.specs.declared.cmp.Ordering.{Ordering}
use Rattle.std.proofs.lemmas.List.Kept.{IsStrictlySortedBy-filter}
use Rattle.vc_label.specs.Order.{word_order}
use Rattle.vc_label.specs.declared.tape_set.TapeSet.{TapeSet}
use Rattle.vc_aut.specs.Validity.{IsLabelled, IsMove}
use Rattle.vc_aut.specs.Kept.{AreKept, AreUseful}
use Rattle.vc_aut.proofs.Kept.{eqb_not, kept_increasing}
use Rattle.vc_aut.proofs.Valid.{of_member}
use Rattle.std.specs.Ordering.{ordering_then}
use Rattle.std.proofs.lemmas.Bool.{false≢true, eqb-true, eq-eqb}
use Rattle.std.proofs.lemmas.Option.{none-some, same_Some}
use Rattle.std.proofs.lemmas.List.{get_or-map, length-map, map-append}
use Rattle.std.proofs.lemmas.List.Filters.{length-filter_both}
use Rattle.std.proofs.lemmas.List.Elements.{filter-append, All-nil, All-cons, All-map}
use Rattle.std.proofs.lemmas.Grind.{common_steps}
use Rattle.vc_model.specs.Automata.{Transition, Automaton, IsPath, IsUseful, end_of}
use Rattle.vc_model.specs.Lists.{In, IsIncreasing, below, up_from}
use Rattle.vc_model.specs.Machines.{place_in}
use Rattle.vc_model.specs.Members.{In-filter, In-filter_from, In-up_from, up_from-In}
use Rattle.vc_model.specs.Numbering.{is_among}
use Rattle.vc_model.specs.PathLaws.{IsPath-append}
use Rattle.vc_model.specs.Trims.{is_between, placed, IsTrim}
use Rattle.vc_model.specs.WeightSet.{WeightSet, InRange}
use Rattle.vc_model.specs.WordLaws.{and_parts, and_both}
use Rattle.vc_aut.specs.Links.{IsChain, IsReached, last_of, linked}
use Rattle.vc_aut.specs.Marks.{is_marked}
use Rattle.vc_aut.specs.Order.{triple_order, AreInOrder}
use Rattle.vc_aut.proofs.Reached.{In-linked, In-read, linked-In}

module _ {V : Type 0} (kept : List ℕ) where
  abbrev answer : Bool → Transition V → Option (Transition V)
  answer b t = cond b (Some (placed kept t)) None

  between_more : (ts : List (Transition V)) (t : Transition V) → map (placed kept) (filter (is_between kept) (ts ++ t ∷ [])) ≡ map (placed kept) (filter (is_between kept) ts) ++ map (placed kept) (cond (is_between kept t) (t ∷ []) [])
  between_more ts t = ap (map (placed kept)) (filter-append (is_between kept) ts (t ∷ [])) ∙ map-append (placed kept) (filter (is_between kept) ts) (cond (is_between kept t) (t ∷ []) [])

  pub between_skip : (ts : List (Transition V)) (t : Transition V) → answer (is_between kept t) t ≡ None → map (placed kept) (filter (is_between kept) (ts ++ t ∷ [])) ≡ map (placed kept) (filter (is_between kept) ts)
  between_skip ts t e = between_more ts t ∙ go (is_between kept t) e
    where
      go : (b : Bool) → answer b t ≡ None → map (placed kept) (filter (is_between kept) ts) ++ map (placed kept) (cond b (t ∷ []) []) ≡ map (placed kept) (filter (is_between kept) ts)
      go true e = absurd (none-some (placed kept t) (sym e))
      go false e = append-nil (map (placed kept) (filter (is_between kept) ts))

  pub between_take : (ts : List (Transition V)) (t u : Transition V) → answer (is_between kept t) t ≡ Some u → map (placed kept) (filter (is_between kept) (ts ++ t ∷ [])) ≡ map (placed kept) (filter (is_between kept) ts) ++ u ∷ []
  between_take ts t u e = between_more ts t ∙ go (is_between kept t) e
    where
      go : (b : Bool) → answer b t ≡ Some u → map (placed kept) (filter (is_between kept) ts) ++ map (placed kept) (cond b (t ∷ []) []) ≡ map (placed kept) (filter (is_between kept) ts) ++ u ∷ []
      go true e = ap (λ v. map (placed kept) (filter (is_between kept) ts) ++ v ∷ []) (same_Some (placed kept t) u e)
      go false e = absurd (none-some u e)

module _ {V : Type 0} (A : Automaton V) where
  -- a chain along the transitions is a path, and a path is a chain
  pub record PathTo (p q : ℕ) : Type 0 where
    pub path : List (Transition V)
    pub is : IsPath A p path
    pub ends : end_of p path ≡ q

  pub chain_path : (p : ℕ) (qs : List ℕ) → IsChain (linked false A.transitions) p qs → PathTo p (last_of p qs)
  chain_path p [] h = record { path = []; is = tt; ends = refl }
  chain_path p (q ∷ qs) h =
      let t = linked-In false A.transitions p q h.0 in
      let r = chain_path q qs h.1 in
      record { path = t.0 ∷ r.path; is = (t.1, t.2, subst (λ x. IsPath A x r.path) t.3 r.is); ends = subst (λ x. end_of x r.path ≡ last_of q qs) t.3 r.ends }

  pub path_chain : (p : ℕ) (ts : List (Transition V)) → IsPath A p ts → (qs : List ℕ) × IsChain (linked false A.transitions) p qs × (last_of p qs ≡ end_of p ts)
  path_chain p [] h = ([], tt, refl)
  path_chain p (t ∷ ts) h =
      let r = path_chain t.to ts h.2 in
      (t.to ∷ r.0, (subst (λ x. In t.to (linked false A.transitions x)) h.1 (In-linked false A.transitions t h.0), r.1), r.2)

  -- a chain backwards is a path to where it begins
  pub back_path : (p : ℕ) (qs : List ℕ) → IsChain (linked true A.transitions) p qs → PathTo (last_of p qs) p
  back_path p [] h = record { path = []; is = tt; ends = refl }
  back_path p (q ∷ qs) h =
      let t = linked-In true A.transitions p q h.0 in
      let r = back_path q qs h.1 in
      let e : end_of (last_of q qs) r.path ≡ t.0.from = r.ends ∙ t.3 in
      record {
        path = r.path ++ t.0 ∷ [];
        is = IsPath-append A (last_of q qs) r.path (t.0 ∷ []) r.is (t.1, sym e, tt);
        ends = end_append (last_of q qs) r.path t.0 ∙ t.2;
      }
    where
      end_append : (p : ℕ) (ts : List (Transition V)) (t : Transition V) → end_of p (ts ++ t ∷ []) ≡ t.to
      end_append p [] t = refl
      end_append p (u ∷ us) t = end_append u.to us t

  pub path_back : (p : ℕ) (ts : List (Transition V)) → IsPath A p ts → (qs : List ℕ) × IsChain (linked true A.transitions) (end_of p ts) qs × (last_of (end_of p ts) qs ≡ p)
  path_back p [] h = ([], tt, refl)
  path_back p (t ∷ ts) h =
      let r = path_back t.to ts h.2 in
      let i : In t.from (linked true A.transitions t.to) = In-linked true A.transitions t h.0 in
      let c = more (end_of t.to ts) r.0 t.from r.1 (subst (λ x. In t.from (linked true A.transitions x)) (sym r.2) i) in
      (r.0 ++ t.from ∷ [], c.0, c.1 ∙ h.1)
    where
      more : (p : ℕ) (qs : List ℕ) (q : ℕ) → IsChain (linked true A.transitions) p qs → In q (linked true A.transitions (last_of p qs)) → IsChain (linked true A.transitions) p (qs ++ q ∷ []) × (last_of p (qs ++ q ∷ []) ≡ q)
      more p [] q h i = ((i, tt), refl)
      more p (r ∷ rs) q h i = let c = more r rs q h.1 i in ((h.0, c.0), c.1)

pub length_kept : (keep : ℕ → Bool) (s n : ℕ) → length (filter keep (up_from s n)) ≤ n
length_kept keep s zero = omega arith
length_kept keep s (suc n) = go (keep s) (length_kept keep (suc s) n)
  where
    go : (b : Bool) → length (filter keep (up_from (suc s) n)) ≤ n → length (cond b (s ∷ filter keep (up_from (suc s) n)) (filter keep (up_from (suc s) n))) ≤ suc n
    go true l = omega arith
    go false l = omega arith

pub all_of : {X : Type 0} (P : X → Type 0) (xs : List X) → ((x : X) → In x xs → P x) → All P xs
all_of P [] h = All-nil P
all_of P (x ∷ xs) h = All-cons P x xs (h x (inl refl)) (all_of P xs (λ y i. h y (inr i)))

-- places in an ascending list
module _ where
  abbrev same_number : ℕ → ℕ → Bool
  same_number a b = eqb a b

  pub among : (p : ℕ) (kept : List ℕ) → In p kept → is_among same_number p kept ≡ true
  among p [] i = absurd i
  among p (k ∷ ks) (inl e) = ap (λ b. b || is_among same_number p ks) (eq-eqb p k e)
  among p (k ∷ ks) (inr i) = ap (λ b. eqb p k || b) (among p ks i) ∙ or_true (eqb p k)
    where
      or_true : (b : Bool) → (b || true) ≡ true
      or_true true = refl
      or_true false = refl

  pub among_In : (p : ℕ) (kept : List ℕ) → is_among same_number p kept ≡ true → In p kept
  among_In p [] h = absurd (false≢true h)
  among_In p (k ∷ ks) h = go (eqb p k) refl h (among_In p ks)
    where
      go : (b : Bool) → eqb p k ≡ b → (b || is_among same_number p ks) ≡ true → (is_among same_number p ks ≡ true → In p ks) → In p (k ∷ ks)
      go true e h f = inl (eqb-true p k e)
      go false e h f = inr (f h)

  pub place_inside : (p : ℕ) (kept : List ℕ) → In p kept → place_in same_number p kept < length kept
  place_inside p [] i = absurd i
  place_inside p (k ∷ ks) (inl e) = let z : eqb k p ≡ true = eq-eqb k p (sym e) in rw z (omega arith)
  place_inside p (k ∷ ks) (inr i) = go (eqb k p) (place_inside p ks i)
    where
      go : (b : Bool) → place_in same_number p ks < length ks → cond b 0 (suc (place_in same_number p ks)) < suc (length ks)
      go true l = omega arith
      go false l = omega arith

  place_less : (x y : ℕ) (kept : List ℕ) → IsIncreasing kept → In x kept → In y kept → x < y → place_in same_number x kept < place_in same_number y kept
  place_less x y [] h i j l = absurd i
  place_less x y (k ∷ ks) h (inl e) (inl f) l = absurd (omega arith)
  place_less x y (k ∷ ks) h (inl e) (inr j) l =
      let a : eqb k x ≡ true = eq-eqb k x (sym e) in
      let m : k < y = h.0 y j in
      let b : eqb k y ≡ false = eqb_not k y (omega arith) in
      rw (a, b) (omega arith)
  place_less x y (k ∷ ks) h (inr i) (inl f) l = let m : k < x = h.0 x i in absurd (omega arith)
  place_less x y (k ∷ ks) h (inr i) (inr j) l =
      let m : k < x = h.0 x i in
      let n : k < y = h.0 y j in
      let a : eqb k x ≡ false = eqb_not k x (omega arith) in
      let b : eqb k y ≡ false = eqb_not k y (omega arith) in
      let r : place_in same_number x ks < place_in same_number y ks = place_less x y ks h.1 i j l in
      rw (a, b) (omega arith)

  -- places are ordered as the numbers are
  pub place_order : (x y : ℕ) (kept : List ℕ) → IsIncreasing kept → In x kept → In y kept → nat_cmp (place_in same_number x kept) (place_in same_number y kept) ≡ nat_cmp x y
  place_order x y kept h i j = go (nat_cmp x y) refl
    where
      go : (o : Ordering) → nat_cmp x y ≡ o → nat_cmp (place_in same_number x kept) (place_in same_number y kept) ≡ o
      go Less e = let l : x < y = grind (arith, common_steps) in let r : place_in same_number x kept < place_in same_number y kept = place_less x y kept h i j l in grind (arith, common_steps)
      go Equal e = let l : x ≡ y = grind (arith, common_steps) in let r : place_in same_number x kept ≡ place_in same_number y kept = ap (λ z. place_in same_number z kept) l in grind (arith, common_steps)
      go Greater e = let l : y < x = grind (arith, common_steps) in let r : place_in same_number y kept < place_in same_number x kept = place_less y x kept h j i l in grind (arith, common_steps)

sorted_map : {X : Type 0} (c : X → X → Ordering) (f : X → X) (xs : List X) → ((x y : X) → In x xs → In y xs → c x y ≡ Less → c (f x) (f y) ≡ Less) → IsStrictlySortedBy c xs → IsStrictlySortedBy c (map f xs)
unfolding IsStrictlySortedBy
sorted_map c f [] h s = tt
sorted_map {X} c f (x ∷ xs) h s = (front xs (λ y i. h x y (inl refl) (inr i)) s.0, sorted_map c f xs (λ y z i j. h y z (inr i) (inr j)) s.1)
  where
    front : (ys : List X) → ((y : X) → In y ys → c x y ≡ Less → c (f x) (f y) ≡ Less) → AllByRecursion (λ y. c x y ≡ Less) ys → AllByRecursion (λ y. c (f x) y ≡ Less) (map f ys)
    front [] h a = tt
    front (y ∷ ys) h a = (h y (inl refl) a.0, front ys (λ z i. h z (inr i)) a.1)

module _ {V : Type 0} (R : WeightSet V) (same : V → V → Bool) (test : (a b : V) → (same a b ≡ true) ↔ (a ≡ b)) where
  abbrev pub weighty : List V → List Bool
  weighty ws = map (λ w. not (same w R.zero)) ws

  pub weighty_is : (ws : List V) (q : ℕ) → is_marked (weighty ws) q ≡ true → get_or ws q R.zero ≢ R.zero
  weighty_is [] q h e = absurd (false≢true h)
  weighty_is (w ∷ ws) zero h e = let s : same w R.zero ≡ true = (test w R.zero).1 e in let z : not true ≡ true = ap not (sym s) ∙ h in absurd (false≢true z)
  weighty_is (w ∷ ws) (suc q) h e = weighty_is ws q h e

  pub is_weighty : (ws : List V) (q : ℕ) → get_or ws q R.zero ≢ R.zero → is_marked (weighty ws) q ≡ true
  is_weighty [] q n = absurd (n refl)
  is_weighty (w ∷ ws) zero n = go (same w R.zero) refl
    where
      go : (b : Bool) → same w R.zero ≡ b → not b ≡ true
      go true e = absurd (n ((test w R.zero).0 e))
      go false e = refl
  is_weighty (w ∷ ws) (suc q) n = is_weighty ws q n

  module _ (A : Automaton V) (reached useful : List Bool) (r : (q : ℕ) → (is_marked reached q ≡ true) ↔ IsReached (linked false A.transitions) (weighty A.initial) q) (u : (q : ℕ) → (is_marked useful q ≡ true) ↔ IsReached (linked true A.transitions) (weighty A.final) q) where
    abbrev keep : ℕ → Bool
    keep p = is_marked reached p && is_marked useful p

    kept_useful : (p : ℕ) → keep p ≡ true → IsUseful R A p
    kept_useful p h =
        let both = and_parts (is_marked reached p) (is_marked useful p) h in
        let x = (r p).0 both.0 in
        let y = (u p).0 both.1 in
        let before = chain_path A x.start x.chain x.is in
        let after = back_path A y.start y.chain y.is in
        record {
          start = x.start;
          before = before.path;
          after = after.path;
          begins = weighty_is A.initial x.start x.begins;
          leads = before.is;
          arrives = before.ends ∙ x.ends;
          goes_on = subst (λ q. IsPath A q after.path) y.ends after.is;
          ends = λ e. weighty_is A.final y.start y.begins (ap (λ q. get_or A.final q R.zero) (sym (subst (λ q. end_of q after.path ≡ y.start) y.ends after.ends)) ∙ e);
        }

    useful_kept : (p : ℕ) → IsUseful R A p → keep p ≡ true
    useful_kept p h =
        let x = path_chain A h.start h.before h.leads in
        let y = path_back A p h.after h.goes_on in
        and_both (is_marked reached p) (is_marked useful p)
        ((r p).1 (record { start = h.start; begins = is_weighty A.initial h.start h.begins; chain = x.0; is = x.1; ends = x.2 ∙ h.arrives }))
        ((u p).1 (record { start = end_of p h.after; begins = is_weighty A.final (end_of p h.after) h.ends; chain = y.0; is = y.1; ends = y.2 }))

    pub all_useful : (kept : List ℕ) (places : List (Option ℕ)) → AreKept reached useful A.states kept places → AreUseful R A kept places
    all_useful kept places k =
        record {
          useful = λ p. (
            (λ j. let m = In-filter_from keep p (below A.states) (subst (λ xs. In p xs) k.are j) in let l : p < 0 + A.states = (In-up_from p 0 A.states m.0).1 in (omega arith, kept_useful p m.1)),
            (λ h. let l : p < A.states = h.0 in subst (λ xs. In p xs) (sym k.are) (In-filter keep p (below A.states) (up_from-In p 0 A.states (omega arith) (omega arith)) (useful_kept p h.1))),
          );
          order = subst (λ xs. IsIncreasing xs) (sym k.are) (kept_increasing keep 0 A.states);
          few = subst (λ xs. length xs ≤ A.states) (sym k.are) (length_kept keep 0 A.states);
          count = k.count;
          place = k.place;
        }

-- the automaton of the useful states is the trim
pub trimmed : {V : Type 0} (R : WeightSet V) (A T : Automaton V) (kept : List ℕ) (places : List (Option ℕ)) → AreUseful R A kept places → T.initial ≡ map (λ q. get_or A.initial q R.zero) kept → T.final ≡ map (λ q. get_or A.final q R.zero) kept → T.states ≡ length kept
    → T.transitions ≡ map (placed kept) (filter (is_between kept) A.transitions) → IsTrim R A T kept
trimmed R A T kept places u i e n t =
    record {
      useful = u.useful;
      order = u.order;
      states = n;
      initial = λ j l. ap (λ ws. get_or ws j R.zero) i ∙ get_or-map (λ q. get_or A.initial q R.zero) kept j 0 R.zero l;
      final = λ j l. ap (λ ws. get_or ws j R.zero) e ∙ get_or-map (λ q. get_or A.final q R.zero) kept j 0 R.zero l;
      transitions = t;
    }

-- the trimmed parts are those of an automaton
pub parts_labelled : {V : Type 0} (R : WeightSet V) (sets : List TapeSet) (A : Automaton V) → IsLabelled R (record { sets = sets; automaton = A }) → (kept : List ℕ) → IsIncreasing kept → ((p : ℕ) → In p kept → p < A.states) → length kept ≤ A.states
    → (T : Automaton V) → T.initial ≡ map (λ q. get_or A.initial q R.zero) kept → T.final ≡ map (λ q. get_or A.final q R.zero) kept → T.states ≡ length kept → T.transitions ≡ map (placed kept) (filter (is_between kept) A.transitions)
    → IsLabelled R (record { sets = sets; automaton = T })
parts_labelled {V} R sets A L kept up inside few T i f n t =
    record {
      drawn = record {
        initial = ap length i ∙ length-map kept (λ q. get_or A.initial q R.zero) ∙ sym n;
        final = ap length f ∙ length-map kept (λ q. get_or A.final q R.zero) ∙ sym n;
        initial_in = subst (λ ws. InRange R ws) (sym i) (All-map (λ w. IsTrue (R.in_range w)) (λ q. get_or A.initial q R.zero) kept (all_of (λ q. IsTrue (R.in_range (get_or A.initial q R.zero))) kept (λ q j.
            of_member (λ w. IsTrue (R.in_range w)) (get_or A.initial q R.zero) A.initial L.drawn.initial_in (In-read A.initial q R.zero (subst (λ k. q < k) (sym L.drawn.initial) (inside q j))))));
        final_in = subst (λ ws. InRange R ws) (sym f) (All-map (λ w. IsTrue (R.in_range w)) (λ q. get_or A.final q R.zero) kept (all_of (λ q. IsTrue (R.in_range (get_or A.final q R.zero))) kept (λ q j.
            of_member (λ w. IsTrue (R.in_range w)) (get_or A.final q R.zero) A.final L.drawn.final_in (In-read A.final q R.zero (subst (λ k. q < k) (sym L.drawn.final) (inside q j))))));
        moves = subst (λ ts. All (IsMove R sets T.states) ts) (sym t) (subst (λ k. All (IsMove R sets k) (map (placed kept) (filter (is_between kept) A.transitions))) (sym n)
            (All-map (IsMove R sets (length kept)) (placed kept) (filter (is_between kept) A.transitions) (all_of (λ u. IsMove R sets (length kept) (placed kept u)) (filter (is_between kept) A.transitions) (λ u j.
            let m = In-filter_from (is_between kept) u A.transitions j in
            let b = ends u m.1 in
            let o : IsMove R sets A.states u = of_member (IsMove R sets A.states) u A.transitions L.drawn.moves m.0 in
            record { from = place_inside u.from kept b.0; to = place_inside u.to kept b.1; label = o.label; weight = o.weight }))));
        order = subst (λ ts. AreInOrder ts) (sym t) (sorted_map triple_order (placed kept) (filter (is_between kept) A.transitions) (λ u v j k e.
            let a = ends u (In-filter_from (is_between kept) u A.transitions j).1 in
            let b = ends v (In-filter_from (is_between kept) v A.transitions k).1 in
            ap₂ (λ x y. ordering_then (ordering_then x (word_order u.label v.label)) y) (place_order u.from v.from kept up a.0 b.0) (place_order u.to v.to kept up a.1 b.1) ∙ e)
            (IsStrictlySortedBy-filter triple_order (is_between kept) A.transitions L.drawn.order));
      };
      states = let l : A.states < 2 ^ 32 = L.states in omega (arith, n);
      few = let l : A.states ≤ 1000000 = L.few in omega (arith, n);
      few_transitions = subst (λ (ts : List (Transition V)). length ts ≤ 4000000) (sym t)
          (let l : length A.transitions ≤ 4000000 = L.few_transitions in
          let m : length (filter (is_between kept) A.transitions) ≤ length A.transitions = omega (arith, length-filter_both (is_between kept) (λ u. not (is_between kept u)) (λ u. refl) A.transitions) in
          omega (arith, length-map (filter (is_between kept) A.transitions) (placed kept)));
      weight = subst (λ ts. All (λ (u : Transition V). u.weight ≢ R.zero) ts) (sym t) (All-map (λ (u : Transition V). u.weight ≢ R.zero) (placed kept) (filter (is_between kept) A.transitions) (all_of (λ (u : Transition V). u.weight ≢ R.zero) (filter (is_between kept) A.transitions) (λ u j.
          of_member (λ (u : Transition V). u.weight ≢ R.zero) u A.transitions L.weight (In-filter_from (is_between kept) u A.transitions j).0)));
    }
  where
    ends : (u : Transition V) → is_between kept u ≡ true → In u.from kept × In u.to kept
    ends u h = let p = and_parts (is_among same_number u.from kept) (is_among same_number u.to kept) h in (among_In u.from kept p.0, among_In u.to kept p.1)
