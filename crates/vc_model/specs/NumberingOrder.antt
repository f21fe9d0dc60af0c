-- In which order members are numbered: first members before all, and others by the first member that leads to them.
use Rattle.std.proofs.Common.{◌≡◌, ℕ, List, [], ◌∷◌, ◌++◌, Bool, true, false, cond, refl, sym, ap, ◌∙◌, inl, inr, ◌⊎◌, subst, zero, suc, ◌<◌, ◌≤◌, ◌+◌, ◌-◌, arith, length, get_or, append_assoc, length-append}
use Rattle.std.proofs.lemmas.Bool.{false≢true, cases_lt}
use Rattle.std.proofs.lemmas.List.{append-nil}
use Rattle.vc_model.specs.Lists.{In}
use Rattle.vc_model.specs.Members.{In-append_left, In-append_right}
use Rattle.vc_model.specs.Machines.{place_in}
use Rattle.vc_model.specs.Numbering.{is_among, with_new, found_from, numbered, IsNumbering, IsAccessible, Starts, Follows, IsParent}
use Rattle.vc_model.specs.NumberingLaws.{Longer, Longer-In, get_or-append, is_among-In, In-is_among, with_new-has, with_new-only, found_from-has, found_from-past, numbered-longer, numbered-whole, numbered-kept, numbered-closed}

-- a place in the second of two lists
get_or-second : {X : Type 0} (xs ys : List X) (i : ℕ) (d : X) → length xs ≤ i → get_or (xs ++ ys) i d ≡ get_or ys (i - length xs) d
get_or-second [] ys i d h = ap (λ n. get_or ys n d) (omega arith)
get_or-second (x ∷ xs) ys zero d h = absurd (omega arith)
get_or-second (x ∷ xs) ys (suc i) d h = get_or-second xs ys i d (omega arith) ∙ ap (λ n. get_or ys n d) (omega arith)

get_or-In : {X : Type 0} (xs : List X) (i : ℕ) (d : X) → i < length xs → In (get_or xs i d) xs
get_or-In [] i d h = absurd (omega arith)
get_or-In (x ∷ xs) zero d h = inl refl
get_or-In (x ∷ xs) (suc i) d h = inr (get_or-In xs i d (omega arith))

longer-get : {X : Type 0} (xs ys : List X) (i : ℕ) (d : X) → Longer xs ys → i < length xs → get_or ys i d ≡ get_or xs i d
longer-get xs ys i d p h = ap (λ zs. get_or zs i d) p.is ∙ get_or-append xs p.more i d h

longer-length : {X : Type 0} (xs ys : List X) → Longer xs ys → length xs ≤ length ys
longer-length xs ys p = let e : length ys ≡ length xs + length p.more = ap length p.is ∙ length-append xs p.more in omega arith

module _ {X : Type 0} (same : X → X → Bool) (tells : (a b : X) → same a b ≡ true → a ≡ b) (self : (a : X) → same a a ≡ true) where
  -- what with_new adds: members of ys that are not in xs, in the order in which ys has them first
  record Added (xs ys zs : List X) : Type 0 where
    more : List X
    is : zs ≡ xs ++ more
    only : (y : X) → In y more → In y ys × (¬ In y xs)
    order : (a b : ℕ) (d : X) → a < b → b < length more → place_in same (get_or more a d) ys < place_in same (get_or more b d) ys

  place-here : (y : X) (ys : List X) → place_in same y (y ∷ ys) ≡ 0
  place-here y ys = ap (λ b. cond b 0 (suc (place_in same y ys))) (self y)

  place-later : (y z : X) (ys : List X) → (y ≡ z → ⊥) → place_in same z (y ∷ ys) ≡ suc (place_in same z ys)
  place-later y z ys n = go (same y z) refl
    where
      go : (b : Bool) → same y z ≡ b → cond b 0 (suc (place_in same z ys)) ≡ suc (place_in same z ys)
      go true e = absurd (n (tells y z e))
      go false e = refl

  module _ (xs ys : List X) (y : X) where
    later-order : (more : List X) → ((z : X) → In z more → y ≡ z → ⊥) → ((a b : ℕ) (d : X) → a < b → b < length more → place_in same (get_or more a d) ys < place_in same (get_or more b d) ys)
        → (a b : ℕ) (d : X) → a < b → b < length more → place_in same (get_or more a d) (y ∷ ys) < place_in same (get_or more b d) (y ∷ ys)
    later-order more apart order a b d l h =
        let p = place-later y (get_or more a d) ys (apart _ (get_or-In more a d (omega (arith, l, h)))) in
        let q = place-later y (get_or more b d) ys (apart _ (get_or-In more b d h)) in
        let o = order a b d l h in
        omega (arith, p, q, o)

    first-order : (more : List X) → ((z : X) → In z more → y ≡ z → ⊥) → ((a b : ℕ) (d : X) → a < b → b < length more → place_in same (get_or more a d) ys < place_in same (get_or more b d) ys)
        → (a b : ℕ) (d : X) → a < b → b < suc (length more) → place_in same (get_or (y ∷ more) a d) (y ∷ ys) < place_in same (get_or (y ∷ more) b d) (y ∷ ys)
    first-order more apart order a zero d l h = absurd (omega (arith, l))
    first-order more apart order zero (suc b) d l h =
        let p = place-here y ys in
        let q = place-later y (get_or more b d) ys (apart _ (get_or-In more b d (omega (arith, h)))) in
        omega (arith, p, q)
    first-order more apart order (suc a) (suc b) d l h = later-order more apart order a b d (omega (arith, l)) (omega (arith, h))

    added-one : (b : Bool) → is_among same y xs ≡ b → Added xs ys (with_new same xs ys) → Added (xs ++ y ∷ []) ys (with_new same (xs ++ y ∷ []) ys) → Added xs (y ∷ ys) (with_new same (cond b xs (xs ++ y ∷ [])) ys)
    added-one true e r s =
        let here : In y xs = is_among-In same tells self y xs e in
        record {
          more = r.more;
          is = r.is;
          only = λ z i. (inr (r.only z i).0, (r.only z i).1);
          order = later-order r.more (λ z i q. (r.only z i).1 (subst (λ v. In v xs) q here)) r.order;
        }
    added-one false e r s = record {
      more = y ∷ s.more;
      is = s.is ∙ append_assoc xs (y ∷ []) s.more;
      only = λ z i. elim i [
        | inl q ↦ (inl q, λ j. false≢true (sym e ∙ In-is_among same tells self y xs (subst (λ v. In v xs) q j)))
        | inr j ↦ (inr (s.only z j).0, λ k. (s.only z j).1 (In-append_left z xs (y ∷ []) k))
      ];
      order = first-order s.more (λ z i q. (s.only z i).1 (In-append_right z xs (y ∷ []) (inl (sym q)))) s.order;
    }

  added : (xs ys : List X) → Added xs ys (with_new same xs ys)
  added xs [] = record { more = []; is = sym (append-nil xs); only = λ y i. absurd i; order = λ a b d l h. absurd (omega (arith, h)) }
  added xs (y ∷ ys) = added-one xs ys y (is_among same y xs) refl (added xs ys) (added (xs ++ y ∷ []) ys)

  found_at : (next : X → List X) (k : ℕ) (all xs : List X) (d : X) → k < length xs → found_from same next k all xs ≡ with_new same all (next (get_or xs k d))
  found_at next k all [] d h = absurd (omega arith)
  found_at next zero all (x ∷ xs) d h = refl
  found_at next (suc k) all (x ∷ xs) d h = found_at next k all xs d (omega arith)

  -- a shorter front is continued by a longer one
  pub continued : (next : X → List X) (first : List X) (k m : ℕ) → k ≤ m → Longer (numbered same next first k) (numbered same next first m)
  continued next first k m h =
      let e : (m - k) + k ≡ m = omega (arith, h) in
      subst (λ n. Longer (numbered same next first k) (numbered same next first n)) e (numbered-longer same tells self next first k (m - k))

  module _ (next : X → List X) (first : List X) (d : X) where
    abbrev N : ℕ → List X
    N k = numbered same next first k

    front : (k m : ℕ) → k ≤ m → Longer (N k) (N m)
    front = continued next first

    front-length : (k m : ℕ) → k ≤ m → length (N k) ≤ length (N m)
    front-length k m h = longer-length (N k) (N m) (front k m h)

    has_first : (k : ℕ) (y : X) → In y first → In y (N k)
    has_first k y i = Longer-In (N 0) (N k) y (front 0 k (omega arith)) (with_new-has same tells self [] first y i)

    -- what a member that was followed leads to is found
    has_led : (k q : ℕ) (y : X) → q < k → q < length (N k) → In y (next (get_or (N k) q d)) → In y (N k)
    has_led k q y l h i = elim (cases_lt q (length (N q))) [
      | inl s ↦
          let here : get_or (N k) q d ≡ get_or (N q) q d = longer-get (N q) (N k) q d (front q k (omega (arith, l))) s in
          Longer-In (N (suc q)) (N k) y (front (suc q) k (omega (arith, l))) (found_from-has same tells self next q (N q) (N q) d y s (subst (λ z. In y (next z)) here i))
      | inr s ↦
          let e : (k - q) + q ≡ k = omega (arith, l) in
          let w : length (N k) ≡ length (N q) = ap (λ n. length (N n)) (sym e) ∙ ap length (numbered-whole same tells self next first q (k - q) s) in
          absurd (omega (arith, w, s, h))
    ]

    step : (k : ℕ) → k < length (N k) → Added (N k) (next (get_or (N k) k d)) (N (suc k))
    step k h = subst (Added (N k) (next (get_or (N k) k d))) (sym (found_at next k (N k) (N k) d h)) (added (N k) (next (get_or (N k) k d)))

    -- which step found the member at a place
    origin : (m i : ℕ) → i < length (N m) → (i < length (N 0)) ⊎ ((k : ℕ) × (k < m) × (length (N k) ≤ i) × (i < length (N (suc k))))
    origin zero i h = inl h
    origin (suc m) i h = elim (cases_lt i (length (N m))) [ inl l ↦ wider (origin m i l) | inr l ↦ inr (m, omega arith, l, h) ]
      where
        wider : (i < length (N 0)) ⊎ ((k : ℕ) × (k < m) × (length (N k) ≤ i) × (i < length (N (suc k)))) → (i < length (N 0)) ⊎ ((k : ℕ) × (k < suc m) × (length (N k) ≤ i) × (i < length (N (suc k))))
        wider (inl l) = inl l
        wider (inr r) = inr (r.0, omega (arith, r.1), r.2, r.3)

    grows : (k i : ℕ) → length (N k) ≤ i → i < length (N (suc k)) → k < length (N k)
    grows k i l h = elim (cases_lt k (length (N k))) [
      | inl s ↦ s
      | inr s ↦ let e : length (N (suc k)) ≡ length (N k) = ap length (found_from-past same tells self next k (N k) (N k) s) in absurd (omega (arith, e, l, h))
    ]

    -- where it stands among what that step added
    record Place (m k i : ℕ) (A : Added (N k) (next (get_or (N k) k d)) (N (suc k))) : Type 0 where
      inside : i - length (N k) < length A.more
      is : get_or (N m) i d ≡ get_or A.more (i - length (N k)) d

    place : (m k i : ℕ) (A : Added (N k) (next (get_or (N k) k d)) (N (suc k))) → k < m → length (N k) ≤ i → i < length (N (suc k)) → Place m k i A
    place m k i A b l h =
        let c : length (N (suc k)) ≡ length (N k) + length A.more = ap length A.is ∙ length-append (N k) A.more in record {
          inside = omega (arith, c, l, h);
          is = longer-get (N (suc k)) (N m) i d (front (suc k) m (omega (arith, b))) h ∙ ap (λ zs. get_or zs i d) A.is ∙ get_or-second (N k) A.more i d l;
        }

    -- what stood at a place stays there
    stays : (k m q : ℕ) → k ≤ m → q < length (N k) → get_or (N m) q d ≡ get_or (N k) q d
    stays k m q b h = longer-get (N k) (N m) q d (front k m b) h

    parent_at : (m i k : ℕ) → k < m → length (N k) ≤ i → i < length (N (suc k)) → IsParent next first (N m) d k (get_or (N m) i d)
    parent_at m i k b l h = record {
      inside = let c = front-length k m (omega (arith, b)) in omega (arith, s, c);
      not_first = λ g. o.1 (has_first k y (subst (λ v. In v first) p.is g));
      leads = subst (λ v. In v (next (get_or (N m) k d))) (sym p.is) (subst (λ z. In y (next z)) (sym (stays k m k (omega (arith, b)) s)) o.0);
      least = λ q e g.
          let r : q < length (N k) = omega (arith, e, s) in
          o.1 (has_led k q y e r (subst (λ z. In y (next z)) (stays k m q (omega (arith, b)) r) (subst (λ v. In v (next (get_or (N m) q d))) p.is g)));
    }
      where
        s : k < length (N k)
        s = grows k i l h

        A : Added (N k) (next (get_or (N k) k d)) (N (suc k))
        A = step k s

        p : Place m k i A
        p = place m k i A b l h

        y : X
        y = get_or A.more (i - length (N k)) d

        o : In y (next (get_or (N k) k d)) × (¬ In y (N k))
        o = A.only y (get_or-In A.more (i - length (N k)) d p.inside)

    one_parent : (members : List X) (p q : ℕ) (y : X) → IsParent next first members d p y → IsParent next first members d q y → p ≡ q
    one_parent members p q y P Q = elim (cases_lt p q) [
      | inl l ↦ absurd (Q.least p l P.leads)
      | inr l ↦ elim (cases_lt q p) [ inl k ↦ absurd (P.least q k Q.leads) | inr k ↦ omega (arith, l, k) ]
    ]

    begun : (m i : ℕ) → i < length (N 0) → In (get_or (N m) i d) first
    begun m i h = subst (λ v. In v first) (sym (stays 0 m i (omega arith) h)) (elim (with_new-only same tells self [] first _ (get_or-In (N 0) i d h)) [ inl j ↦ absurd j | inr j ↦ j ])

    pub parent-of : (m i : ℕ) → i < length (N m) → In (get_or (N m) i d) first ⊎ ((p : ℕ) × (p < i) × IsParent next first (N m) d p (get_or (N m) i d))
    parent-of m i h = elim (origin m i h) [
      | inl l ↦ inl (begun m i l)
      | inr r ↦ let s = grows r.0 i r.2 r.3 in inr (r.0, omega (arith, s, r.2), parent_at m i r.0 r.1 r.2 r.3)
    ]

    -- the step that found a member followed its parent
    found_by : (m i p : ℕ) → i < length (N m) → IsParent next first (N m) d p (get_or (N m) i d) → (p < m) × (length (N p) ≤ i) × (i < length (N (suc p)))
    found_by m i p h P = elim (origin m i h) [
      | inl l ↦ absurd (P.not_first (begun m i l))
      | inr r ↦
          let e : r.0 ≡ p = one_parent (N m) r.0 p (get_or (N m) i d) (parent_at m i r.0 r.1 r.2 r.3) P in
          subst (λ k. (k < m) × (length (N k) ≤ i) × (i < length (N (suc k)))) e (r.1, r.2, r.3)
    ]

    pub parents-order : (m i j p q : ℕ) → i < j → j < length (N m) → IsParent next first (N m) d p (get_or (N m) i d) → IsParent next first (N m) d q (get_or (N m) j d) → p ≤ q
    parents-order m i j p q l h P Q = elim (cases_lt q p) [
      | inl k ↦
          let a = found_by m i p (omega (arith, l, h)) P in
          let b = found_by m j q h Q in
          let c = front-length (suc q) p (omega (arith, k)) in
          absurd (omega (arith, a.1, b.2, c, l))
      | inr k ↦ k
    ]

    pub siblings-order : (m i j p : ℕ) → i < j → j < length (N m) → IsParent next first (N m) d p (get_or (N m) i d) → IsParent next first (N m) d p (get_or (N m) j d)
        → place_in same (get_or (N m) i d) (next (get_or (N m) p d)) < place_in same (get_or (N m) j d) (next (get_or (N m) p d))
    siblings-order m i j p l h P Q =
        let a = found_by m i p (omega (arith, l, h)) P in
        let b = found_by m j p h Q in
        let s = grows p i a.1 a.2 in
        let A = step p s in
        let u = place m p i A a.0 a.1 a.2 in
        let v = place m p j A b.0 b.1 b.2 in
        let o = A.order (i - length (N p)) (j - length (N p)) d (omega (arith, l, a.1)) v.inside in
        subst (λ x. place_in same x (next (get_or (N m) p d)) < place_in same (get_or (N m) j d) (next (get_or (N m) p d))) (sym u.is)
        (subst (λ y. place_in same (get_or A.more (i - length (N p)) d) (next (get_or (N m) p d)) < place_in same y (next (get_or (N m) p d))) (sym v.is)
        (subst (λ z. place_in same (get_or A.more (i - length (N p)) d) (next z) < place_in same (get_or A.more (j - length (N p)) d) (next z)) (sym (stays p m p (omega (arith, a.0)) s)) o))

    pub firsts-order : (m i j : ℕ) → i < j → j < length (N m) → In (get_or (N m) j d) first → In (get_or (N m) i d) first × (place_in same (get_or (N m) i d) first < place_in same (get_or (N m) j d) first)
    firsts-order m i j l h f = elim (origin m j h) [
      | inl k ↦
          let A = added [] first in
          let u : get_or (N m) i d ≡ get_or A.more i d = stays 0 m i (omega arith) (omega (arith, l, k)) ∙ ap (λ zs. get_or zs i d) A.is in
          let v : get_or (N m) j d ≡ get_or A.more j d = stays 0 m j (omega arith) k ∙ ap (λ zs. get_or zs j d) A.is in
          let c : length (N 0) ≡ length A.more = ap length A.is in (
            begun m i (omega (arith, l, k)),
            subst (λ x. place_in same x first < place_in same (get_or (N m) j d) first) (sym u)
                (subst (λ y. place_in same (get_or A.more i d) first < place_in same y first) (sym v) (A.order i j d l (omega (arith, k, c)))),
          )
      | inr r ↦ absurd ((parent_at m j r.0 r.1 r.2 r.3).not_first f)
    ]

  module _ (next : X → List X) (first : List X) where
    -- a numbering has what is accessible
    pub accessible-In : (members : List X) → IsNumbering same next first members → (x : X) → IsAccessible next first x → In x members
    accessible-In members I x (Starts _ i) = subst (λ xs. In x xs) I.are (has_first next first x I.followed x i)
    accessible-In members I x (Follows y _ a j) = numbered-closed same tells self next first members I y x (accessible-In members I y a) j

    -- and each front of it nothing else
    pub numbered-accessible : (k : ℕ) (x : X) → In x (numbered same next first k) → IsAccessible next first x
    numbered-accessible k x i = numbered-kept same tells self next first (IsAccessible next first) (λ y z a j. Follows y z a j) (λ y j. Starts y j) k x i
