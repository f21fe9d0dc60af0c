-- What a search finds, and numbers that stay.
use Rattle.std.proofs.Common.{◌≡◌, ℕ, List, [], ◌∷◌, ◌++◌, Bool, true, false, cond, ◌||◌, refl, sym, ap, ◌∙◌, subst, zero, suc, ◌<◌, ◌≤◌, ◌+◌, arith, length, length-append, get_or, Some, None, inl, inr}
use Rattle.std.specs.Prelude.{not, nat_lt, ◌&&◌, slice_get}
use Rattle.std.specs.List.{list_any}
use Rattle.std.proofs.lemmas.List.Folds.{list_any-append}
use Rattle.std.proofs.lemmas.Bool.{false≢true}
use Rattle.std.proofs.lemmas.Grind.{common_steps}
use Rattle.vc_model.specs.Lists.{In}
use Rattle.vc_model.specs.Numbering.{is_among, with_new}
use Rattle.vc_model.specs.NumberingLaws.{Longer, Longer-same, Longer-trans}
use Rattle.vc_search.specs.Found.{with_key, number_of, member_refusal}

at_most : (a b : ℕ) → nat_lt a b ≡ false → b ≤ a
at_most a b h = grind (arith, common_steps)

module _ {K : Type 0} (same : K → K → Bool) where
  pub any_among : (k : K) (ks : List K) → list_any (same k) ks ≡ is_among same k ks
  any_among k [] = refl
  any_among k (x ∷ ks) = ap (λ b. same k x || b) (any_among k ks)

  -- one member, and then the others
  pub with_key-new : (ks : List K) (k : K) (more : List K) → with_new same ks (k ∷ more) ≡ with_new same (with_key same ks k) more
  with_key-new ks k more = ap (λ b. with_new same (cond b ks (ks ++ k ∷ [])) more) (sym (any_among k ks))

  pub with_key-longer : (ks : List K) (k : K) → Longer ks (with_key same ks k)
  with_key-longer ks k = go (list_any (same k) ks)
    where
      go : (b : Bool) → Longer ks (cond b ks (ks ++ k ∷ []))
      go true = Longer-same ks
      go false = record { more = k ∷ []; is = refl }

  pub with_new-behind : (ks more : List K) → Longer ks (with_new same ks more)
  with_new-behind ks [] = Longer-same ks
  with_new-behind ks (k ∷ more) = subst (Longer ks) (sym (with_key-new ks k more)) (Longer-trans ks (with_key same ks k) (with_new same (with_key same ks k) more) (with_key-longer ks k) (with_new-behind (with_key same ks k) more))

  -- a member that is found keeps its number
  pub number-kept : (k : K) (ks more : List K) → list_any (same k) ks ≡ true → number_of same k (ks ++ more) ≡ number_of same k ks
  number-kept k [] more h = absurd (false≢true h)
  number-kept k (x ∷ ks) more h = go (same k x) h (number-kept k ks more)
    where
      go : (b : Bool) → (b || list_any (same k) ks) ≡ true → (list_any (same k) ks ≡ true → number_of same k (ks ++ more) ≡ number_of same k ks) → cond (not b) (1 + number_of same k (ks ++ more)) 0 ≡ cond (not b) (1 + number_of same k ks) 0
      go true h ih = refl
      go false h ih = ap (λ n. 1 + n) (ih h)

  -- a member that is not found has the number of how many there are
  pub number-new : (k : K) (ks : List K) → list_any (same k) ks ≡ false → number_of same k ks ≡ length ks
  number-new k [] h = refl
  number-new k (x ∷ ks) h = go (same k x) h (number-new k ks)
    where
      go : (b : Bool) → (b || list_any (same k) ks) ≡ false → (list_any (same k) ks ≡ false → number_of same k ks ≡ length ks) → cond (not b) (1 + number_of same k ks) 0 ≡ suc (length ks)
      go true h ih = absurd (false≢true (sym h))
      go false h ih = let e = ih h in omega arith

  -- a member that is found has a number below how many there are
  pub number-below : (k : K) (ks : List K) → list_any (same k) ks ≡ true → number_of same k ks < length ks
  number-below k [] h = absurd (false≢true h)
  number-below k (x ∷ ks) h = go (same k x) h (number-below k ks)
    where
      go : (b : Bool) → (b || list_any (same k) ks) ≡ true → (list_any (same k) ks ≡ true → number_of same k ks < length ks) → cond (not b) (1 + number_of same k ks) 0 < suc (length ks)
      go true h ih = omega arith
      go false h ih = let e = ih h in omega arith

  -- a member whose number is not how many there are is found already
  pub with_key-old : (k : K) (ks : List K) → (number_of same k ks ≡ length ks → ⊥) → with_key same ks k ≡ ks
  with_key-old k ks h = go (list_any (same k) ks) refl
    where
      go : (b : Bool) → list_any (same k) ks ≡ b → cond b ks (ks ++ k ∷ []) ≡ ks
      go true e = refl
      go false e = absurd (h (number-new k ks e))

  any-append : (k : K) (ks more : List K) → list_any (same k) ks ≡ true → list_any (same k) (ks ++ more) ≡ true
  any-append k ks more h = rw (list_any-append (same k) ks more, h) refl

  module _ (self : (k : K) → same k k ≡ true) where
    -- what is found at the end of the members
    last : (k : K) (ks : List K) → list_any (same k) ks ≡ false → (number_of same k (ks ++ k ∷ []) ≡ length ks) × (list_any (same k) (ks ++ k ∷ []) ≡ true)
    last k [] h = (rw (self k) refl, rw (self k) refl)
    last k (x ∷ ks) h = go (same k x) h (last k ks)
      where
        go : (b : Bool) → (b || list_any (same k) ks) ≡ false → (list_any (same k) ks ≡ false → (number_of same k (ks ++ k ∷ []) ≡ length ks) × (list_any (same k) (ks ++ k ∷ []) ≡ true)) → (cond (not b) (1 + number_of same k (ks ++ k ∷ [])) 0 ≡ suc (length ks)) × ((b || list_any (same k) (ks ++ k ∷ [])) ≡ true)
        go true h ih = absurd (false≢true (sym h))
        go false h ih = let e = ih h in (let n = e.0 in omega arith, e.1)

    -- the number that a member gets is its number
    found : (k : K) (ks : List K) → (number_of same k (with_key same ks k) ≡ number_of same k ks) × (list_any (same k) (with_key same ks k) ≡ true)
    found k ks = go (list_any (same k) ks) refl
      where
        go : (b : Bool) → list_any (same k) ks ≡ b → (number_of same k (cond b ks (ks ++ k ∷ [])) ≡ number_of same k ks) × (list_any (same k) (cond b ks (ks ++ k ∷ [])) ≡ true)
        go true e = (refl, e)
        go false e = let l = last k ks e in (l.0 ∙ sym (number-new k ks e), l.1)

    -- it keeps that number
    pub number-final : (k : K) (ks all : List K) → Longer (with_key same ks k) all → number_of same k all ≡ number_of same k ks
    number-final k ks all p = ap (number_of same k) p.is ∙ number-kept k (with_key same ks k) p.more (found k ks).1 ∙ (found k ks).0

    pub number-final_below : (k : K) (ks all : List K) → Longer (with_key same ks k) all → number_of same k all < length all
    number-final_below k ks all p = number-below k all (ap (list_any (same k)) p.is ∙ any-append k (with_key same ks k) p.more (found k ks).1)

  -- where a new member has no room, more members are found than there may be
  pub full : (most : ℕ) (k : K) (ks more : List K) → member_refusal same (record { most = most; members = ks }) k ≡ true → most < length (with_new same ks (k ∷ more))
  full most k ks more h = go (list_any (same k) ks) (nat_lt (length ks) most) refl refl h
    where
      go : (b c : Bool) → list_any (same k) ks ≡ b → nat_lt (length ks) most ≡ c → (not b && not c) ≡ true → most < length (with_new same ks (k ∷ more))
      go true c e f h = absurd (false≢true h)
      go false true e f h = absurd (false≢true h)
      go false false e f h =
          let w : with_key same ks k ≡ ks ++ k ∷ [] = ap (λ b. cond b ks (ks ++ k ∷ [])) e in
          let p = with_new-behind (with_key same ks k) more in
          let n = ap length p.is in
          let m : most ≤ length ks = at_most (length ks) most f in
          rw (with_key-new ks k more) (omega (arith, length-append (with_key same ks k) p.more, ap length w, length-append ks (k ∷ [])))

module _ {K : Type 0} (same : K → K → Bool) where
  pub with_new-append : (ks ms more : List K) → with_new same ks (ms ++ more) ≡ with_new same (with_new same ks ms) more
  with_new-append ks [] more = refl
  with_new-append ks (m ∷ ms) more = with_new-append (cond (is_among same m ks) ks (ks ++ m ∷ [])) ms more

  -- one member alone
  pub with_key-alone : (ks : List K) (k : K) → with_key same ks k ≡ with_new same ks (k ∷ [])
  with_key-alone ks k = sym (with_key-new same ks k [])

-- what stands at a place is a member
pub place_found : {X : Type 0} (xs : List X) (i : ℕ) (x d : X) → slice_get xs i ≡ Some x → (i < length xs) × In x xs × (x ≡ get_or xs i d)
place_found [] i x d e = absurd (cc)
place_found (y ∷ xs) zero x d e = let q : x ≡ y = cc in (omega arith, inl q, q)
place_found (y ∷ xs) (suc i) x d e = let r = place_found xs i x d e in (omega (arith, r.0), inr r.1, r.2)

-- past the end stands nothing
pub place_none : {X : Type 0} (xs : List X) (i : ℕ) → slice_get xs i ≡ None → length xs ≤ i
place_none [] i e = omega arith
place_none (y ∷ xs) zero e = absurd (cc)
place_none (y ∷ xs) (suc i) e = let r = place_none xs i e in omega arith
