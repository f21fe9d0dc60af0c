-- What is among members that were found.
use Rattle.std.proofs.Common.{List, [], ◌∷◌, ◌++◌, Bool, true, false, cond, ◌⊎◌, inl, inr}
use Rattle.vc_model.specs.Lists.{In}
use Rattle.vc_model.specs.Members.{In-append_cases}
use Rattle.vc_model.specs.Numbering.{is_among, with_new}

-- what is found is a member or among the new ones
pub with_new-among : {K : Type 0} (same : K → K → Bool) (ks more : List K) (k : K) → In k (with_new same ks more) → In k ks ⊎ In k more
with_new-among same ks [] k i = inl i
with_new-among {K} same ks (x ∷ more) k i = elim (with_new-among same (cond (is_among same x ks) ks (ks ++ x ∷ [])) more k i) [ inl j ↦ one (is_among same x ks) j | inr j ↦ inr (inr j) ]
  where
    one : (b : Bool) → In k (cond b ks (ks ++ x ∷ [])) → In k ks ⊎ In k (x ∷ more)
    one true j = inl j
    one false j = elim (In-append_cases k ks (x ∷ []) j) [ inl m ↦ inl m | inr m ↦ elim m [ inl e ↦ inr (inl e) | inr a ↦ absurd a ] ]
