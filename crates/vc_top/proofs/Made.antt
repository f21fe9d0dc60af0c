-- What an operation answers that may be refused for causes of its own, and what comes after for what it makes.
use Rattle.std.proofs.Common.{◌≡◌, Result, Ok, Err, refl, sym, subst, inl, inr}
use Rattle.vc_top.specs.Outcomes.{ForSuch, Gives, MayRefuse, Outcome, OrMemory, Unless}
use Rattle.vc_top.specs.Reasons.{Reason, no_memory}

abbrev given : {X : Type 0} → X → Result X Reason
given x = Ok x

same_given : {X : Type 0} (x y : X) → given x ≡ given y → x ≡ y
same_given x y e = cc e

abbrev refused : {X : Type 0} → Reason → Result X Reason
refused r = Err r

same_reason : {X Y : Type 0} (r s : Reason) → refused {X = X} r ≡ refused s → refused {X = Y} r ≡ refused s
same_reason r s e = cc e

no_given : {X : Type 0} (x : X) (r : Reason) → given x ≡ refused r → ⊥
no_given x r e = cc e

module _ {X : Type 0} (cause : Type 0) (reason : Reason) (IsCause : Reason → Type 0) (IsMade : X → Type 0) where
  -- the refusal where the cause stands, then one of these, or what comes after for what is made
  abbrev pub Making : {Y : Type 0} → (X → Outcome Y) → Outcome Y
  Making rest = Unless cause reason (MayRefuse IsCause (ForSuch IsMade rest))

  pub is_made : (x : X) → ¬ cause → IsMade x → OrMemory (Making Gives) (Ok x)
  is_made x n m = inr (inr (n, inr (x, m, refl)))

  pub is_caused : {Y : Type 0} (rest : X → Outcome Y) → cause → OrMemory (Making rest) (Err reason)
  is_caused rest c = inr (inl (c, refl))

  pub is_not_made : {Y : Type 0} (rest : X → Outcome Y) (r : Reason) → ¬ cause → IsCause r → OrMemory (Making rest) (Err r)
  is_not_made rest r n c = inr (inr (n, inl (r, c, refl)))

  -- a part of what was made is known, and what comes after for the whole
  pub part_given : {Y Z : Type 0} (view : X → Z) (rest : X → Outcome Y) (v : Z) (b : Result Y Reason) → OrMemory (Making (λ x. Gives (view x))) (Ok v)
      → ((x : X) → IsMade x → view x ≡ v → OrMemory (rest x) b) → OrMemory (Making rest) b
  part_given view rest v b (inl e) f = absurd (no_given v no_memory e)
  part_given view rest v b (inr (inl p)) f = absurd (no_given v reason p.1)
  part_given view rest v b (inr (inr (n, inl p))) f = absurd (no_given v p.0 p.2)
  part_given {Y} view rest v b (inr (inr (n, inr (x, m, e)))) f = go (f x m (sym (same_given v (view x) e)))
    where
      go : OrMemory (rest x) b → OrMemory (Making rest) b
      go (inl e) = inl e
      go (inr q) = inr (inr (n, inr (x, m, q)))

  -- the refusal of what was not made
  pub part_refused : {Y Z : Type 0} (view : X → Z) (rest : X → Outcome Y) (r : Reason) → OrMemory (Making (λ x. Gives (view x))) (Err r) → OrMemory (Making rest) (Err r)
  part_refused {Y} {Z} view rest r (inl e) = inl (same_reason {X = Z} {Y = Y} r no_memory e)
  part_refused {Y} {Z} view rest r (inr (inl p)) = inr (inl (p.0, same_reason {X = Z} {Y = Y} r reason p.1))
  part_refused {Y} {Z} view rest r (inr (inr (n, inl p))) = inr (inr (n, inl (p.0, p.1, same_reason {X = Z} {Y = Y} r p.0 p.2)))
  part_refused view rest r (inr (inr (n, inr (x, m, e)))) = absurd (no_given (view x) r (sym e))

  abbrev whole : X → X
  whole x = x

  -- what comes after for what was made
  pub made_given : {Y : Type 0} (rest : X → Outcome Y) (x : X) (b : Result Y Reason) → OrMemory (Making Gives) (Ok x) → (IsMade x → OrMemory (rest x) b) → OrMemory (Making rest) b
  made_given rest x b h f = part_given whole rest x b h (λ y m e. subst (λ z. OrMemory (rest z) b) (sym e) (f (subst IsMade e m)))

  pub made_refused : {Y : Type 0} (rest : X → Outcome Y) (r : Reason) → OrMemory (Making Gives) (Err r) → OrMemory (Making rest) (Err r)
  made_refused rest r h = part_refused whole rest r h
