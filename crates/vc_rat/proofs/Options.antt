-- What a pair that a test lets through came from.
use Rattle.std.proofs.Common.{◌≡◌, ℕ, ℤ, Bool, true, false, cond, Option, Some, None, refl, sym, ap}

pub pair-some : (b : Bool) (t t' : ℤ) (n n' : ℕ) → ◌≡◌ {A = Option (ℤ × ℕ)} (cond b (Some (t', n')) None) (Some (t, n)) → (b ≡ true) × (t ≡ t') × (n ≡ n')
pair-some true t t' n n' h = let e : ◌≡◌ {A = ℤ × ℕ} (t', n') (t, n) = cc in (refl, sym (ap (λ (p : ℤ × ℕ). p.0) e), sym (ap (λ (p : ℤ × ℕ). p.1) e))
pair-some false t t' n n' h = absurd (cc)

pub pair-none : (b : Bool) (t' : ℤ) (n' : ℕ) → ◌≡◌ {A = Option (ℤ × ℕ)} (cond b (Some (t', n')) None) None → b ≡ false
pair-none true t' n' h = absurd (cc)
pair-none false t' n' h = refl

pub kept : {X : Type 0} (b : Bool) (v w : X) → b ≡ true → w ≡ v → Some w ≡ cond b (Some v) None
kept b v w h e = rw h (ap Some e)

pub refused : {X : Type 0} (b : Bool) (v : X) → b ≡ false → None ≡ cond b (Some v) None
refused b v h = rw h refl
