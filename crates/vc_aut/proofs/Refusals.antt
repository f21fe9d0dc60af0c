-- When a transition is refused.
use Rattle.std.proofs.Common.{◌≡◌, refl, ℕ, ◌<◌, ◌≤◌, Bool, true, false, None, Some, Ok, Err, Option, arith, cond}
use Rattle.std.specs.Prelude.{nat_lt, Result}
use Rattle.std.proofs.lemmas.Grind.{common_steps}
use Rattle.vc_model.specs.WeightSet.{WeightSet}
use Rattle.vc_ring.specs.Steps.{added}
use Rattle.vc_ring.specs.declared.faults.Overflow.{Overflow}
use Rattle.vc_ring.specs.declared.faults.Overflow.TheVariants.{Add}
use Rattle.vc_ring.specs.declared.faults.MakeFault.TheVariants.{Overflow as Unfit, Limit as PastLimit}
use Rattle.vc_ring.specs.declared.faults.Measure.TheVariants.{Transitions}
use Rattle.vc_aut.specs.Refusals.{weight_refusal}

module _ {V : Type 0} (R : WeightSet V) where
  by_fit : {W : Type 0} (b : Bool) (v w : W) (o p : Overflow V) → ◌≡◌ {A = Result W (Overflow V)} (Ok v) (cond b (Ok w) (Err p)) → (v ≡ w) × (b ≡ true)
  by_fit true v w o p h = (cc, refl)
  by_fit false v w o p h = cc

  by_misfit : {W : Type 0} (b : Bool) (w : W) (o p : Overflow V) → ◌≡◌ {A = Result W (Overflow V)} (Err o) (cond b (Ok w) (Err p)) → (o ≡ p) × (b ≡ false)
  by_misfit true w o p h = cc
  by_misfit false w o p h = (cc, refl)

  -- a sum that was answered is the sum, and fits
  pub added_ok : (a b v : V) → Ok v ≡ added R a b → (v ≡ R.plus a b) × (R.fits_plus a b ≡ true)
  added_ok a b v h = by_fit (R.fits_plus a b) v (R.plus a b) (Add a b) (Add a b) h

  -- a step that was refused is the addition, and does not fit
  pub added_err : (a b : V) (o : Overflow V) → Err o ≡ added R a b → (o ≡ Add a b) × (R.fits_plus a b ≡ false)
  added_err a b o h = by_misfit (R.fits_plus a b) (R.plus a b) o (Add a b) h

  pub fits_onto_old : (n : ℕ) (w v s : V) (o : Option V) → o ≡ Some v → Ok s ≡ added R v w → weight_refusal R n w o ≡ None
  fits_onto_old n w v s o h k = rw (h, (added_ok v w s k).1) refl

  pub too_large : (n : ℕ) (w v : V) (f : Overflow V) (o : Option V) → o ≡ Some v → Err f ≡ added R v w → weight_refusal R n w o ≡ Some (Unfit f)
  too_large n w v f o h k = rw (h, (added_err v w f k).1, (added_err v w f k).0) refl

  pub too_many : (n m : ℕ) (w : V) (o : Option V) → o ≡ None → n ≡ m → 4000000 ≤ m → weight_refusal R n w o ≡ Some (PastLimit (record { what = Transitions; most = 4000000 }))
  too_many n m w o h e k = let f : nat_lt n 4000000 ≡ false = grind (arith, common_steps) in rw (h, f) refl

  pub room_for_new : (n m : ℕ) (w : V) (o : Option V) → o ≡ None → n ≡ m → m < 4000000 → weight_refusal R n w o ≡ None
  room_for_new n m w o h e k = let f : nat_lt n 4000000 ≡ true = grind (arith, common_steps) in rw (h, f) refl
