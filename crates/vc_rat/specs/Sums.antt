-- Sums by the greatest common divisor of the bottoms.
use Rattle.std.specs.Prelude.{◌≡◌, ℕ, ◌<◌, ◌*◌, ◌/◌, ℤ, pos, ◌+ℤ◌, ◌*ℤ◌}
use Rattle.std.proofs.Common.{sym, subst, refl}
use Rattle.std.specs.Int.{IsGcd, ◌∣◌}
use native.Mathlib.Nat.{div-mul_cancel}
use Rattle.vc_num.specs.Divisors.{gcd_of}
use Rattle.vc_num.specs.Divisibility.{gcd_of-is}
use Rattle.vc_model.specs.WeightSet.{WeightSet, SemiringLaws}
use Rattle.vc_model.specs.Rearranged.{semiring}
use Rattle.vc_rat.specs.Reduced.{positive-mul, positive-div}
use Rattle.vc_rat.specs.Rationals.{plus, denominator, positive}
use Rattle.vc_rat.specs.Stands.{Stands, stands-plus, stands-same}
use Rattle.vc_rat.specs.Whole.{whole, whole_laws}
use Rattle.vc_rat.specs.declared.fraction.Fraction.{Fraction}

module _ {V : Type 0} {R : WeightSet V} (L : SemiringLaws R) where
  part-poly : (x y b d g : V) → R.times (R.plus (R.times x d) (R.times y b)) (R.times (R.times b g) (R.times d g)) ≡ R.times (R.plus (R.times x (R.times d g)) (R.times y (R.times b g))) (R.times b (R.times d g))
  part-poly x y b d g = simp (semiring, L)

parts-same : (x y : ℤ) (b d g : ℕ) → g ∣ b → g ∣ d → (x *ℤ pos (d / g) +ℤ y *ℤ pos (b / g)) *ℤ pos (b * d) ≡ (x *ℤ pos d +ℤ y *ℤ pos b) *ℤ pos ((b / g) * d)
unfolding whole
parts-same x y b d g p q =
    let at_parts = part-poly whole_laws x y (pos (b / g)) (pos (d / g)) (pos g) in
    let at_bottom = subst (λ (k : ℕ). (x *ℤ pos (d / g) +ℤ y *ℤ pos (b / g)) *ℤ pos (k * ((d / g) * g)) ≡ (x *ℤ pos ((d / g) * g) +ℤ y *ℤ pos k) *ℤ pos ((b / g) * ((d / g) * g))) (div-mul_cancel g p) at_parts in
    subst (λ (k : ℕ). (x *ℤ pos (d / g) +ℤ y *ℤ pos (b / g)) *ℤ pos (b * k) ≡ (x *ℤ pos k +ℤ y *ℤ pos b) *ℤ pos ((b / g) * k)) (div-mul_cancel g q) at_bottom

pub part-positive : (b d g : ℕ) → 0 < b → 0 < d → g ≡ gcd_of b d → 0 < (b / g) * d
part-positive b d g p q e = rw e (positive-mul (b / gcd_of b d) d (positive-div b (gcd_of b d) p (gcd_of-is b d).0) q)

-- what stands for the sum by the parts is the sum
pub sum-same : (l r s : Fraction) (g : ℕ) → g ≡ gcd_of (denominator l) (denominator r) → Stands s (l.top *ℤ pos (denominator r / g) +ℤ r.top *ℤ pos (denominator l / g)) ((denominator l / g) * denominator r) → s ≡ plus l r
sum-same l r s g e h =
    let b = denominator l in
    let d = denominator r in
    let is : IsGcd b d g = subst (λ k. IsGcd b d k) (sym e) (gcd_of-is b d) in
    stands-same s (plus l r) (l.top *ℤ pos (d / g) +ℤ r.top *ℤ pos (b / g)) (l.top *ℤ pos d +ℤ r.top *ℤ pos b) ((b / g) * d) (b * d) (part-positive b d g (positive l) (positive r) e) (positive-mul b d (positive l) (positive r)) h (stands-plus l r l.top r.top b d refl refl) (parts-same l.top r.top b d g is.0 is.1)
