-- Which steps of rational numbers fit, and that what they make is in range.
use Rattle.std.specs.Prelude.{◌≡◌, ℕ, ◌<◌, ◌≤◌, ◌*◌, ◌/◌, ◌^◌, max, ℤ, pos, ◌+ℤ◌, ◌-ℤ◌, ◌*ℤ◌, unsigned_abs, nat_lt, IsTrue, Bool, ◌&&◌}
use Rattle.std.proofs.Common.{refl, sym, ap, ◌∙◌, arith, subst}
use Rattle.std.proofs.lemmas.Int.{ints}
use Rattle.std.proofs.Math.IntN.{*ℤ_comm, zero-*ℤ}
use native.Mathlib.Nat.{one-dvd, div-one, div-le_self}
use Rattle.vc_num.specs.Divisors.{gcd_of}
use Rattle.vc_num.specs.Range.{in_range}
use Rattle.vc_num.specs.Divisibility.{gcd_of-from}
use Rattle.vc_model.specs.WeightSet.{RangeLaws}
use Rattle.vc_rat.specs.Reduced.{positive-max, magnitude-div}
use Rattle.vc_rat.specs.Rationals.{reduced, plus, zero, one, star, holds, tops_fit, parts_fit, fits_plus, denominator, positive, rationals}
use Rattle.vc_rat.specs.Stands.{stands-reduced}
use Rattle.vc_rat.specs.Sums.{sum-same, part-positive}
use Rattle.vc_rat.specs.RationalLaws.{times-one, times-zero, times-comm}
use Rattle.vc_rat.specs.declared.fraction.Fraction.{Fraction}

pub and-both : (a b : Bool) → IsTrue a → IsTrue b → IsTrue (a && b)
and-both a b p q = rw (p, q) refl

pub and-first : (a b : Bool) → IsTrue (a && b) → IsTrue a
and-first a b h = grind arith

pub and-second : (a b : Bool) → IsTrue (a && b) → IsTrue b
and-second a b h = grind arith

smaller : (m n k : ℕ) → m ≤ n → IsTrue (nat_lt n k) → IsTrue (nat_lt m k)
smaller m n k le h = grind arith

-- a quotient is in range where the dividend is
pub quotient-in : (n g : ℕ) → IsTrue (in_range (pos n)) → IsTrue (in_range (pos (n / g)))
quotient-in n g h = smaller (n / g) n (2 ^ 127) (div-le_self n g) h

pub reduced-holds : (n : ℤ) (d : ℕ) (p : 0 < d) → IsTrue (in_range n) → IsTrue (in_range (pos d)) → IsTrue (holds (reduced n d p))
reduced-holds n d p h k =
    let g = gcd_of (unsigned_abs n) d in
    let top : IsTrue (nat_lt (unsigned_abs n / g) (2 ^ 127)) = smaller (unsigned_abs n / g) (unsigned_abs n) (2 ^ 127) (div-le_self (unsigned_abs n) g) h in
    and-both (in_range (reduced n d p).top) (in_range (pos (d / g))) (subst (λ m. IsTrue (nat_lt m (2 ^ 127))) (sym (magnitude-div n g)) top) (quotient-in d g k)

plus-in : (x y : Fraction) → IsTrue (fits_plus x y) → IsTrue (holds (plus x y))
plus-in x y f =
    let b = denominator x in
    let d = denominator y in
    let g = gcd_of b d in
    let n = x.top *ℤ pos (d / g) +ℤ y.top *ℤ pos (b / g) in
    let p = part-positive b d g (positive x) (positive y) refl in
    let tops = and-first (tops_fit x.top (d / g) y.top (b / g)) (in_range (pos (b / g * d))) f in
    let later = and-second (in_range (x.top *ℤ pos (d / g))) (in_range (y.top *ℤ pos (b / g)) && in_range n) tops in
    let made = reduced-holds n ((b / g) * d) p (and-second (in_range (y.top *ℤ pos (b / g))) (in_range n) later) (and-second (tops_fit x.top (d / g) y.top (b / g)) (in_range (pos (b / g * d))) f) in
    subst (λ s. IsTrue (holds s)) (sum-same x y (reduced n ((b / g) * d) p) g refl (stands-reduced n ((b / g) * d) p)) made

pub max-in : (m : ℕ) → IsTrue (nat_lt m (2 ^ 127)) → IsTrue (nat_lt (max 1 m) (2 ^ 127))
max-in m h = grind arith

star-in : (x : Fraction) → IsTrue (holds x) → IsTrue (in_range (x.bottom -ℤ x.top)) → IsTrue (holds (star x))
star-in x h f =
    let d = unsigned_abs (x.bottom -ℤ x.top) in
    reduced-holds x.bottom (max 1 d) (positive-max d) (and-second (in_range x.top) (in_range x.bottom) h) (max-in d f)

beside-zero : (t : ℤ) (b : ℕ) → IsTrue (in_range t) → IsTrue (in_range (pos b)) → IsTrue (parts_fit t b (pos 0) 1 1)
beside-zero t b h k =
    let first : t *ℤ pos 1 ≡ t = *ℤ_comm t (pos 1) ∙ omega (arith, ints) in
    let second : pos 0 *ℤ pos b ≡ pos 0 = zero-*ℤ (pos b) in
    let third : t *ℤ pos 1 +ℤ pos 0 *ℤ pos b ≡ t = ap (λ z. z +ℤ pos 0 *ℤ pos b) first ∙ ap (λ z. t +ℤ z) second ∙ omega (arith, ints) in
    let fourth : b * 1 ≡ b = omega arith in
    let in1 = subst (λ z. IsTrue (in_range z)) (sym first) h in
    let in2 = subst (λ z. IsTrue (in_range z)) (sym second) refl in
    let in3 = subst (λ z. IsTrue (in_range z)) (sym third) h in
    let in4 = subst (λ n. IsTrue (in_range (pos n))) (sym fourth) k in
    and-both (tops_fit t 1 (pos 0) b) (in_range (pos (b * 1))) (and-both (in_range (t *ℤ pos 1)) (in_range (pos 0 *ℤ pos b) && in_range (t *ℤ pos 1 +ℤ pos 0 *ℤ pos b)) in1 (and-both (in_range (pos 0 *ℤ pos b)) (in_range (t *ℤ pos 1 +ℤ pos 0 *ℤ pos b)) in2 in3)) in4

behind-zero : (t : ℤ) (b : ℕ) → IsTrue (in_range t) → IsTrue (in_range (pos b)) → IsTrue (parts_fit (pos 0) 1 t b b)
behind-zero t b h k =
    let first : pos 0 *ℤ pos b ≡ pos 0 = zero-*ℤ (pos b) in
    let second : t *ℤ pos 1 ≡ t = *ℤ_comm t (pos 1) ∙ omega (arith, ints) in
    let third : pos 0 *ℤ pos b +ℤ t *ℤ pos 1 ≡ t = ap (λ z. z +ℤ t *ℤ pos 1) first ∙ ap (λ z. pos 0 +ℤ z) second ∙ omega (arith, ints) in
    let fourth : 1 * b ≡ b = omega arith in
    let in1 = subst (λ z. IsTrue (in_range z)) (sym first) refl in
    let in2 = subst (λ z. IsTrue (in_range z)) (sym second) h in
    let in3 = subst (λ z. IsTrue (in_range z)) (sym third) h in
    let in4 = subst (λ n. IsTrue (in_range (pos n))) (sym fourth) k in
    and-both (tops_fit (pos 0) b t 1) (in_range (pos (1 * b))) (and-both (in_range (pos 0 *ℤ pos b)) (in_range (t *ℤ pos 1) && in_range (pos 0 *ℤ pos b +ℤ t *ℤ pos 1)) in1 (and-both (in_range (t *ℤ pos 1)) (in_range (pos 0 *ℤ pos b +ℤ t *ℤ pos 1)) in2 in3)) in4

plus_zero-fits : (x : Fraction) → IsTrue (holds x) → IsTrue (fits_plus x zero)
plus_zero-fits x h =
    let b = denominator x in
    let fit = beside-zero x.top b (and-first (in_range x.top) (in_range x.bottom) h) (and-second (in_range x.top) (in_range x.bottom) h) in
    subst (λ q. IsTrue (parts_fit x.top q (pos 0) 1 1)) (sym (div-one b)) fit

gcd_of-one : (b : ℕ) → 1 ≡ gcd_of 1 b
gcd_of-one b = gcd_of-from 1 b 1 (one-dvd 1, one-dvd b, λ k u v. u)

zero_plus-fits : (x : Fraction) → IsTrue (holds x) → IsTrue (fits_plus zero x)
zero_plus-fits x h =
    let b = denominator x in
    let fit = behind-zero x.top b (and-first (in_range x.top) (in_range x.bottom) h) (and-second (in_range x.top) (in_range x.bottom) h) in
    let at_one = subst (λ q. IsTrue (parts_fit (pos 0) 1 x.top q b)) (sym (div-one b)) fit in
    subst (λ g. IsTrue (parts_fit (pos 0) (1 / g) x.top (b / g) b)) (gcd_of-one b) at_one

pub rational_ranges : RangeLaws rationals
rational_ranges = record {
  zero_in = refl;
  one_in = refl;
  plus_in = λ x y p q f. plus-in x y f;
  times_in = λ x y p q f. f;
  star_in = λ x p h f. star-in x p f;
  plus_zero_fits = plus_zero-fits;
  zero_plus_fits = zero_plus-fits;
  times_zero_fits = λ x p. subst (λ s. IsTrue (holds s)) (sym (times-zero x)) refl;
  zero_times_fits = λ x p. subst (λ s. IsTrue (holds s)) (sym (times-comm zero x ∙ times-zero x)) refl;
  times_one_fits = λ x p. subst (λ s. IsTrue (holds s)) (sym (times-one x)) p;
  one_times_fits = λ x p. subst (λ s. IsTrue (holds s)) (sym (times-comm one x ∙ times-one x)) p;
  star_zero_fits = refl;
}
