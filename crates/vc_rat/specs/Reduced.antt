-- That a fraction divided by the greatest common divisor is the same number in lowest terms.
use Rattle.std.specs.Prelude.{◌≡◌, ℕ, zero, suc, ◌<◌, ◌*◌, ◌/◌, max, ℤ, pos, negsuc, neg_ℤ, ◌*ℤ◌, ◌<ℤ◌, unsigned_abs, int_div}
use Rattle.std.proofs.Common.{refl, sym, ap, ◌∙◌, arith, subst}
use Rattle.std.proofs.lemmas.Int.{ints}
use Rattle.std.proofs.Math.IntN.{pos-*ℤ-pos, negsuc-*ℤ-pos, zero-*ℤ}
use Rattle.std.specs.Int.{◌∣◌}
use native.Mathlib.Nat.{div-mul_cancel, dvd-mul_right, pos_of_dvd_of_pos}
use Rattle.vc_num.specs.Divisors.{gcd_of}
use Rattle.vc_num.specs.Divisibility.{gcd_of-is, gcd_of-positive, gcd_of-quotients, quotients-across}
use Rattle.vc_rat.specs.Lowest.{IsLowest}

pub positive-mul : (a b : ℕ) → 0 < a → 0 < b → 0 < a * b
positive-mul zero b p q = elim p [ ]
positive-mul (suc a) zero p q = elim q [ ]
positive-mul (suc a) (suc b) p q = omega arith

pub positive-suc : (n : ℕ) → 0 < suc n
positive-suc n = omega arith

pub positive-max : (a : ℕ) → 0 < max 1 a
positive-max a = omega arith

pub positive-pos : (n : ℕ) → 0 < n → pos 0 <ℤ pos n
positive-pos n p = omega (arith, ints)

pub magnitude-positive : (b : ℤ) → pos 0 <ℤ b → 0 < unsigned_abs b
magnitude-positive b p = grind (arith, ints)

-- a positive number is its magnitude
pub magnitude-is : (b : ℤ) → pos 0 <ℤ b → b ≡ pos (unsigned_abs b)
magnitude-is b p = grind (arith, ints)

pub zero-lowest : IsLowest (pos 0) (pos 1)
zero-lowest = (positive-pos 1 (omega arith), refl)

pub one-lowest : IsLowest (pos 1) (pos 1)
one-lowest = (positive-pos 1 (omega arith), refl)

abs-neg : (k : ℕ) → unsigned_abs (neg_ℤ (pos k)) ≡ k
abs-neg zero = refl
abs-neg (suc k) = refl

pub magnitude-div : (n : ℤ) (g : ℕ) → unsigned_abs (int_div n (pos g)) ≡ unsigned_abs n / g
magnitude-div (pos a) g = refl
magnitude-div (negsuc a) g = abs-neg (suc a / g)

pub positive-div : (d g : ℕ) → 0 < d → g ∣ d → 0 < d / g
positive-div d g p h = pos_of_dvd_of_pos (subst (λ x. d / g ∣ x) (div-mul_cancel g h) (dvd-mul_right (d / g) g)) p

pub reduced-lowest : (n : ℤ) (d : ℕ) → 0 < d → IsLowest (int_div n (pos (gcd_of (unsigned_abs n) d))) (pos (d / gcd_of (unsigned_abs n) d))
reduced-lowest n d p =
    let g = gcd_of (unsigned_abs n) d in
    let h = gcd_of-is (unsigned_abs n) d in
    (positive-pos (d / g) (positive-div d g p h.1), ap (λ x. gcd_of x (d / g)) (magnitude-div n g) ∙ gcd_of-quotients (unsigned_abs n) d (gcd_of-positive (unsigned_abs n) d p))

neg-mul : (k d : ℕ) → neg_ℤ (pos k) *ℤ pos d ≡ neg_ℤ (pos (k * d))
neg-mul zero d = let e : 0 ≡ zero * d = omega arith in zero-*ℤ (pos d) ∙ ap (λ x. neg_ℤ (pos x)) e
neg-mul (suc k) d = negsuc-*ℤ-pos k d

-- dividing top and bottom by a common divisor keeps the number
pub quotient-same : (n : ℤ) (d g : ℕ) → g ∣ unsigned_abs n → g ∣ d → int_div n (pos g) *ℤ pos d ≡ n *ℤ pos (d / g)
quotient-same (pos a) d g h i =
    pos-*ℤ-pos (a / g) d ∙ ap pos (quotients-across a d g h i) ∙ sym (pos-*ℤ-pos a (d / g))
quotient-same (negsuc a) d g h i =
    neg-mul (suc a / g) d ∙ ap (λ x. neg_ℤ (pos x)) (quotients-across (suc a) d g h i) ∙ sym (negsuc-*ℤ-pos a (d / g))

pub reduced-same : (n : ℤ) (d : ℕ) → int_div n (pos (gcd_of (unsigned_abs n) d)) *ℤ pos d ≡ n *ℤ pos (d / gcd_of (unsigned_abs n) d)
reduced-same n d = let h = gcd_of-is (unsigned_abs n) d in quotient-same n d (gcd_of (unsigned_abs n) d) h.0 h.1
