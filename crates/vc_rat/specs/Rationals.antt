-- The rational numbers as weights: fractions in lowest terms.
use Rattle.std.specs.Prelude.{ℕ, ◌<◌, ◌*◌, ◌/◌, max, ℤ, pos, ◌+ℤ◌, ◌-ℤ◌, ◌*ℤ◌, unsigned_abs, int_div, nat_lt, Bool, ◌&&◌}
use Rattle.vc_num.specs.Divisors.{gcd_of}
use Rattle.vc_num.specs.Range.{in_range}
use Rattle.vc_model.specs.WeightSet.{WeightSet}
use Rattle.vc_rat.specs.Reduced.{reduced-lowest, positive-mul, magnitude-positive, zero-lowest, one-lowest, positive-max}
use Rattle.vc_rat.specs.declared.fraction.Fraction.{Fraction}

-- the bottom as a natural number
abbrev pub denominator : Fraction → ℕ
denominator x = unsigned_abs x.bottom

-- it is not zero
abbrev pub positive : (x : Fraction) → 0 < denominator x
positive x = magnitude-positive x.bottom x.lowest.0

-- n/d in lowest terms
abbrev pub reduced : ℤ → (d : ℕ) → 0 < d → Fraction
reduced n d p = record { top = int_div n (pos (gcd_of (unsigned_abs n) d)); bottom = pos (d / gcd_of (unsigned_abs n) d); lowest = reduced-lowest n d p }

-- the sum, in lowest terms
abbrev pub plus : Fraction → Fraction → Fraction
plus x y = reduced (x.top *ℤ pos (denominator y) +ℤ y.top *ℤ pos (denominator x)) (denominator x * denominator y) (positive-mul (denominator x) (denominator y) (positive x) (positive y))

-- the product, in lowest terms
abbrev pub times : Fraction → Fraction → Fraction
times x y = reduced (x.top *ℤ y.top) (denominator x * denominator y) (positive-mul (denominator x) (denominator y) (positive x) (positive y))

-- 0/1
abbrev pub zero : Fraction
zero = record { top = pos 0; bottom = pos 1; lowest = zero-lowest }

-- 1/1
abbrev pub one : Fraction
one = record { top = pos 1; bottom = pos 1; lowest = one-lowest }

-- b/(b - a) for a/b between -1 and 1
abbrev pub star : Fraction → Fraction
star x = let d = unsigned_abs (x.bottom -ℤ x.top) in reduced x.bottom (max 1 d) (positive-max d)

-- a value has its top and its bottom in range
abbrev pub holds : Fraction → Bool
holds x = in_range x.top && in_range x.bottom

-- a·d, c·b and their sum
abbrev pub tops_fit : ℤ → ℕ → ℤ → ℕ → Bool
tops_fit a d c b = in_range (a *ℤ pos d) && (in_range (c *ℤ pos b) && in_range (a *ℤ pos d +ℤ c *ℤ pos b))

-- these, and b·whole
abbrev pub parts_fit : ℤ → ℕ → ℤ → ℕ → ℕ → Bool
parts_fit a b c d whole = tops_fit a d c b && in_range (pos (b * whole))

-- the steps of a sum of a/b and c/d that share g, the greatest common divisor of b and d: a·(d/g), c·(b/g), their sum, and (b/g)·d
abbrev pub fits_plus : Fraction → Fraction → Bool
fits_plus x y = let g = gcd_of (denominator x) (denominator y) in parts_fit x.top (denominator x / g) y.top (denominator y / g) (denominator y)

-- sums and products of any size, and a star between -1 and 1
abbrev pub rationals : WeightSet Fraction
rationals = record {
  zero = zero;
  one = one;
  plus = plus;
  times = times;
  has_star = λ x. nat_lt (unsigned_abs x.top) (denominator x);
  star = star;
  in_range = holds;
  fits_plus = fits_plus;
  fits_times = λ x y. holds (times x y);
  fits_star = λ x. in_range (x.bottom -ℤ x.top);
}
