-- Products by the greatest common divisors across: of each top with the other bottom.
use Rattle.std.specs.Prelude.{ℕ, ◌*◌, ◌/◌, ℤ, pos, ◌*ℤ◌, unsigned_abs, int_div}
use Rattle.vc_num.specs.Divisors.{gcd_of}

-- the top of the product of a/b and c/d
abbrev pub cross_top : ℤ → ℕ → ℤ → ℕ → ℤ
cross_top a b c d = int_div a (pos (gcd_of (unsigned_abs a) d)) *ℤ int_div c (pos (gcd_of (unsigned_abs c) b))

-- and its bottom
abbrev pub cross_bottom : ℤ → ℕ → ℤ → ℕ → ℕ
cross_bottom a b c d = b / gcd_of (unsigned_abs c) b * (d / gcd_of (unsigned_abs a) d)
