-- When a top over a bottom is a fraction in lowest terms.
use Rattle.std.specs.Prelude.{◌≡◌, ℤ, pos, ◌<ℤ◌, unsigned_abs}
use Rattle.vc_num.specs.Divisors.{gcd_of}

-- the bottom is positive, and only one divides both
abbrev pub IsLowest : ℤ → ℤ → Type 0
IsLowest top bottom = (pos 0 <ℤ bottom) × (gcd_of (unsigned_abs top) (unsigned_abs bottom) ≡ 1)
