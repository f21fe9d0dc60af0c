-- The greatest common divisor, by remainders.
use Rattle.std.specs.Prelude.{ℕ, zero, suc, ◌%◌}

-- that of a and b, where b is at most n
abbrev pub gcd_upto : ℕ → ℕ → ℕ → ℕ
gcd_upto zero a b = a
gcd_upto (suc n) a zero = a
gcd_upto (suc n) a (suc b) = gcd_upto n (suc b) (a % suc b)

-- the common divisor of a and b that every common divisor divides
abbrev pub gcd_of : ℕ → ℕ → ℕ
gcd_of a b = gcd_upto b a b
