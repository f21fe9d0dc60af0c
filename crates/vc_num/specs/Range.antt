-- The whole numbers of magnitude at most 2^127 - 1.
use Rattle.std.specs.Prelude.{Bool, ℤ, nat_lt, Option, Some, None, cond, ◌^◌}
use Rattle.std.specs.Int.RustNames.{unsigned_abs}

abbrev pub in_range : ℤ → Bool
in_range z = nat_lt (unsigned_abs z) (2 ^ 127)

-- the number, where it is in range
abbrev pub ranged : ℤ → Option ℤ
ranged z = cond (in_range z) (Some z) None
