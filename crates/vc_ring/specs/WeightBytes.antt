-- Digits and the minus may stand in a weight.
use Rattle.std.specs.Prelude.{ℕ, ◌+◌, ◌<◌}
use Rattle.std.proofs.Common.{arith}
use Rattle.vc_ring.specs.Texts.{IsWeightByte}

pub digit_byte : (d : ℕ) → d < 10 → IsWeightByte (48 + d)
digit_byte d h = record { low = omega arith; high = omega arith; not_less = λ q. absurd (omega (arith, q)); not_greater = λ q. absurd (omega (arith, q)) }

pub minus_byte : IsWeightByte 45
minus_byte = record { low = omega arith; high = omega arith; not_less = λ q. absurd (omega (arith, q)); not_greater = λ q. absurd (omega (arith, q)) }
