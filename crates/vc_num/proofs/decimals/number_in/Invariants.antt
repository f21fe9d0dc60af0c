use Rattle.std.proofs.Common.{◌≡◌, ◌<◌, ◌^◌, drop}
use Rattle.vc_num.specs.Decimals.{number_onto, number_of_digits}
use Rattle.vc_num.proofs.decimals.number_in.Given as goal

abbrev pub invariant-loop-byte : goal.invariant-loop-byte
invariant-loop-byte l = (number_onto l.number (drop l.byte-index l.digits) ≡ number_of_digits l.fn.digits) × (l.number < 2 ^ 128)
