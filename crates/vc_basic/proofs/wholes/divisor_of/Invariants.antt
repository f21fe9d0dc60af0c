use Rattle.std.proofs.Common.{◌≡◌, drop}
use Rattle.vc_num.specs.Divisors.{gcd_of}
use Rattle.vc_basic.specs.WholeSplits.{common_divisor}
use Rattle.vc_basic.proofs.wholes.divisor_of.Given as goal

abbrev pub invariant-loop-entry : goal.invariant-loop-entry
invariant-loop-entry l = gcd_of l.common (common_divisor (drop l.entry-index l.row)) ≡ common_divisor l.row
