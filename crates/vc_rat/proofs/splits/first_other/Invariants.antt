use Rattle.std.proofs.Common.{◌≡◌, drop}
use Rattle.vc_rat.specs.Splits.{row_factor}
use Rattle.vc_rat.proofs.splits.first_other.Given as goal

abbrev pub invariant-loop-x : goal.invariant-loop-x
invariant-loop-x l = row_factor (drop l.x-index l.row) ≡ row_factor l.row
