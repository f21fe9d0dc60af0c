use Rattle.std.proofs.Common.{◌≡◌, drop}
use Rattle.vc_basic.specs.WholeSplits.{leading_sign}
use Rattle.vc_basic.proofs.wholes.sign_of.Given as goal

abbrev pub invariant-loop-entry : goal.invariant-loop-entry
invariant-loop-entry l = leading_sign (drop l.entry-index l.row) ≡ leading_sign l.row
