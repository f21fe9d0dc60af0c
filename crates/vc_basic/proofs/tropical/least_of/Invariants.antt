use Rattle.std.proofs.Common.{◌≡◌, drop}
use Rattle.vc_basic.specs.Tropical.{lesser}
use Rattle.vc_basic.specs.TropicalSplits.{least_entry}
use Rattle.vc_basic.proofs.tropical.least_of.Given as goal

abbrev pub invariant-loop-entry : goal.invariant-loop-entry
invariant-loop-entry l = lesser l.least (least_entry (drop l.entry-index l.row)) ≡ least_entry l.row
