use Rattle.std.proofs.Common.{◌≡◌, ◌++◌, map, take, drop}
use Rattle.vc_basic.specs.TropicalSplits.{without}
use Rattle.vc_basic.proofs.tropical.subtract_each.Given as goal

abbrev pub invariant-loop-entry : goal.invariant-loop-entry
invariant-loop-entry l = l.row ≡ map (λ a. without a l.least) (take l.entry-index l.fn.row) ++ drop l.entry-index l.fn.row
