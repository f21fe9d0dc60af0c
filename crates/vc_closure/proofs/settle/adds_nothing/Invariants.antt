use Rattle.std.proofs.Common.{take}
use Rattle.vc_closure.specs.Rows.{sum_at}
use Rattle.vc_closure.specs.Settled.{AddsNothing}
use Rattle.vc_closure.proofs.settle.adds_nothing.Given as goal

abbrev pub invariant-loop-entry : goal.invariant-loop-entry
invariant-loop-entry g l = let R = g.S.Semiring.set in AddsNothing R (sum_at R l.sums) l.weight (take l.entry-index l.row)
