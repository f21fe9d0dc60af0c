use Rattle.std.proofs.Common.{take}
use Rattle.vc_standard.specs.Stored.{items_of}
use Rattle.vc_standard.specs.Within.{Are, IsUpTo}
use Rattle.vc_standard.proofs.put.furthest.Given as goal

abbrev pub invariant-loop-step : goal.invariant-loop-step
invariant-loop-step g l = Are (IsUpTo l.most) (items_of g.L.LabelSet.parts (take l.step-index l.steps))
