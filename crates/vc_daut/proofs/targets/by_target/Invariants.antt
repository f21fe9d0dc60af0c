use Rattle.std.proofs.Common.{◌≡◌, take, map}
use Rattle.vc_aut.specs.Stored.{transition_of}
use Rattle.vc_daut.specs.Growing.{lent}
use Rattle.vc_daut.proofs.targets.by_target.Given as goal

abbrev pub invariant-loop-entry : goal.invariant-loop-entry
invariant-loop-entry g l = lent g.L.LabelSet.parts l.order.items ≡ map (transition_of g.L.LabelSet.parts) (take l.entry-index l.moves)
