use Rattle.std.proofs.Common.{◌≡◌, map, take}
use Rattle.vc_aut.specs.Stored.{transition_of}
use Rattle.vc_closure.specs.Settled.{moves_of}
use Rattle.vc_closure.proofs.moves.empty_among.Given as goal

abbrev pub invariant-loop-transition : goal.invariant-loop-transition
invariant-loop-transition g l = l.row.items ≡ moves_of (take l.transition-index (map (transition_of g.L.LabelSet.parts) l.transitions))
