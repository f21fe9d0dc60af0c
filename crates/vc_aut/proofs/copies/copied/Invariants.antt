use Rattle.std.proofs.Common.{◌≡◌, map, take}
use Rattle.vc_aut.specs.Stored.{transition_of}
use Rattle.vc_aut.proofs.copies.copied.Given as goal

-- so far they stand for the same
abbrev pub invariant-loop-transition : goal.invariant-loop-transition
invariant-loop-transition g l = map (transition_of g.L.LabelSet.parts) l.same.items ≡ map (transition_of g.L.LabelSet.parts) (take l.transition-index l.transitions)
