use Rattle.std.proofs.Common.{false, map, take}
use Rattle.vc_aut.specs.Links.{IsFollowed, far}
use Rattle.vc_aut.specs.Stored.{transition_of}
use Rattle.vc_aut.proofs.links.follow_on.Given as goal

-- the targets so far were followed
abbrev pub invariant-loop-transition : goal.invariant-loop-transition
invariant-loop-transition g l = IsFollowed (map (far false) (map (transition_of g.L.LabelSet.parts) (take l.transition-index l.transitions))) l.fn.marks l.fn.waiting.items l.marks l.waiting.items
