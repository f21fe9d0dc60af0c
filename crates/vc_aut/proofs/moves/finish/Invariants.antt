use Rattle.std.proofs.Common.{◌≡◌, map, ◌++◌}
use Rattle.vc_aut.specs.Drafts.{without_zeros}
use Rattle.vc_aut.specs.Stored.{entry_transition, transition_of}
use Rattle.vc_aut.proofs.moves.finish.Given as goal

-- what was taken and what is left give the whole
abbrev pub invariant-loop-from : goal.invariant-loop-from
invariant-loop-from g l =
    map (transition_of g.L.LabelSet.parts) l.transitions.items ++ without_zeros g.S.Semiring.set g.S.Value.PartialEq.eq (map (entry_transition g.L.LabelSet.parts) l.from-iterator)
    ≡ without_zeros g.S.Semiring.set g.S.Value.PartialEq.eq (map (entry_transition g.L.LabelSet.parts) l.fn.moves.entries)
