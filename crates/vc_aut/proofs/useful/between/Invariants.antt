use Rattle.std.proofs.Common.{◌≡◌, map, filter, take}
use Rattle.vc_aut.specs.Stored.{transition_of}
use Rattle.vc_model.specs.Trims.{is_between, placed}
use Rattle.vc_aut.proofs.useful.between.Given as goal

abbrev pub invariant-loop-transition : goal.invariant-loop-transition
invariant-loop-transition g l =
    map (transition_of g.L.LabelSet.parts) l.transitions.items
    ≡ map (placed l.kept.states.items) (filter (is_between l.kept.states.items) (take l.transition-index l.aut.automaton.transitions))
