use Rattle.std.proofs.Common.{map, take}
use Rattle.vc_aut.specs.Stored.{transition_of}
use Rattle.vc_closure.specs.Brought.{IsMore, moves_brought}
use Rattle.vc_closure.proofs.bring.bring_moves.Given as goal

abbrev pub invariant-loop-transition : goal.invariant-loop-transition
invariant-loop-transition g l =
    let R = g.S.Semiring.set in
    let A = l.aut.automaton in
    IsMore R l.aut.sets A.states (map (transition_of g.L.LabelSet.parts) l.fn.into.items) (map (transition_of g.L.LabelSet.parts) l.into.items) (moves_brought R l.state l.weight (take l.transition-index (map (transition_of g.L.LabelSet.parts) l.moves)))
