use Rattle.std.proofs.Common.{map, take}
use Rattle.vc_aut.specs.Stored.{transition_of}
use Rattle.vc_closure.specs.Brought.{IsMore, row_brought}
use Rattle.vc_closure.proofs.bring.bring_row.Given as goal

abbrev pub invariant-loop-entry : goal.invariant-loop-entry
invariant-loop-entry g l =
    let R = g.S.Semiring.set in
    let A = l.aut.automaton in
    IsMore R l.aut.sets A.states (map (transition_of g.L.LabelSet.parts) l.fn.into.items) (map (transition_of g.L.LabelSet.parts) l.into.items) (row_brought R A l.state (take l.entry-index l.row))
