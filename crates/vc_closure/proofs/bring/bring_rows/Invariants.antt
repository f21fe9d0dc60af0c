use Rattle.std.proofs.Common.{map}
use Rattle.vc_aut.specs.Stored.{transition_of}
use Rattle.vc_closure.specs.Brought.{IsMore, rows_brought}
use Rattle.vc_closure.proofs.bring.bring_rows.Given as goal

abbrev pub invariant-loop-state : goal.invariant-loop-state
invariant-loop-state g l =
    let R = g.S.Semiring.set in
    let A = l.aut.automaton in
    IsMore R l.aut.sets A.states (map (transition_of g.L.LabelSet.parts) l.fn.into.items) (map (transition_of g.L.LabelSet.parts) l.into.items) (rows_brought R A l.rows l.state)
