use Rattle.std.proofs.Common.{◌≤◌, ◌-◌}
use Rattle.vc_closure.specs.Closing.{matrix}
use Rattle.vc_closure.specs.Rows.{AreRows, AreRowsOf}
use Rattle.vc_closure.proofs.rounds.rows_by_rounds.Given as goal

abbrev pub invariant-loop-round : goal.invariant-loop-round
invariant-loop-round g l =
    let R = g.S.Semiring.set in
    let A = l.aut.automaton in
    record {
      rows : AreRows R A.states l.rows.items;
      made : AreRowsOf R A (matrix R A (l._round - 1)) l.rows.items;
      some : 1 ≤ l._round;
    }
