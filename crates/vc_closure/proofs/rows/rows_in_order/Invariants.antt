use Rattle.std.proofs.Common.{◌≡◌, ◌≤◌, ◌+◌, take}
use Rattle.vc_closure.specs.Closing.{closure}
use Rattle.vc_closure.specs.Rows.{AreClear, AreRows}
use Rattle.vc_closure.proofs.Ordered.{AreRowsAt}
use Rattle.vc_closure.proofs.Pairs.{count_of}
use Rattle.vc_closure.proofs.rows.rows_in_order.Given as goal

-- the rows of the states so far are those of the closure, and their entries were counted
abbrev pub invariant-loop-state : goal.invariant-loop-state
invariant-loop-state g l =
    let R = g.S.Semiring.set in
    let A = l.aut.automaton in
    let front = take l.state-index l.order in
    record {
      rows : AreRows R A.states l.rows.items;
      clear : AreClear R A.states l.sums.sums.items l.sums.touched.items;
      few : l.count ≤ l.most;
      most : l.most ≡ 4000000 + A.states;
      counted : l.count ≡ count_of l.rows.items front;
      entries : AreRowsAt R A (closure R A) front l.rows.items;
    }
