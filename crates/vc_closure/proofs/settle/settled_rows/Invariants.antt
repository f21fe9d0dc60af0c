use Rattle.std.proofs.Common.{◌≡◌, ◌≤◌, ◌<◌, ◌+◌, ℕ, length}
use Rattle.vc_closure.specs.Closing.{closure}
use Rattle.vc_closure.specs.Rows.{AreClear, IsRow, entries_at, row_at}
use Rattle.vc_closure.specs.Settled.{AreWaiting}
use Rattle.vc_closure.proofs.Pairs.{count_of}
use Rattle.vc_model.specs.Lists.{below}
use Rattle.vc_closure.proofs.settle.settled_rows.Given as goal

-- the rows of the states so far, whose entries were counted
abbrev pub invariant-loop-state : goal.invariant-loop-state
invariant-loop-state g l =
    let R = g.S.Semiring.set in
    let A = l.aut.automaton in
    let n = A.states in
    record {
      count : length l.rows.items ≡ l.state;
      each : (p : ℕ) → p < l.state → IsRow R n (entries_at l.rows.items p);
      entries : (p : ℕ) → p < l.state → (t : ℕ) → t < n → row_at R (entries_at l.rows.items p) t ≡ closure R A p t;
      clear : AreClear R n l.sums.sums.items l.sums.touched.items;
      waiting : AreWaiting n l.waiting.queue.items l.waiting.marks.items;
      few : l.count ≤ l.most;
      most : l.most ≡ 4000000 + n;
      counted : l.count ≡ count_of l.rows.items (below l.state);
    }
