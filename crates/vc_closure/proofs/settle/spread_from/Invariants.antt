use Rattle.std.proofs.Common.{ℕ, length}
use Rattle.vc_closure.specs.Rows.{AreSums, sum_at}
use Rattle.vc_closure.specs.Settled.{AreFrom, AreWaiting}
use Rattle.vc_closure.proofs.settle.spread_from.Given as goal

abbrev pub invariant-loop-entry : goal.invariant-loop-entry
invariant-loop-entry g l =
    let R = g.S.Semiring.set in
    record {
      sums : AreSums R (length l.moves) l.sums.sums.items l.sums.touched.items;
      from : (s : ℕ) → AreFrom R l.moves s (sum_at R l.fn.sums.sums.items) → AreFrom R l.moves s (sum_at R l.sums.sums.items);
      waiting : AreWaiting (length l.moves) l.waiting.queue.items l.waiting.marks.items;
    }
