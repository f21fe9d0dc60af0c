use Rattle.std.proofs.Common.{length}
use Rattle.vc_closure.specs.Rows.{AreSums, sum_at}
use Rattle.vc_closure.specs.Settled.{AreFrom, AreWaiting}
use Rattle.vc_closure.proofs.settle.spread.Given as goal

abbrev pub invariant-loop-step : goal.invariant-loop-step
invariant-loop-step g l =
    let R = g.S.Semiring.set in
    record {
      sums : AreSums R (length l.moves) l.sums.sums.items l.sums.touched.items;
      from : AreFrom R l.moves l.state (sum_at R l.sums.sums.items);
      waiting : AreWaiting (length l.moves) l.waiting.queue.items l.waiting.marks.items;
    }
