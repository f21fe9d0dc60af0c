use Rattle.std.proofs.Common.{◌≡◌, ◌<◌, ℕ, length, slice_index_or}
use Rattle.vc_closure.specs.Brought.{row_final}
use Rattle.vc_closure.specs.Rows.{entries_at}
use Rattle.vc_model.specs.WeightSet.{InRange}
use Rattle.vc_closure.proofs.bring.final_weights.Given as goal

abbrev pub invariant-loop-state : goal.invariant-loop-state
invariant-loop-state g l =
    let R = g.S.Semiring.set in
    record {
      count : length l.weights.items ≡ l.state;
      in_range : InRange R l.weights.items;
      sums : (p : ℕ) → p < l.state → slice_index_or l.weights.items p R.zero ≡ row_final R l.aut.automaton (entries_at l.rows p);
    }
