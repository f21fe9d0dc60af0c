use Rattle.std.proofs.Common.{◌≡◌, ◌++◌, ◌+◌, map, drop}
use Rattle.vc_ring.specs.declared.faults.Overflow.{Overflow}
use Rattle.vc_standard.specs.Automata.{states_of}
use Rattle.vc_standard.specs.Shapes.{positions_of, shape_of}
use Rattle.vc_standard.specs.Steps.{IsMixRowsStep, IsShuffleStep}
use Rattle.vc_standard.specs.Stored.{position_of}
use Rattle.vc_standard.specs.Structures.{mixed_rows, shuffled, size_of}
use Rattle.vc_standard.proofs.shuffled.shuffled_shape.Given as goal

abbrev pub invariant-loop-k : goal.invariant-loop-k
invariant-loop-k g l =
    let parts = g.L.LabelSet.parts in
    let set = g.S.Semiring.set in
    let A = shape_of parts l.first in
    let B = shape_of parts l.second in
    record {
      made : positions_of parts l.all ++ mixed_rows set (size_of B) (1 + l.k) (map (position_of parts) (drop l.k l.rows)) (states_of B) ≡ (shuffled set A B).positions;
      left : (o : Overflow g.row.S-Value.Denot) → IsMixRowsStep set (size_of B) (1 + l.k) (map (position_of parts) (drop l.k l.rows)) (states_of B) o → IsShuffleStep set A B o;
    }
