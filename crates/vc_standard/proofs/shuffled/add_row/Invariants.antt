use Rattle.std.proofs.Common.{◌≡◌, ◌++◌, ◌+◌, map, drop}
use Rattle.vc_ring.specs.declared.faults.Overflow.{Overflow}
use Rattle.vc_standard.specs.Shapes.{positions_of}
use Rattle.vc_standard.specs.Steps.{IsMixRowStep}
use Rattle.vc_standard.specs.Stored.{position_of}
use Rattle.vc_standard.specs.Structures.{mixed_row}
use Rattle.vc_standard.proofs.shuffled.add_row.Given as goal

abbrev pub invariant-loop-k : goal.invariant-loop-k
invariant-loop-k g l =
    let parts = g.L.LabelSet.parts in
    let set = g.S.Semiring.set in
    let p = position_of parts l.first in
    record {
      made : positions_of parts l.all ++ mixed_row set l.m l.i (l.j + l.k) p (map (position_of parts) (drop l.k l.second)) ≡ positions_of parts l.fn.into ++ mixed_row set l.m l.i l.j p (map (position_of parts) l.second);
      left : (o : Overflow g.row.S-Value.Denot) → IsMixRowStep set l.m l.i (l.j + l.k) p (map (position_of parts) (drop l.k l.second)) o → IsMixRowStep set l.m l.i l.j p (map (position_of parts) l.second) o;
    }
