use Rattle.std.proofs.Common.{◌≡◌, ◌++◌, map, drop}
use Rattle.std.specs.List.{flat_map}
use Rattle.vc_standard.specs.Shapes.{positions_of}
use Rattle.vc_standard.specs.Stored.{position_of}
use Rattle.vc_standard.specs.Structures.{met}
use Rattle.vc_standard.proofs.conjoined.conjoined_shape.Given as goal

abbrev pub invariant-loop-position : goal.invariant-loop-position
invariant-loop-position g l =
    let parts = g.L.LabelSet.parts in
    positions_of parts l.positions ++ flat_map (λ p. map (met g.S.Semiring.set l.m p) (map (position_of parts) l.columns)) (map (position_of parts) (drop l.position-index l.rows))
    ≡ flat_map (λ p. map (met g.S.Semiring.set l.m p) (map (position_of parts) l.columns)) (map (position_of parts) l.rows)
