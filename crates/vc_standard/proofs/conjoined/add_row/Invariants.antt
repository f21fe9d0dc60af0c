use Rattle.std.proofs.Common.{◌≡◌, ◌++◌, map, drop}
use Rattle.vc_standard.specs.Shapes.{positions_of}
use Rattle.vc_standard.specs.Stored.{position_of}
use Rattle.vc_standard.specs.Structures.{met}
use Rattle.vc_standard.proofs.conjoined.add_row.Given as goal

abbrev pub invariant-loop-other : goal.invariant-loop-other
invariant-loop-other g l =
    let parts = g.L.LabelSet.parts in
    positions_of parts l.all ++ map (met g.S.Semiring.set l.m (position_of parts l.first)) (map (position_of parts) (drop l.other-index l.second)) ≡ positions_of parts l.fn.into ++ map (met g.S.Semiring.set l.m (position_of parts l.first)) (map (position_of parts) l.second)
