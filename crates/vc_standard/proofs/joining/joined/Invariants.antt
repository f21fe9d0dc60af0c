use Rattle.std.proofs.Common.{◌≡◌, ◌++◌, map}
use Rattle.vc_standard.specs.Shapes.{positions_of}
use Rattle.vc_standard.specs.Stored.{position_of}
use Rattle.vc_standard.proofs.joining.joined.Given as goal

abbrev pub invariant-loop-position : goal.invariant-loop-position
invariant-loop-position g l =
    let parts = g.L.LabelSet.parts in
    record {
      made : positions_of parts l.all ≡ positions_of parts l.fn.first ++ map (position_of parts) l.yielded;
      split : l.yielded ++ l.position-iterator.rest.items ≡ l.fn.second.list.items;
    }
