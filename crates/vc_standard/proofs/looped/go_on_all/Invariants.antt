use Rattle.std.proofs.Common.{◌≡◌, ◌++◌, map}
use Rattle.vc_standard.specs.Shapes.{positions_of}
use Rattle.vc_standard.specs.Stored.{items_of, position_of}
use Rattle.vc_standard.specs.Structures.{again}
use Rattle.vc_standard.proofs.looped.go_on_all.Given as goal

abbrev pub invariant-loop-position : goal.invariant-loop-position
invariant-loop-position g l =
    let parts = g.L.LabelSet.parts in
    record {
      made : positions_of parts l.all ≡ map (again g.S.Semiring.set g.S.Value.PartialEq.eq (items_of parts l.steps) l.h) (map (position_of parts) l.yielded);
      split : l.yielded ++ l.position-iterator.rest.items ≡ l.fn.from.list.items;
    }
