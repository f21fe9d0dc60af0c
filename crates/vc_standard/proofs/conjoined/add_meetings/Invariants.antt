use Rattle.std.proofs.Common.{◌≡◌, ◌++◌, drop}
use Rattle.vc_standard.specs.Stored.{item_of, items_of}
use Rattle.vc_standard.specs.Structures.{meetings}
use Rattle.vc_standard.proofs.conjoined.add_meetings.Given as goal

abbrev pub invariant-loop-other : goal.invariant-loop-other
invariant-loop-other g l =
    let parts = g.L.LabelSet.parts in
    let e = item_of parts l.first in
    items_of parts l.into.items ++ meetings g.S.Semiring.set l.m e (items_of parts (drop l.other-index l.second)) ≡ items_of parts l.fn.into.items ++ meetings g.S.Semiring.set l.m e (items_of parts l.second)
