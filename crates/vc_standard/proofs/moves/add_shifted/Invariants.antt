use Rattle.std.proofs.Common.{◌≡◌, ◌++◌}
use Rattle.vc_standard.specs.Stored.{items_of}
use Rattle.vc_standard.specs.Structures.{moved}
use Rattle.vc_standard.proofs.moves.add_shifted.Given as goal

abbrev pub invariant-loop-step : goal.invariant-loop-step
invariant-loop-step g l =
    let parts = g.L.LabelSet.parts in
    items_of parts l.into.items ≡ items_of parts l.fn.into.items ++ moved l.n (items_of parts l.yielded)
