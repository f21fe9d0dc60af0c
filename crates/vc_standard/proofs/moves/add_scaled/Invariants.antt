use Rattle.std.proofs.Common.{◌≡◌, ◌++◌, drop}
use Rattle.vc_terms.specs.ItemLists.{scaled_items}
use Rattle.vc_standard.specs.Stored.{items_of}
use Rattle.vc_standard.proofs.moves.add_scaled.Given as goal

abbrev pub invariant-loop-step : goal.invariant-loop-step
invariant-loop-step g l =
    let parts = g.L.LabelSet.parts in
    let set = g.S.Semiring.set in
    items_of parts l.into.items ++ scaled_items set l.k (items_of parts (drop l.step-index l.steps)) ≡ items_of parts l.fn.into.items ++ scaled_items set l.k (items_of parts l.steps)
