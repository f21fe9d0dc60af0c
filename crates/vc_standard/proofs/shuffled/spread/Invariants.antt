use Rattle.std.proofs.Common.{◌≡◌, ◌++◌, ◌+◌, ◌*◌, drop}
use Rattle.vc_terms.specs.ItemLists.{mapped}
use Rattle.vc_standard.specs.Stored.{items_of}
use Rattle.vc_standard.proofs.shuffled.spread.Given as goal

abbrev pub invariant-loop-step : goal.invariant-loop-step
invariant-loop-step g l =
    let parts = g.L.LabelSet.parts in
    items_of parts l.all.items ++ mapped (λ k. k * l.width + l.second) (items_of parts (drop l.step-index l.steps)) ≡ mapped (λ k. k * l.width + l.second) (items_of parts l.steps)
