use Rattle.std.proofs.Common.{◌≡◌, ◌++◌, ◌+◌, ◌*◌, drop}
use Rattle.vc_terms.specs.ItemLists.{met_items}
use Rattle.vc_standard.specs.Stored.{items_of}
use Rattle.vc_standard.proofs.conjoined.meet_all.Given as goal

abbrev pub invariant-loop-step : goal.invariant-loop-step
invariant-loop-step g l =
    let parts = g.L.LabelSet.parts in
    items_of parts l.all.items ++ met_items g.S.Semiring.set (λ i j. i * l.m + j) (items_of parts (drop l.step-index l.first)) (items_of parts l.second) ≡ met_items g.S.Semiring.set (λ i j. i * l.m + j) (items_of parts l.first) (items_of parts l.second)
