use Rattle.std.proofs.Common.{◌≡◌, ◌++◌}
use Rattle.vc_terms.specs.ItemLists.{scaled_items}
use Rattle.vc_standard.specs.Stored.{items_of}
use Rattle.vc_standard.proofs.moves.scale.Given as goal

abbrev pub invariant-loop-step : goal.invariant-loop-step
invariant-loop-step g l =
    let parts = g.L.LabelSet.parts in
    record {
      made : items_of parts l.scaled.items ≡ scaled_items g.S.Semiring.set l.k (items_of parts l.yielded);
      split : l.yielded ++ l.step-iterator.rest.items ≡ l.fn.steps.items;
    }
