use Rattle.std.proofs.Common.{◌≡◌, drop}
use Rattle.vc_model.specs.Lists.{In}
use Rattle.vc_ring.specs.declared.faults.Overflow.{Overflow}
use Rattle.vc_terms.specs.ItemLists.{grouped_items, scaled_items}
use Rattle.vc_standard.specs.Steps.{grouped_steps}
use Rattle.vc_standard.specs.Stored.{items_of}
use Rattle.vc_standard.specs.Structures.{same_place}
use Rattle.vc_standard.specs.Within.{Are, IsUpTo}
use Rattle.vc_standard.proofs.put.put_scaled.Given as goal

abbrev pub invariant-loop-step : goal.invariant-loop-step
invariant-loop-step g l =
    let parts = g.L.LabelSet.parts in
    let set = g.S.Semiring.set in
    record {
      most : Are (IsUpTo l.most) (items_of parts l.into.items);
      made : grouped_items set same_place (items_of parts l.into.items) (scaled_items set l.k (items_of parts (drop l.step-index l.steps))) ≡ grouped_items set same_place (items_of parts l.fn.into.items) (scaled_items set l.k (items_of parts l.steps));
      left : (o : Overflow g.row.S-Value.Denot) → In o (grouped_steps set (items_of parts l.into.items) (scaled_items set l.k (items_of parts (drop l.step-index l.steps)))) → In o (grouped_steps set (items_of parts l.fn.into.items) (scaled_items set l.k (items_of parts l.steps)));
    }
