use Rattle.std.proofs.Common.{◌≡◌}
use Rattle.vc_model.specs.Items.{Item}
use Rattle.vc_ring.specs.declared.faults.Overflow.{Overflow}
use Rattle.vc_standard.specs.Refusals.{IsFault}
use Rattle.vc_standard.specs.Steps.{grouped_steps, put_steps}
use Rattle.vc_standard.specs.Stored.{item_of, items_of}
use Rattle.vc_standard.specs.Structures.{moved, same_place}
use Rattle.vc_terms.specs.ItemLists.{put_item}
use Rattle.std.proofs.Common.{ℕ, ◌+◌, subst}
use Rattle.vc_model.specs.Lists.{In}
use Rattle.vc_standard.proofs.Faults.{passed_on, residual}
use Rattle.vc_standard.proofs.LoopLaws.{put_next, steps_next, steps_here}
use Rattle.vc_standard.proofs.put.put_behind.Goals as goal

pub returns-in_err-most-clause-fault : goal.returns-in_err-most-clause-fault
returns-in_err-most-clause-fault g c =
    let parts = g.L.LabelSet.parts in
    let set = g.S.Semiring.set in
    let P : Overflow g.row.S-Value.Denot → Type 0 = λ o. In o (grouped_steps set (items_of parts c.args.into.now.items) (moved c.args.n (items_of parts c.args.steps.now))) in
    let given = subst (λ e. IsFault set (λ o. In o (put_steps e (items_of parts c.loop-step.into.items))) ⊥ c.in_err-most.field-0.0) c.in_ok-step.ensures c.in_err-most.ensures.fault in
    let fault : IsFault set P ⊥ c.in_err-most.field-0.0 =
    passed_on set _ P ⊥ ⊥ (λ o m. (steps_here set (λ (e : Item g.row.S-Value.Denot ℕ). record { label = e.label; weight = e.weight; to = c.args.n + e.to }) (item_of parts) (items_of parts c.loop-step.into.items) c.args.steps.now c.loop-step.step-index c.step-item.result c.loop-step-test.true c.step-item.is
    (grouped_steps set (items_of parts c.args.into.now.items) (moved c.args.n (items_of parts c.args.steps.now))) c.loop-step.invariant.left o m)) (λ x. x) c.in_err-most.field-0.0 given in
    residual _ c.in_err-most.field-0.0 (λ f. IsFault set P ⊥ f) c.from_residual-in_err-most.ensures.1 fault

pub loop-step-preserved : goal.loop-step-preserved
loop-step-preserved g c =
    let parts = g.L.LabelSet.parts in
    let set = g.S.Semiring.set in
    let s : Item g.row.S-Value.Denot ℕ → Item g.row.S-Value.Denot ℕ = λ e. record { label = e.label; weight = e.weight; to = c.args.n + e.to } in
    let now : items_of parts c.put.new.into.items ≡ put_item set same_place (s (item_of parts c.step-item.result)) (items_of parts c.loop-step.into.items) = subst (λ e. items_of parts c.put.new.into.items ≡ put_item set same_place e (items_of parts c.loop-step.into.items)) c.in_ok-step.ensures c.in_ok-most.ensures.steps in
    record {
      most = c.in_ok-most.ensures.most;
      made = put_next set s (item_of parts) (items_of parts c.loop-step.into.items) c.args.steps.now c.loop-step.step-index c.step-item.result c.loop-step-test.true c.step-item.is _ _ c.loop-step.invariant.made now;
      left = steps_next set s (item_of parts) (items_of parts c.loop-step.into.items) c.args.steps.now c.loop-step.step-index c.step-item.result c.loop-step-test.true c.step-item.is _ _ c.loop-step.invariant.left now;
    }
