use Rattle.std.proofs.Common.{rules}
use Rattle.vc_standard.specs.Refusals.{IsFault}
use Rattle.vc_standard.specs.Steps.{IsMoveMultiple}
use Rattle.vc_standard.specs.Stored.{item_of, items_of}
use Rattle.vc_standard.proofs.Faults.{passed_on, read_at}
use Rattle.vc_standard.proofs.moves.add_scaled.Goals as goal

pub returns-in_err-step-clause-fault : goal.returns-in_err-step-clause-fault
returns-in_err-step-clause-fault g c =
    let parts = g.L.LabelSet.parts in
    let set = g.S.Semiring.set in
    let fault : IsFault set (IsMoveMultiple c.args.k (items_of parts c.args.steps.now)) ⊥ c.in_err-step.field-0.0 =
    passed_on set _ (IsMoveMultiple c.args.k (items_of parts c.args.steps.now)) ⊥ ⊥ (λ o e. (item_of parts c.step-item.result, read_at (item_of parts) c.args.steps.now c.loop-step.step-index c.step-item.result c.loop-step-test.true c.step-item.is, e)) (λ x. x) c.in_err-step.field-0.0 c.in_err-step.ensures.fault in
    search rules
