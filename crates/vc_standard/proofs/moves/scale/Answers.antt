use Rattle.std.proofs.Common.{rules, ◌≡◌, ◌++◌, ◌∷◌}
use Rattle.vc_standard.specs.Refusals.{IsFault}
use Rattle.vc_standard.specs.Steps.{IsMoveMultiple}
use Rattle.vc_standard.specs.Stored.{item_of, items_of}
use Rattle.vc_standard.proofs.Faults.{passed_on, between}
use Rattle.vc_standard.proofs.moves.scale.Goals as goal

pub returns-in_err-weight-clause-fault : goal.returns-in_err-weight-clause-fault
returns-in_err-weight-clause-fault g c =
    let parts = g.L.LabelSet.parts in
    let set = g.S.Semiring.set in
    let all : c.loop-step.yielded ++ c.in-Some.step ∷ c.next.new.self.rest.items ≡ c.args.steps.items = search rules in
    let fault : IsFault set (IsMoveMultiple c.args.k (items_of parts c.args.steps.items)) ⊥ c.in_err-weight.field-0.0 =
    passed_on set _ (IsMoveMultiple c.args.k (items_of parts c.args.steps.items)) ⊥ ⊥ (λ o e. (item_of parts c.in-Some.step, between (item_of parts) c.loop-step.yielded c.in-Some.step c.next.new.self.rest.items c.args.steps.items all, e)) (λ x. x) c.in_err-weight.field-0.0 c.in_err-weight.ensures.fault in
    search rules
