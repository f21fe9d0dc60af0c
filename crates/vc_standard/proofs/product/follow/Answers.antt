use Rattle.std.proofs.Common.{rules, inl, inr}
use Rattle.vc_standard.specs.Refusals.{IsFault}
use Rattle.vc_standard.specs.Steps.{IsMultiple}
use Rattle.vc_standard.specs.Stored.{items_of}
use Rattle.vc_standard.specs.Structures.{Position}
use Rattle.vc_standard.proofs.Faults.{passed_on}
use Rattle.vc_standard.proofs.product.follow.Goals as goal

pub returns-in_err-product-clause-fault : goal.returns-in_err-product-clause-fault
returns-in_err-product-clause-fault g c =
    let set = g.S.Semiring.set in
    let q : Position g.row.S-Value.Denot = record { final = c.args.c; moves = items_of g.L.LabelSet.parts c.args.steps.now } in
    let fault : IsFault set (IsMultiple c.args.position.last q) ⊥ c.in_err-product.field-0.0 =
    passed_on set _ (IsMultiple c.args.position.last q) ⊥ ⊥ (λ o e. inl e) (λ x. x) c.in_err-product.field-0.0 c.in_err-product.ensures.fault in
    search rules

pub returns-in_err-add_scaled-clause-fault : goal.returns-in_err-add_scaled-clause-fault
returns-in_err-add_scaled-clause-fault g c =
    let set = g.S.Semiring.set in
    let q : Position g.row.S-Value.Denot = record { final = c.args.c; moves = items_of g.L.LabelSet.parts c.args.steps.now } in
    let fault : IsFault set (IsMultiple c.args.position.last q) ⊥ c.in_err-add_scaled.field-0.0 =
    passed_on set _ (IsMultiple c.args.position.last q) ⊥ ⊥ (λ o e. inr e) (λ x. x) c.in_err-add_scaled.field-0.0 c.in_err-add_scaled.ensures.fault in
    search rules
