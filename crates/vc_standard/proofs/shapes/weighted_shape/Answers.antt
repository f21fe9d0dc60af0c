use Rattle.std.proofs.Common.{inl, inr}
use Rattle.vc_standard.specs.Refusals.{IsFault}
use Rattle.vc_standard.specs.Shapes.{shape_of}
use Rattle.vc_standard.specs.Steps.{IsMultiple}
use Rattle.vc_standard.proofs.Faults.{passed_on, residual}
use Rattle.vc_standard.proofs.shapes.weighted_shape.Goals as goal

pub returns-in_err-last-clause-fault : goal.returns-in_err-last-clause-fault
returns-in_err-last-clause-fault g c =
    let set = g.S.Semiring.set in
    let P = IsMultiple c.args.k (shape_of g.L.LabelSet.parts c.args.shape).start in
    let fault : IsFault set P ⊥ c.in_err-last.field-0.0 = passed_on set _ P ⊥ ⊥ (λ o e. inl e) (λ x. x) c.in_err-last.field-0.0 c.in_err-last.ensures.fault in
    residual _ c.in_err-last.field-0.0 (λ f. IsFault set P ⊥ f) c.from_residual.ensures.1 fault

pub returns-in_err-moves-clause-fault : goal.returns-in_err-moves-clause-fault
returns-in_err-moves-clause-fault g c =
    let set = g.S.Semiring.set in
    let P = IsMultiple c.args.k (shape_of g.L.LabelSet.parts c.args.shape).start in
    let fault : IsFault set P ⊥ c.in_err-moves.field-0.0 = passed_on set _ P ⊥ ⊥ (λ o e. inr e) (λ x. x) c.in_err-moves.field-0.0 c.in_err-moves.ensures.fault in
    residual _ c.in_err-moves.field-0.0 (λ f. IsFault set P ⊥ f) c.from_residual-in_err-moves.ensures.1 fault
