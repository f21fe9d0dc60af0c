use Rattle.std.proofs.Common.{rules, ◌≡◌, false, inl}
use Rattle.vc_standard.specs.Refusals.{IsFault}
use Rattle.vc_standard.specs.Steps.{IsAgainStep}
use Rattle.vc_standard.specs.Stored.{items_of, position_of}
use Rattle.vc_standard.specs.Structures.{Position}
use Rattle.vc_standard.proofs.Faults.{passed_on}
use Rattle.vc_standard.proofs.LoopLaws.{put_again}
use Rattle.vc_standard.proofs.looped.go_on.Goals as goal

pub returns-in_err-product-clause-fault : goal.returns-in_err-product-clause-fault
returns-in_err-product-clause-fault g c =
    let set = g.S.Semiring.set in
    let q : Position g.row.S-Value.Denot = record { final = c.args.h; moves = items_of g.L.LabelSet.parts c.args.steps.now } in
    let fault : IsFault set (IsAgainStep set g.S.Value.PartialEq.eq q (position_of g.L.LabelSet.parts c.args.position)) ⊥ c.in_err-product.field-0.0 =
    passed_on set _ (IsAgainStep set g.S.Value.PartialEq.eq q (position_of g.L.LabelSet.parts c.args.position)) ⊥ ⊥ (λ o e. inl (inl e)) (λ x. x) c.in_err-product.field-0.0 c.in_err-product.ensures.fault in
    search rules

pub returns-in_err-put_scaled-clause-fault : goal.returns-in_err-put_scaled-clause-fault
returns-in_err-put_scaled-clause-fault g c =
    let parts = g.L.LabelSet.parts in
    let set = g.S.Semiring.set in
    let eq = g.S.Value.PartialEq.eq in
    let q : Position g.row.S-Value.Denot = record { final = c.args.h; moves = items_of parts c.args.steps.now } in
    let apart : eq c.args.position.last set.zero ≡ false = search rules in
    let fault : IsFault set (IsAgainStep set eq q (position_of parts c.args.position)) ⊥ c.in_err-put_scaled.field-0.0 =
    passed_on set _ (IsAgainStep set eq q (position_of parts c.args.position)) ⊥ ⊥ (put_again set eq q (position_of parts c.args.position) apart) (λ x. x) c.in_err-put_scaled.field-0.0 c.in_err-put_scaled.ensures.fault in
    search rules
