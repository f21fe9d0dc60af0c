use Rattle.std.proofs.Common.{rules, ◌≡◌, true, refl, inl, [], ◌∷◌}
use Rattle.vc_model.specs.Words.{same_word}
use Rattle.vc_standard.specs.Refusals.{IsFault}
use Rattle.vc_standard.specs.Steps.{IsMeetingOf}
use Rattle.vc_standard.specs.Stored.{item_of}
use Rattle.vc_standard.proofs.Faults.{passed_on}
use Rattle.vc_standard.proofs.conjoined.add_meeting.Goals as goal

pub returns-in_err-step-clause-fault : goal.returns-in_err-step-clause-fault
returns-in_err-step-clause-fault g c =
    let parts = g.L.LabelSet.parts in
    let set = g.S.Semiring.set in
    let d = item_of parts c.args.second.now in
    let P = IsMeetingOf (item_of parts c.args.first.now) (d ∷ []) in
    let same : same_word (parts c.args.first.now.label) (parts c.args.second.now.label) ≡ true = search rules in
    let fault : IsFault set P ⊥ c.in_err-step.field-0.0 = passed_on set _ P ⊥ ⊥ (λ o e. (d, inl refl, same, e)) (λ x. x) c.in_err-step.field-0.0 c.in_err-step.ensures.fault in
    search rules
