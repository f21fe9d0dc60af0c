use Rattle.std.proofs.Common.{rules, ◌≡◌, inl, inr, subst}
use Rattle.vc_standard.specs.Refusals.{IsFault}
use Rattle.vc_standard.specs.Steps.{IsMeeting, IsMeetStep}
use Rattle.vc_standard.specs.Stored.{items_of, position_of}
use Rattle.vc_standard.proofs.Faults.{passed_on}
use Rattle.vc_standard.proofs.conjoined.meet_states.Goals as goal

pub returns-in_err-last-clause-fault : goal.returns-in_err-last-clause-fault
returns-in_err-last-clause-fault g c =
    let parts = g.L.LabelSet.parts in
    let set = g.S.Semiring.set in
    let P = IsMeetStep (position_of parts c.args.first.now) (position_of parts c.args.second.now) in
    let fault : IsFault set P ⊥ c.in_err-last.field-0.0 = passed_on set _ P ⊥ ⊥ (λ o e. inl e) (λ x. x) c.in_err-last.field-0.0 c.in_err-last.ensures.fault in
    search rules

pub returns-in_err-moves-clause-fault : goal.returns-in_err-moves-clause-fault
returns-in_err-moves-clause-fault g c =
    let parts = g.L.LabelSet.parts in
    let set = g.S.Semiring.set in
    let P = IsMeetStep (position_of parts c.args.first.now) (position_of parts c.args.second.now) in
    let one : c.as_slice.result.now ≡ c.args.first.now.moves.items = search rules in
    let two : c.as_slice-2.result.now ≡ c.args.second.now.moves.items = search rules in
    let given = subst (λ xs. IsFault set (IsMeeting (items_of parts xs) (items_of parts c.as_slice-2.result.now)) ⊥ c.in_err-moves.field-0.0) one c.in_err-moves.ensures.fault in
    let both = subst (λ ys. IsFault set (IsMeeting (items_of parts c.args.first.now.moves.items) (items_of parts ys)) ⊥ c.in_err-moves.field-0.0) two given in
    let fault : IsFault set P ⊥ c.in_err-moves.field-0.0 = passed_on set _ P ⊥ ⊥ (λ o e. inr e) (λ x. x) c.in_err-moves.field-0.0 both in
    search rules
