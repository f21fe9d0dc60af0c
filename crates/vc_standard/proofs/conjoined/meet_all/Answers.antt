use Rattle.std.proofs.Common.{rules}
use Rattle.vc_standard.specs.Refusals.{IsFault}
use Rattle.vc_standard.specs.Steps.{IsMeeting}
use Rattle.vc_standard.specs.Stored.{item_of, items_of}
use Rattle.vc_standard.specs.Structures.{meetings}
use Rattle.vc_standard.proofs.Faults.{passed_on, read_at}
use Rattle.vc_standard.proofs.MeetLaws.{brings_next}
use Rattle.vc_standard.proofs.conjoined.meet_all.Goals as goal

pub returns-in_err-add_meetings-clause-fault : goal.returns-in_err-add_meetings-clause-fault
returns-in_err-add_meetings-clause-fault g c =
    let parts = g.L.LabelSet.parts in
    let set = g.S.Semiring.set in
    let P = IsMeeting (items_of parts c.args.first.now) (items_of parts c.args.second.now) in
    let fault : IsFault set P ⊥ c.in_err-add_meetings.field-0.0 =
    passed_on set _ P ⊥ ⊥ (λ o h. (item_of parts c.step-item.result, read_at (item_of parts) c.args.first.now c.loop-step.step-index c.step-item.result c.loop-step-test.true c.step-item.is, h)) (λ x. x) c.in_err-add_meetings.field-0.0 c.in_err-add_meetings.ensures.fault in
    search rules

pub loop-step-preserved : goal.loop-step-preserved
loop-step-preserved g c =
    let parts = g.L.LabelSet.parts in
    brings_next (λ e. meetings g.S.Semiring.set c.args.m e (items_of parts c.args.second.now)) (item_of parts) (items_of parts c.loop-step.all.items) (items_of parts c.add_meetings.new.into.items) c.args.first.now c.loop-step.step-index c.step-item.result _ c.loop-step-test.true c.step-item.is c.loop-step.invariant c.in_ok-add_meetings.ensures.steps
