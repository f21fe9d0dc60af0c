use Rattle.std.proofs.Common.{rules}
use Rattle.vc_standard.specs.Refusals.{IsFault}
use Rattle.vc_standard.specs.Steps.{IsMeetingOf}
use Rattle.vc_standard.specs.Stored.{item_of, items_of}
use Rattle.vc_standard.proofs.Faults.{passed_on, read_at}
use Rattle.vc_standard.proofs.MeetLaws.{meetings_next, one_meeting}
use Rattle.vc_standard.proofs.conjoined.add_meetings.Goals as goal

pub returns-in_err-add_meeting-clause-fault : goal.returns-in_err-add_meeting-clause-fault
returns-in_err-add_meeting-clause-fault g c =
    let parts = g.L.LabelSet.parts in
    let set = g.S.Semiring.set in
    let P = IsMeetingOf (item_of parts c.args.first.now) (items_of parts c.args.second.now) in
    let fault : IsFault set P ⊥ c.in_err-add_meeting.field-0.0 =
    passed_on set _ P ⊥ ⊥ (one_meeting set c.args.m (item_of parts c.args.first.now) (items_of parts c.args.second.now) (item_of parts c.other-item.result) (read_at (item_of parts) c.args.second.now c.loop-other.other-index c.other-item.result c.loop-other-test.true c.other-item.is)) (λ x. x) c.in_err-add_meeting.field-0.0 c.in_err-add_meeting.ensures.fault in
    search rules

pub loop-other-preserved : goal.loop-other-preserved
loop-other-preserved g c =
    let parts = g.L.LabelSet.parts in
    meetings_next g.S.Semiring.set c.args.m (item_of parts c.args.first.now) (item_of parts) (items_of parts c.loop-other.into.items) (items_of parts c.add_meeting.new.into.items) c.args.second.now c.loop-other.other-index c.other-item.result _ c.loop-other-test.true c.other-item.is c.loop-other.invariant c.in_ok-add_meeting.ensures.steps
