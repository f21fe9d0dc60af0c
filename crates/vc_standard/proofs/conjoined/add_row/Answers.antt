use Rattle.std.proofs.Common.{rules, ◌++◌, ◌∷◌, [], ◌<◌, ◌∙◌, ap, map}
use Rattle.vc_standard.specs.Counts.{moves_in}
use Rattle.vc_standard.specs.Refusals.{IsFault}
use Rattle.vc_standard.specs.Shapes.{positions_of}
use Rattle.vc_standard.specs.Steps.{IsRowStep}
use Rattle.vc_standard.specs.Stored.{position_of}
use Rattle.vc_standard.specs.Structures.{met}
use Rattle.vc_standard.proofs.Faults.{passed_on, read_at}
use Rattle.vc_standard.proofs.MeetLaws.{makes_next, front_left}
use Rattle.vc_standard.proofs.conjoined.add_row.Goals as goal

pub returns-in_err-position-clause-fault : goal.returns-in_err-position-clause-fault
returns-in_err-position-clause-fault g c =
    let parts = g.L.LabelSet.parts in
    let set = g.S.Semiring.set in
    let p = position_of parts c.args.first.now in
    let whole = positions_of parts c.args.into ++ map (met set c.args.m p) (map (position_of parts) c.args.second.now) in
    let P = IsRowStep p (map (position_of parts) c.args.second.now) in
    let fault : IsFault set P (4000000 < moves_in whole) c.in_err-position.field-0.0 =
    passed_on set _ P ⊥ (4000000 < moves_in whole) (λ o h. (position_of parts c.other-item.result, read_at (position_of parts) c.args.second.now c.loop-other.other-index c.other-item.result c.loop-other-test.true c.other-item.is, h)) (λ x. absurd x) c.in_err-position.field-0.0 c.in_err-position.ensures.fault in
    search rules

pub returns-in_err-all-clause-fault : goal.returns-in_err-all-clause-fault
returns-in_err-all-clause-fault g c =
    let parts = g.L.LabelSet.parts in
    let set = g.S.Semiring.set in
    let p = position_of parts c.args.first.now in
    let whole = positions_of parts c.args.into ++ map (met set c.args.m p) (map (position_of parts) c.args.second.now) in
    let P = IsRowStep p (map (position_of parts) c.args.second.now) in
    let fault : IsFault set P (4000000 < moves_in whole) c.in_err-all.field-0.0 =
    passed_on set (λ _. ⊥) P _ (4000000 < moves_in whole) (λ o x. absurd x)
    (front_left (met set c.args.m p) (position_of parts) (positions_of parts c.loop-other.all) c.args.second.now c.loop-other.other-index c.other-item.result whole (position_of parts c.in_ok-position.position) c.loop-other-test.true c.other-item.is c.loop-other.invariant c.in_ok-position.ensures.position 4000000)
    c.in_err-all.field-0.0 c.in_err-all.ensures.fault in
    search rules

pub loop-other-preserved : goal.loop-other-preserved
loop-other-preserved g c =
    let parts = g.L.LabelSet.parts in
    let p = position_of parts c.args.first.now in
    makes_next (met g.S.Semiring.set c.args.m p) (position_of parts) (positions_of parts c.loop-other.all) (positions_of parts c.in_ok-all.all) c.args.second.now c.loop-other.other-index c.other-item.result _ c.loop-other-test.true c.other-item.is c.loop-other.invariant
    (c.in_ok-all.ensures.positions ∙ ap (λ q. positions_of parts c.loop-other.all ++ q ∷ []) c.in_ok-position.ensures.position)
