use Rattle.std.proofs.Common.{◌≡◌, ◌++◌, ◌∷◌, [], ◌<◌, ◌+◌, ◌∙◌, ap, subst, map, arith}
use Rattle.vc_standard.specs.Counts.{moves_in}
use Rattle.vc_standard.specs.Refusals.{IsFault}
use Rattle.vc_standard.specs.Shapes.{positions_of}
use Rattle.vc_standard.specs.Steps.{IsMixRowStep}
use Rattle.vc_standard.specs.Stored.{position_of}
use Rattle.vc_standard.specs.Structures.{mixed_row}
use Rattle.vc_standard.proofs.Faults.{passed_on, residual}
use Rattle.vc_standard.proofs.MixLaws.{row_next, row_front, row_step_here, row_step_next}
use Rattle.vc_standard.proofs.shuffled.add_row.Goals as goal

pub loop-k-init : goal.loop-k-init
loop-k-init g c =
    let parts = g.L.LabelSet.parts in
    let set = g.S.Semiring.set in
    let p = position_of parts c.args.first.now in
    let none : c.args.j + 0 ≡ c.args.j = omega arith in
    record {
      made = ap (λ j. positions_of parts c.args.into ++ mixed_row set c.args.m c.args.i j p (map (position_of parts) c.args.second.now)) none;
      left = λ o h. subst (λ j. IsMixRowStep set c.args.m c.args.i j p (map (position_of parts) c.args.second.now) o) none h;
    }

pub returns-in_err-position-clause-fault : goal.returns-in_err-position-clause-fault
returns-in_err-position-clause-fault g c =
    let parts = g.L.LabelSet.parts in
    let set = g.S.Semiring.set in
    let p = position_of parts c.args.first.now in
    let P = IsMixRowStep set c.args.m c.args.i c.args.j p (map (position_of parts) c.args.second.now) in
    let large = 4000000 < moves_in (positions_of parts c.args.into ++ mixed_row set c.args.m c.args.i c.args.j p (map (position_of parts) c.args.second.now)) in
    let fault : IsFault set P large c.in_err-position.field-0.0 =
    passed_on set _ P ⊥ large
    (row_step_here set (position_of parts) c.args.m c.args.i c.args.j p c.args.second.now c.loop-k.k c.index-second-k.result c.loop-k-test.true c.index-second-k.is c.in_ok-number.number c.in_ok-number.ensures P c.loop-k.invariant.left) (λ x. absurd x) c.in_err-position.field-0.0 c.in_err-position.ensures.fault in
    residual _ c.in_err-position.field-0.0 (λ f. IsFault set P large f) c.from_residual-in_err-position.ensures.1 fault

pub returns-in_err-all-clause-fault : goal.returns-in_err-all-clause-fault
returns-in_err-all-clause-fault g c =
    let parts = g.L.LabelSet.parts in
    let set = g.S.Semiring.set in
    let p = position_of parts c.args.first.now in
    let P = IsMixRowStep set c.args.m c.args.i c.args.j p (map (position_of parts) c.args.second.now) in
    let large = 4000000 < moves_in (positions_of parts c.args.into ++ mixed_row set c.args.m c.args.i c.args.j p (map (position_of parts) c.args.second.now)) in
    let fault : IsFault set P large c.in_err-all.field-0.0 =
    passed_on set (λ _. ⊥) P _ large (λ o x. absurd x)
    (row_front set (position_of parts) c.args.m c.args.i c.args.j p c.args.second.now c.loop-k.k c.index-second-k.result c.loop-k-test.true c.index-second-k.is c.in_ok-number.number c.in_ok-number.ensures (positions_of parts c.loop-k.all) _ (position_of parts c.in_ok-position.position) c.loop-k.invariant.made c.in_ok-position.ensures.position 4000000)
    c.in_err-all.field-0.0 c.in_err-all.ensures.fault in
    residual _ c.in_err-all.field-0.0 (λ f. IsFault set P large f) c.from_residual-in_err-all.ensures.1 fault

pub loop-k-preserved : goal.loop-k-preserved
loop-k-preserved g c =
    let parts = g.L.LabelSet.parts in
    let set = g.S.Semiring.set in
    let p = position_of parts c.args.first.now in
    let P = IsMixRowStep set c.args.m c.args.i c.args.j p (map (position_of parts) c.args.second.now) in
    record {
      made = row_next set (position_of parts) c.args.m c.args.i c.args.j p c.args.second.now c.loop-k.k c.index-second-k.result c.loop-k-test.true c.index-second-k.is c.in_ok-number.number c.in_ok-number.ensures (positions_of parts c.loop-k.all) (positions_of parts c.in_ok-all.all) _ c.loop-k.invariant.made
          (c.in_ok-all.ensures.positions ∙ ap (λ q. positions_of parts c.loop-k.all ++ q ∷ []) c.in_ok-position.ensures.position);
      left = row_step_next set (position_of parts) c.args.m c.args.i c.args.j p c.args.second.now c.loop-k.k c.index-second-k.result c.loop-k-test.true c.index-second-k.is c.in_ok-number.number c.in_ok-number.ensures P c.loop-k.invariant.left;
    }
