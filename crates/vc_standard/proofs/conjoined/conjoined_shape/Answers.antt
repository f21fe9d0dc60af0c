use Rattle.std.proofs.Common.{rules, ◌≡◌, ◌++◌, ◌<◌, ◌≤◌, ◌∙◌, ap, ap₂, sym, subst, map, length, [], drop, append-nil, refl, inl, inr}
use Rattle.std.specs.List.{flat_map}
use Rattle.vc_standard.specs.Automata.{states_of}
use Rattle.vc_standard.specs.Counts.{moves_in}
use Rattle.vc_standard.specs.Refusals.{IsFault}
use Rattle.vc_standard.specs.Shapes.{positions_of, shape_of}
use Rattle.vc_standard.specs.Steps.{IsBothStep}
use Rattle.vc_standard.specs.Stored.{position_of}
use Rattle.vc_standard.specs.Structures.{conjoined, met}
use Rattle.vc_standard.proofs.Faults.{none_left, passed_on, read_at}
use Rattle.vc_standard.proofs.MeetLaws.{brings_next, front_brought, conjoined_parts, conjoined_large}
use Rattle.vc_standard.proofs.conjoined.conjoined_shape.Goals as goal

pub returns-in_err-start-clause-fault : goal.returns-in_err-start-clause-fault
returns-in_err-start-clause-fault g c =
    let parts = g.L.LabelSet.parts in
    let set = g.S.Semiring.set in
    let A = shape_of parts c.args.first.now in
    let B = shape_of parts c.args.second.now in
    let large = 4000000 < moves_in (states_of (conjoined set A B)) in
    let fault : IsFault set (IsBothStep A B) large c.in_err-start.field-0.0 = passed_on set _ (IsBothStep A B) ⊥ large (λ o e. inl e) (λ x. absurd x) c.in_err-start.field-0.0 c.in_err-start.ensures.fault in
    search rules

pub returns-in_err-positions-clause-fault : goal.returns-in_err-positions-clause-fault
returns-in_err-positions-clause-fault g c =
    let parts = g.L.LabelSet.parts in
    let set = g.S.Semiring.set in
    let A = shape_of parts c.args.first.now in
    let B = shape_of parts c.args.second.now in
    let rows : c.as_slice-rows.result.now ≡ c.args.first.now.positions.list.items = search rules in
    let columns : c.as_slice-columns.result.now ≡ c.args.second.now.positions.list.items = search rules in
    let m : length c.as_slice-columns.result.now ≡ length c.as_slice-columns.result.now = refl in
    let fault : IsFault set (IsBothStep A B) (4000000 < moves_in (states_of (conjoined set A B))) c.in_err-positions.field-0.0 =
    subst (λ rs. IsFault set (IsBothStep (record { start = A.start; positions = map (position_of parts) rs }) B) (4000000 < moves_in (states_of (conjoined set (record { start = A.start; positions = map (position_of parts) rs }) B))) c.in_err-positions.field-0.0) rows
    (subst (λ cs. IsFault set (IsBothStep (record { start = A.start; positions = map (position_of parts) c.as_slice-rows.result.now }) (record { start = B.start; positions = map (position_of parts) cs })) (4000000 < moves_in (states_of (conjoined set (record { start = A.start; positions = map (position_of parts) c.as_slice-rows.result.now }) (record { start = B.start; positions = map (position_of parts) cs })))) c.in_err-positions.field-0.0) columns
    (passed_on set _ (IsBothStep (record { start = A.start; positions = map (position_of parts) c.as_slice-rows.result.now }) (record { start = B.start; positions = map (position_of parts) c.as_slice-columns.result.now })) _ _
    (λ o h. inr (position_of parts c.position-item.result, read_at (position_of parts) c.as_slice-rows.result.now c.loop-position.position-index c.position-item.result c.loop-position-test.true c.position-item.is, h))
    (λ h. conjoined_large set (position_of parts) A.start B.start c.as_slice-rows.result.now c.as_slice-columns.result.now (length c.as_slice-columns.result.now) m 4000000
    (front_brought (λ p. map (met set (length c.as_slice-columns.result.now) p) (map (position_of parts) c.as_slice-columns.result.now)) (position_of parts) (positions_of parts c.loop-position.positions) c.as_slice-rows.result.now c.loop-position.position-index c.position-item.result _ c.loop-position-test.true c.position-item.is c.loop-position.invariant 4000000 h))
    c.in_err-positions.field-0.0 c.in_err-positions.ensures.fault)) in
    search rules

pub loop-position-preserved : goal.loop-position-preserved
loop-position-preserved g c =
    let parts = g.L.LabelSet.parts in
    brings_next (λ p. map (met g.S.Semiring.set (length c.as_slice-columns.result.now) p) (map (position_of parts) c.as_slice-columns.result.now)) (position_of parts) (positions_of parts c.loop-position.positions) (positions_of parts c.in_ok-positions.positions) c.as_slice-rows.result.now c.loop-position.position-index c.position-item.result _ c.loop-position-test.true c.position-item.is c.loop-position.invariant c.in_ok-positions.ensures.positions

pub returns-clause-shape : goal.returns-clause-shape
returns-clause-shape g c =
    let parts = g.L.LabelSet.parts in
    let set = g.S.Semiring.set in
    let A = shape_of parts c.args.first.now in
    let B = shape_of parts c.args.second.now in
    let rows : c.as_slice-rows.result.now ≡ c.args.first.now.positions.list.items = search rules in
    let columns : c.as_slice-columns.result.now ≡ c.args.second.now.positions.list.items = search rules in
    let m : length c.as_slice-columns.result.now ≡ length c.as_slice-columns.result.now = refl in
    let done : length c.as_slice-rows.result.now ≤ c.loop-position.position-index = search rules in
    let rest : drop c.loop-position.position-index c.as_slice-rows.result.now ≡ [] = none_left c.as_slice-rows.result.now c.loop-position.position-index done in
    let all : positions_of parts c.loop-position.positions ≡ flat_map (λ p. map (met set (length c.as_slice-columns.result.now) p) (map (position_of parts) c.as_slice-columns.result.now)) (map (position_of parts) c.as_slice-rows.result.now) =
    sym (append-nil _) ∙ ap (λ rs. positions_of parts c.loop-position.positions ++ flat_map (λ p. map (met set (length c.as_slice-columns.result.now) p) (map (position_of parts) c.as_slice-columns.result.now)) (map (position_of parts) rs)) (sym rest) ∙ c.loop-position.invariant in
    conjoined_parts set (position_of parts) A.start B.start c.as_slice-rows.result.now c.as_slice-columns.result.now (length c.as_slice-columns.result.now) m (position_of parts c.in_ok-start.start) (positions_of parts c.loop-position.positions) c.in_ok-start.ensures.position all
    ∙ ap₂ (λ rs cs. conjoined set (record { start = A.start; positions = map (position_of parts) rs }) (record { start = B.start; positions = map (position_of parts) cs })) rows columns
