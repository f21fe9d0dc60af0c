use Rattle.std.proofs.Common.{rules, ◌≡◌, ◌++◌, [], ◌<◌, ◌≤◌, ◌∙◌, ap, ap₂, sym, subst, map, length, drop, inl, inr, ℕ, ◌+◌, List, arith, append-nil, refl}
use Rattle.std.proofs.lemmas.List.{length-map}
use Rattle.vc_standard.specs.Automata.{states_of}
use Rattle.vc_standard.specs.Counts.{moves_in}
use Rattle.vc_standard.specs.Refusals.{IsFault}
use Rattle.vc_standard.specs.Shapes.{positions_of, shape_of}
use Rattle.vc_standard.specs.Steps.{IsMixStep, IsMixRowStep, IsMixRowsStep, IsShuffleStep}
use Rattle.vc_standard.specs.Stored.{position_of}
use Rattle.vc_standard.specs.Structures.{Position, mixed, mixed_row, mixed_rows, shuffled, size_of}
use Rattle.vc_standard.proofs.CountLaws.{moves-left}
use Rattle.vc_standard.proofs.Faults.{none_left, passed_on, residual}
use Rattle.vc_standard.proofs.MixLaws.{rows_next, rows_front, rows_step_here, rows_step_next}
use Rattle.vc_standard.proofs.shuffled.shuffled_shape.Goals as goal

pub returns-in_err-start-clause-fault : goal.returns-in_err-start-clause-fault
returns-in_err-start-clause-fault g c =
    let parts = g.L.LabelSet.parts in
    let set = g.S.Semiring.set in
    let A = shape_of parts c.args.first.now in
    let B = shape_of parts c.args.second.now in
    let others : c.as_slice-others.result.now ≡ c.args.second.now.positions.list.items = search rules in
    let count : length c.as_slice-others.result.now ≡ length c.as_slice-others.result.now = refl in
    let m : (length c.as_slice-others.result.now) ≡ size_of B = count ∙ ap length others ∙ sym (length-map c.args.second.now.positions.list.items (position_of parts)) in
    let large = 4000000 < moves_in (states_of (shuffled set A B)) in
    let given = subst (λ n. IsFault set (IsMixStep set n 0 0 A.start B.start) ⊥ c.in_err-start.field-0.0) m c.in_err-start.ensures.fault in
    let fault : IsFault set (IsShuffleStep set A B) large c.in_err-start.field-0.0 = passed_on set _ (IsShuffleStep set A B) ⊥ large (λ o e. inl e) (λ x. absurd x) c.in_err-start.field-0.0 given in
    residual _ c.in_err-start.field-0.0 (λ f. IsFault set (IsShuffleStep set A B) large f) c.from_residual.ensures.1 fault

pub returns-in_err-top-clause-fault : goal.returns-in_err-top-clause-fault
returns-in_err-top-clause-fault g c =
    let parts = g.L.LabelSet.parts in
    let set = g.S.Semiring.set in
    let A = shape_of parts c.args.first.now in
    let B = shape_of parts c.args.second.now in
    let others : c.as_slice-others.result.now ≡ c.args.second.now.positions.list.items = search rules in
    let count : length c.as_slice-others.result.now ≡ length c.as_slice-others.result.now = refl in
    let m : (length c.as_slice-others.result.now) ≡ size_of B = count ∙ ap length others ∙ sym (length-map c.args.second.now.positions.list.items (position_of parts)) in
    let large = 4000000 < moves_in (states_of (shuffled set A B)) in
    let given = subst (λ n. IsFault set (IsMixRowStep set n 0 1 A.start (map (position_of parts) c.as_slice-others.result.now)) (4000000 < moves_in (positions_of parts c.no_positions-none.result ++ mixed_row set n 0 1 A.start (map (position_of parts) c.as_slice-others.result.now))) c.in_err-top.field-0.0) m c.in_err-top.ensures.fault in
    let then = subst (λ qs. IsFault set (IsMixRowStep set (size_of B) 0 1 A.start (map (position_of parts) qs)) (4000000 < moves_in (positions_of parts c.no_positions-none.result ++ mixed_row set (size_of B) 0 1 A.start (map (position_of parts) qs))) c.in_err-top.field-0.0) others given in
    let last = subst (λ none. IsFault set (IsMixRowStep set (size_of B) 0 1 A.start B.positions) (4000000 < moves_in (none ++ mixed_row set (size_of B) 0 1 A.start B.positions)) c.in_err-top.field-0.0) c.no_positions-none.ensures then in
    let fault : IsFault set (IsShuffleStep set A B) large c.in_err-top.field-0.0 =
    passed_on set _ (IsShuffleStep set A B) _ large (λ o e. inr (inl e))
    (λ (h : 4000000 < moves_in (mixed_row set (size_of B) 0 1 A.start B.positions)). let l = moves-left (mixed_row set (size_of B) 0 1 A.start B.positions) (mixed_rows set (size_of B) 1 A.positions (states_of B)) 4000000 h in omega (arith, l)) c.in_err-top.field-0.0 last in
    residual _ c.in_err-top.field-0.0 (λ f. IsFault set (IsShuffleStep set A B) large f) c.from_residual-in_err-top.ensures.1 fault

pub loop-k-init : goal.loop-k-init
loop-k-init g c =
    let parts = g.L.LabelSet.parts in
    let set = g.S.Semiring.set in
    let A = shape_of parts c.args.first.now in
    let B = shape_of parts c.args.second.now in
    let rows : c.as_slice-rows.result.now ≡ c.args.first.now.positions.list.items = search rules in
    let others : c.as_slice-others.result.now ≡ c.args.second.now.positions.list.items = search rules in
    let count : length c.as_slice-others.result.now ≡ length c.as_slice-others.result.now = refl in
    let m : (length c.as_slice-others.result.now) ≡ size_of B = count ∙ ap length others ∙ sym (length-map c.args.second.now.positions.list.items (position_of parts)) in
    let top : positions_of parts c.in_ok-top.top ≡ mixed_row set (size_of B) 0 1 A.start B.positions =
    c.in_ok-top.ensures.positions ∙ ap (λ none. none ++ mixed_row set (length c.as_slice-others.result.now) 0 1 A.start (map (position_of parts) c.as_slice-others.result.now)) c.no_positions-none.ensures
    ∙ ap₂ (λ (n : ℕ) qs. mixed_row set n 0 1 A.start (map (position_of parts) qs)) m others in
    record {
      made = ap₂ (λ (ps : List (Position g.row.S-Value.Denot)) rs. ps ++ mixed_rows set (size_of B) 1 (map (position_of parts) rs) (states_of B)) top rows;
      left = λ o h. inr (inr (subst (λ rs. IsMixRowsStep set (size_of B) 1 (map (position_of parts) rs) (states_of B) o) rows h));
    }

pub returns-in_err-all-clause-fault : goal.returns-in_err-all-clause-fault
returns-in_err-all-clause-fault g c =
    let parts = g.L.LabelSet.parts in
    let set = g.S.Semiring.set in
    let A = shape_of parts c.args.first.now in
    let B = shape_of parts c.args.second.now in
    let large = 4000000 < moves_in (states_of (shuffled set A B)) in
    let fault : IsFault set (IsShuffleStep set A B) large c.in_err-all.field-0.0 =
    passed_on set _ (IsShuffleStep set A B) _ large
    (rows_step_here set (position_of parts) (size_of B) (states_of B) c.as_slice-rows.result.now c.loop-k.k c.index-rows-k.result c.loop-k-test.true c.index-rows-k.is c.in_ok-number.number c.in_ok-number.ensures (IsShuffleStep set A B) c.loop-k.invariant.left)
    (λ h. let l : 4000000 < moves_in (shuffled set A B).positions = rows_front set (position_of parts) (size_of B) (states_of B) c.as_slice-rows.result.now c.loop-k.k c.index-rows-k.result c.loop-k-test.true c.index-rows-k.is c.in_ok-number.number c.in_ok-number.ensures (positions_of parts c.loop-k.all) (shuffled set A B).positions c.loop-k.invariant.made 4000000 h in omega (arith, l))
    c.in_err-all.field-0.0 c.in_err-all.ensures.fault in
    residual _ c.in_err-all.field-0.0 (λ f. IsFault set (IsShuffleStep set A B) large f) c.from_residual-in_err-all.ensures.1 fault

pub loop-k-preserved : goal.loop-k-preserved
loop-k-preserved g c =
    let parts = g.L.LabelSet.parts in
    let set = g.S.Semiring.set in
    let A = shape_of parts c.args.first.now in
    let B = shape_of parts c.args.second.now in
    record {
      made = rows_next set (position_of parts) (size_of B) (states_of B) c.as_slice-rows.result.now c.loop-k.k c.index-rows-k.result c.loop-k-test.true c.index-rows-k.is c.in_ok-number.number c.in_ok-number.ensures (positions_of parts c.loop-k.all) (positions_of parts c.in_ok-all.all) (shuffled set A B).positions c.loop-k.invariant.made c.in_ok-all.ensures.positions;
      left = rows_step_next set (position_of parts) (size_of B) (states_of B) c.as_slice-rows.result.now c.loop-k.k c.index-rows-k.result c.loop-k-test.true c.index-rows-k.is c.in_ok-number.number c.in_ok-number.ensures (IsShuffleStep set A B) c.loop-k.invariant.left;
    }

pub returns-clause-shape : goal.returns-clause-shape
returns-clause-shape g c =
    let parts = g.L.LabelSet.parts in
    let set = g.S.Semiring.set in
    let A = shape_of parts c.args.first.now in
    let B = shape_of parts c.args.second.now in
    let others : c.as_slice-others.result.now ≡ c.args.second.now.positions.list.items = search rules in
    let count : length c.as_slice-others.result.now ≡ length c.as_slice-others.result.now = refl in
    let m : (length c.as_slice-others.result.now) ≡ size_of B = count ∙ ap length others ∙ sym (length-map c.args.second.now.positions.list.items (position_of parts)) in
    let done : length c.as_slice-rows.result.now ≤ c.loop-k.k = search rules in
    let rest : drop c.loop-k.k c.as_slice-rows.result.now ≡ [] = none_left c.as_slice-rows.result.now c.loop-k.k done in
    let all : positions_of parts c.loop-k.all ≡ (shuffled set A B).positions =
    sym (append-nil _) ∙ ap (λ rs. positions_of parts c.loop-k.all ++ mixed_rows set (size_of B) (1 + c.loop-k.k) (map (position_of parts) rs) (states_of B)) (sym rest) ∙ c.loop-k.invariant.made in
    ap₂ (λ (s : Position g.row.S-Value.Denot) (ps : List (Position g.row.S-Value.Denot)). record { start = s; positions = ps }) (c.in_ok-start.ensures.position ∙ ap (λ n. mixed set n 0 0 A.start B.start) m) all
