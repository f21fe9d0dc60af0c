use Rattle.std.proofs.Common.{rules, ◌≡◌, ◌++◌, ◌∷◌, [], ◌<◌, ◌∙◌, ap, ap₂, sym, subst, map, length, inl, inr, ℕ, append_assoc, refl}
use Rattle.std.proofs.lemmas.List.{length-map}
use Rattle.vc_standard.specs.Automata.{states_of}
use Rattle.vc_standard.specs.Counts.{moves_in}
use Rattle.vc_standard.specs.Refusals.{IsFault}
use Rattle.vc_standard.specs.Shapes.{positions_of, shape_of}
use Rattle.vc_standard.specs.Steps.{IsMixStep, IsMixRowStep}
use Rattle.vc_standard.specs.Stored.{position_of}
use Rattle.vc_standard.specs.Structures.{mixed, mixed_row, size_of}
use Rattle.vc_standard.proofs.CountLaws.{moves-front}
use Rattle.vc_standard.proofs.Faults.{passed_on, residual}
use Rattle.vc_standard.proofs.shuffled.add_full_row.Goals as goal

pub returns-in_err-position-clause-fault : goal.returns-in_err-position-clause-fault
returns-in_err-position-clause-fault g c =
    let parts = g.L.LabelSet.parts in
    let set = g.S.Semiring.set in
    let p = position_of parts c.args.first.now in
    let B = shape_of parts c.args.second.now in
    let others : c.as_slice-others.result.now ≡ c.args.second.now.positions.list.items = search rules in
    let count : length c.as_slice-others.result.now ≡ length c.as_slice-others.result.now = refl in
    let m : (length c.as_slice-others.result.now) ≡ size_of B = count ∙ ap length others ∙ sym (length-map c.args.second.now.positions.list.items (position_of parts)) in
    let P = IsMixRowStep set (size_of B) c.args.i 0 p (states_of B) in
    let large = 4000000 < moves_in (positions_of parts c.args.into ++ mixed_row set (size_of B) c.args.i 0 p (states_of B)) in
    let given = subst (λ n. IsFault set (IsMixStep set n c.args.i 0 p B.start) ⊥ c.in_err-position.field-0.0) m c.in_err-position.ensures.fault in
    let fault : IsFault set P large c.in_err-position.field-0.0 = passed_on set _ P ⊥ large (λ o e. inl e) (λ x. absurd x) c.in_err-position.field-0.0 given in
    residual _ c.in_err-position.field-0.0 (λ f. IsFault set P large f) c.from_residual.ensures.1 fault

pub returns-in_err-all-clause-fault : goal.returns-in_err-all-clause-fault
returns-in_err-all-clause-fault g c =
    let parts = g.L.LabelSet.parts in
    let set = g.S.Semiring.set in
    let p = position_of parts c.args.first.now in
    let B = shape_of parts c.args.second.now in
    let others : c.as_slice-others.result.now ≡ c.args.second.now.positions.list.items = search rules in
    let count : length c.as_slice-others.result.now ≡ length c.as_slice-others.result.now = refl in
    let m : (length c.as_slice-others.result.now) ≡ size_of B = count ∙ ap length others ∙ sym (length-map c.args.second.now.positions.list.items (position_of parts)) in
    let P = IsMixRowStep set (size_of B) c.args.i 0 p (states_of B) in
    let large = 4000000 < moves_in (positions_of parts c.args.into ++ mixed_row set (size_of B) c.args.i 0 p (states_of B)) in
    let at : position_of parts c.in_ok-position.position ≡ mixed set (size_of B) c.args.i 0 p B.start = c.in_ok-position.ensures.position ∙ ap (λ n. mixed set n c.args.i 0 p B.start) m in
    let fault : IsFault set P large c.in_err-all.field-0.0 =
    passed_on set (λ _. ⊥) P (4000000 < moves_in (positions_of parts c.args.into ++ position_of parts c.in_ok-position.position ∷ [])) large (λ o x. absurd x)
    (λ h. moves-front (positions_of parts c.args.into) (mixed set (size_of B) c.args.i 0 p B.start) (mixed_row set (size_of B) c.args.i 1 p B.positions) 4000000 (subst (λ z. 4000000 < moves_in (positions_of parts c.args.into ++ z ∷ [])) at h))
    c.in_err-all.field-0.0 c.in_err-all.ensures.fault in
    residual _ c.in_err-all.field-0.0 (λ f. IsFault set P large f) c.from_residual-in_err-all.ensures.1 fault

pub returns-in_err-row-clause-fault : goal.returns-in_err-row-clause-fault
returns-in_err-row-clause-fault g c =
    let parts = g.L.LabelSet.parts in
    let set = g.S.Semiring.set in
    let p = position_of parts c.args.first.now in
    let B = shape_of parts c.args.second.now in
    let others : c.as_slice-others.result.now ≡ c.args.second.now.positions.list.items = search rules in
    let count : length c.as_slice-others.result.now ≡ length c.as_slice-others.result.now = refl in
    let m : (length c.as_slice-others.result.now) ≡ size_of B = count ∙ ap length others ∙ sym (length-map c.args.second.now.positions.list.items (position_of parts)) in
    let P = IsMixRowStep set (size_of B) c.args.i 0 p (states_of B) in
    let into = positions_of parts c.args.into in
    let large = 4000000 < moves_in (into ++ mixed_row set (size_of B) c.args.i 0 p (states_of B)) in
    let first = mixed set (size_of B) c.args.i 0 p B.start in
    let all : positions_of parts c.in_ok-all.all ≡ into ++ first ∷ [] = c.in_ok-all.ensures.positions ∙ ap (λ z. into ++ z ∷ []) (c.in_ok-position.ensures.position ∙ ap (λ n. mixed set n c.args.i 0 p B.start) m) in
    let given = subst (λ n. IsFault set (IsMixRowStep set n c.args.i 1 p (map (position_of parts) c.as_slice-others.result.now)) (4000000 < moves_in (positions_of parts c.in_ok-all.all ++ mixed_row set n c.args.i 1 p (map (position_of parts) c.as_slice-others.result.now))) c.in_err-row.field-0.0) m c.in_err-row.ensures.fault in
    let then = subst (λ qs. IsFault set (IsMixRowStep set (size_of B) c.args.i 1 p (map (position_of parts) qs)) (4000000 < moves_in (positions_of parts c.in_ok-all.all ++ mixed_row set (size_of B) c.args.i 1 p (map (position_of parts) qs))) c.in_err-row.field-0.0) others given in
    let fault : IsFault set P large c.in_err-row.field-0.0 =
    passed_on set _ P _ large (λ o e. inr e)
    (λ (h : 4000000 < moves_in (positions_of parts c.in_ok-all.all ++ mixed_row set (size_of B) c.args.i 1 p B.positions)). subst (λ qs. 4000000 < moves_in qs) (append_assoc into (first ∷ []) (mixed_row set (size_of B) c.args.i 1 p B.positions)) (subst (λ qs. 4000000 < moves_in (qs ++ mixed_row set (size_of B) c.args.i 1 p B.positions)) all h)) c.in_err-row.field-0.0 then in
    residual _ c.in_err-row.field-0.0 (λ f. IsFault set P large f) c.from_residual-in_err-row.ensures.1 fault

pub returns-clause-positions : goal.returns-clause-positions
returns-clause-positions g c =
    let parts = g.L.LabelSet.parts in
    let set = g.S.Semiring.set in
    let p = position_of parts c.args.first.now in
    let B = shape_of parts c.args.second.now in
    let others : c.as_slice-others.result.now ≡ c.args.second.now.positions.list.items = search rules in
    let count : length c.as_slice-others.result.now ≡ length c.as_slice-others.result.now = refl in
    let m : (length c.as_slice-others.result.now) ≡ size_of B = count ∙ ap length others ∙ sym (length-map c.args.second.now.positions.list.items (position_of parts)) in
    let into = positions_of parts c.args.into in
    let first = mixed set (size_of B) c.args.i 0 p B.start in
    let all : positions_of parts c.in_ok-all.all ≡ into ++ first ∷ [] = c.in_ok-all.ensures.positions ∙ ap (λ z. into ++ z ∷ []) (c.in_ok-position.ensures.position ∙ ap (λ n. mixed set n c.args.i 0 p B.start) m) in
    c.in_ok-row.ensures.positions
    ∙ ap₂ (λ (n : ℕ) qs. positions_of parts c.in_ok-all.all ++ mixed_row set n c.args.i 1 p (map (position_of parts) qs)) m others
    ∙ ap (λ qs. qs ++ mixed_row set (size_of B) c.args.i 1 p B.positions) all
    ∙ append_assoc into (first ∷ []) (mixed_row set (size_of B) c.args.i 1 p B.positions)
