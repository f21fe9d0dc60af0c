use Rattle.std.proofs.Common.{rules, ◌≡◌, ◌<◌, ◌∙◌, ap, subst, map, inl, inr}
use Rattle.vc_standard.specs.Automata.{states_of}
use Rattle.vc_standard.specs.Counts.{moves_in}
use Rattle.vc_standard.specs.Refusals.{IsFault}
use Rattle.vc_standard.specs.Shapes.{positions_of, shape_of}
use Rattle.vc_standard.specs.Steps.{IsMoveMultiple, IsStarStep}
use Rattle.vc_standard.specs.Stored.{items_of}
use Rattle.vc_standard.specs.Structures.{again, looped}
use Rattle.vc_terms.specs.ItemLists.{scaled_items}
use Rattle.vc_standard.proofs.Faults.{passed_on}
use Rattle.vc_standard.proofs.LoopLaws.{looped_parts, looped_fault}
use Rattle.vc_standard.proofs.looped.looped_shape.Goals as goal

pub returns-in_err-h-clause-fault : goal.returns-in_err-h-clause-fault
returns-in_err-h-clause-fault g c =
    let set = g.S.Semiring.set in
    let eq = g.S.Value.PartialEq.eq in
    let A = shape_of g.L.LabelSet.parts c.args.shape in
    let h = set.star c.args.shape.start.last in
    let large = 4000000 < moves_in (states_of (looped set eq h A)) in
    let fault : IsFault set (IsStarStep set eq h A) large c.in_err-h.field-0.0 = passed_on set _ (IsStarStep set eq h A) ⊥ large (λ o e. inl e) (λ x. absurd x) c.in_err-h.field-0.0 c.in_err-h.ensures.fault in
    search rules

pub returns-in_err-moves-clause-fault : goal.returns-in_err-moves-clause-fault
returns-in_err-moves-clause-fault g c =
    let set = g.S.Semiring.set in
    let eq = g.S.Value.PartialEq.eq in
    let A = shape_of g.L.LabelSet.parts c.args.shape in
    let h = set.star c.args.shape.start.last in
    let large = 4000000 < moves_in (states_of (looped set eq h A)) in
    let given = subst (λ k. IsFault set (IsMoveMultiple k A.start.moves) ⊥ c.in_err-moves.field-0.0) c.in_ok-h.ensures.value c.in_err-moves.ensures.fault in
    let fault : IsFault set (IsStarStep set eq h A) large c.in_err-moves.field-0.0 = passed_on set _ (IsStarStep set eq h A) ⊥ large (λ o e. inr (inl e)) (λ x. absurd x) c.in_err-moves.field-0.0 given in
    search rules

pub returns-in_err-positions-clause-fault : goal.returns-in_err-positions-clause-fault
returns-in_err-positions-clause-fault g c =
    let parts = g.L.LabelSet.parts in
    let set = g.S.Semiring.set in
    let eq = g.S.Value.PartialEq.eq in
    let A = shape_of parts c.args.shape in
    let h = set.star c.args.shape.start.last in
    let at : items_of parts c.deref.result.now ≡ items_of parts c.in_ok-moves.moves.items = search rules in
    let moves = at ∙ c.in_ok-moves.ensures.steps ∙ ap (λ k. scaled_items set k A.start.moves) c.in_ok-h.ensures.value in
    let fault : IsFault set (IsStarStep set eq h A) (4000000 < moves_in (states_of (looped set eq h A))) c.in_err-positions.field-0.0 =
    looped_fault set eq A c.in_ok-h.h h (items_of parts c.deref.result.now) c.in_ok-h.ensures.value moves 4000000 c.in_err-positions.field-0.0 c.in_err-positions.ensures.fault in
    search rules

pub returns-clause-shape : goal.returns-clause-shape
returns-clause-shape g c =
    let parts = g.L.LabelSet.parts in
    let set = g.S.Semiring.set in
    let eq = g.S.Value.PartialEq.eq in
    let A = shape_of parts c.args.shape in
    let h = set.star c.args.shape.start.last in
    let at : items_of parts c.deref.result.now ≡ items_of parts c.in_ok-moves.moves.items = search rules in
    let moves = c.in_ok-moves.ensures.steps ∙ ap (λ k. scaled_items set k A.start.moves) c.in_ok-h.ensures.value in
    looped_parts set eq A c.in_ok-h.h h (items_of parts c.in_ok-moves.moves.items) c.in_ok-h.ensures.value moves (positions_of parts c.in_ok-positions.positions)
    (subst (λ ms. positions_of parts c.in_ok-positions.positions ≡ map (again set eq ms c.in_ok-h.h) A.positions) at c.in_ok-positions.ensures.positions)
