use Rattle.std.proofs.Common.{rules, ◌≡◌, ◌<◌, ◌++◌, ◌∙◌, map, length, sym, subst}
use Rattle.std.proofs.lemmas.List.{length-map}
use Rattle.vc_standard.specs.Automata.{states_of}
use Rattle.vc_standard.specs.Counts.{moves_in}
use Rattle.vc_standard.specs.Refusals.{IsFault}
use Rattle.vc_standard.specs.Shapes.{shape_of}
use Rattle.vc_standard.specs.Steps.{IsSumStep}
use Rattle.vc_standard.specs.Stored.{position_of}
use Rattle.vc_standard.specs.Structures.{beside, moved_position, size_of}
use Rattle.vc_standard.proofs.CountLaws.{behind_start}
use Rattle.vc_standard.proofs.Faults.{passed_on, residual}
use Rattle.vc_standard.proofs.shapes.beside_shape.Goals as goal

pub returns-in_err-last-clause-fault : goal.returns-in_err-last-clause-fault
returns-in_err-last-clause-fault g c =
    let parts = g.L.LabelSet.parts in
    let set = g.S.Semiring.set in
    let A = shape_of parts c.args.first in
    let B = shape_of parts c.args.second in
    let large = 4000000 < moves_in (states_of (beside set A B)) in
    let fault : IsFault set (IsSumStep A B) large c.in_err-last.field-0.0 = passed_on set _ (IsSumStep A B) ⊥ large (λ o e. e) (λ x. absurd x) c.in_err-last.field-0.0 c.in_err-last.ensures.fault in
    residual _ c.in_err-last.field-0.0 (λ f. IsFault set (IsSumStep A B) large f) c.from_residual.ensures.1 fault

pub returns-in_err-positions-clause-fault : goal.returns-in_err-positions-clause-fault
returns-in_err-positions-clause-fault g c =
    let parts = g.L.LabelSet.parts in
    let set = g.S.Semiring.set in
    let A = shape_of parts c.args.first in
    let B = shape_of parts c.args.second in
    let count : c.len-n.result ≡ length c.args.first.positions.list.items = search rules in
    let n : c.len-n.result ≡ size_of A = count ∙ sym (length-map c.args.first.positions.list.items (position_of parts)) in
    let large = 4000000 < moves_in (states_of (beside set A B)) in
    let given = subst (λ m. IsFault set (λ _. ⊥) (4000000 < moves_in (A.positions ++ map (moved_position m) B.positions)) c.in_err-positions.field-0.0) n c.in_err-positions.ensures.fault in
    let fault : IsFault set (IsSumStep A B) large c.in_err-positions.field-0.0 =
    passed_on set (λ _. ⊥) (IsSumStep A B) _ large (λ o x. absurd x) (behind_start (beside set A B).start (beside set A B).positions 4000000) c.in_err-positions.field-0.0 given in
    residual _ c.in_err-positions.field-0.0 (λ f. IsFault set (IsSumStep A B) large f) c.from_residual-in_err-positions.ensures.1 fault
