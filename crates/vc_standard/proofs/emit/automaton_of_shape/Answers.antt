use Rattle.std.proofs.Common.{rules, ◌≡◌, ◌++◌, ◌∷◌, [], length, map, replicate, suc, ap, ap₂, sym, subst, ◌∙◌, arith, refl, List}
use Rattle.std.specs.Prelude.{IfOk}
use Rattle.std.proofs.lemmas.List.{length-map, length-replicate}
use Rattle.vc_aut.specs.Additions.{IsSumAnswer}
use Rattle.vc_aut.specs.Drafts.{without_zeros}
use Rattle.vc_aut.specs.Labelled.{Labelled}
use Rattle.vc_aut.specs.Stored.{automaton_of, transition_of}
use Rattle.vc_aut.specs.Sums.{insert_all}
use Rattle.vc_label.specs.Sets.{IsOverSets}
use Rattle.vc_model.specs.Automata.{Transition}
use Rattle.vc_standard.specs.Automata.{leaving, leaving_all, states_of}
use Rattle.vc_standard.specs.Shapes.{shape_of}
use Rattle.vc_standard.specs.Stored.{position_of}
use Rattle.vc_standard.specs.Structures.{size_of}
use Rattle.vc_standard.proofs.StateLaws.{few_start, few_positions, finals_of, are_moves}
use Rattle.vc_standard.proofs.emit.automaton_of_shape.Goals as goal

pub initial_weights-requires : goal.initial_weights-requires
initial_weights-requires g c =
    let parts = g.L.LabelSet.parts in
    let few = c.requires.few in
    let len = length-map c.args.shape.positions.list.items (position_of parts) in
    let count : c.len.result ≡ length c.args.shape.positions.list.items = search rules in
    omega (arith, few, len, count)

pub add_state-requires-clause-few : goal.add_state-requires-clause-few
add_state-requires-clause-few g c =
    let parts = g.L.LabelSet.parts in
    few_start (λ a. IsOverSets (g.L.LabelSet.sets c.args.labels) a) (shape_of parts c.args.shape) c.requires.few c.requires.within

pub add_states-requires-clause-number : goal.add_states-requires-clause-number
add_states-requires-clause-number g c =
    let parts = g.L.LabelSet.parts in
    let few = c.requires.few in
    let len = length-map c.args.shape.positions.list.items (position_of parts) in
    omega (arith, few, len)

pub add_states-requires-clause-few : goal.add_states-requires-clause-few
add_states-requires-clause-few g c =
    let parts = g.L.LabelSet.parts in
    few_positions (λ a. IsOverSets (g.L.LabelSet.sets c.args.labels) a) (shape_of parts c.args.shape) c.requires.few c.requires.within

pub from_transitions-requires-clause-states : goal.from_transitions-requires-clause-states
from_transitions-requires-clause-states g c =
    let parts = g.L.LabelSet.parts in
    let set = g.S.Semiring.set in
    let few = c.requires.few in
    let len = length-map c.args.shape.positions.list.items (position_of parts) in
    let count : c.len.result ≡ length c.args.shape.positions.list.items = search rules in
    let zeros = length-replicate c.len.result set.zero in
    let e : length c.in_ok-initial.initial.items ≡ suc (length (replicate c.len.result set.zero)) = ap length c.in_ok-initial.ensures.weights in
    omega (arith, few, len, count, zeros, e)

pub from_transitions-requires-clause-same_length : goal.from_transitions-requires-clause-same_length
from_transitions-requires-clause-same_length g c =
    let set = g.S.Semiring.set in
    let list = c.args.shape.positions.list.items in
    let count : c.len.result ≡ length list = search rules in
    let none : c.new-finals.result.items ≡ [] = search rules in
    let finals : c.add_states.new.finals.items ≡ c.args.shape.start.last ∷ map (λ p. p.last) list =
    c.in_ok-add_states.ensures.finals ∙ ap (λ vs. vs ++ map (λ p. p.last) list) (c.in_ok-add_state.ensures.finals ∙ ap (λ vs. vs ++ c.args.shape.start.last ∷ []) none) in
    let lasts = length-map list (λ p. p.last) in
    let zeros = length-replicate c.len.result set.zero in
    let e : length c.in_ok-initial.initial.items ≡ suc (length (replicate c.len.result set.zero)) = ap length c.in_ok-initial.ensures.weights in
    let f : length c.add_states.new.finals.items ≡ suc (length (map (λ p. p.last) list)) = ap length finals in
    omega (arith, count, lasts, zeros, e, f)

pub from_transitions-requires-clause-moves : goal.from_transitions-requires-clause-moves
from_transitions-requires-clause-moves g c =
    let parts = g.L.LabelSet.parts in
    let set = g.S.Semiring.set in
    let A = shape_of parts c.args.shape in
    let list = c.args.shape.positions.list.items in
    let count : c.len.result ≡ length list = search rules in
    let len = length-map list (position_of parts) in
    let zeros = length-replicate c.len.result set.zero in
    let e : length c.in_ok-initial.initial.items ≡ suc (length (replicate c.len.result set.zero)) = ap length c.in_ok-initial.ensures.weights in
    let n : length c.in_ok-initial.initial.items ≡ suc (size_of A) = omega (arith, count, len, zeros, e) in
    let none : c.new-transitions.result.items ≡ [] = search rules in
    let raw : map (transition_of parts) c.add_states.new.transitions.items ≡ leaving_all 0 (states_of A) =
    c.in_ok-add_states.ensures.transitions ∙ ap (λ ts. ts ++ leaving_all 1 A.positions) (c.in_ok-add_state.ensures.transitions ∙ ap (λ ts. map (transition_of parts) ts ++ leaving 0 A.start.moves) none) in
    are_moves set (g.L.LabelSet.sets c.args.labels) A (transition_of parts) (λ t. t.weight) (λ t. refl) c.add_states.new.transitions.items (length c.in_ok-initial.initial.items) n c.requires.within raw c.in_ok-add_states.ensures.weights

pub returns-clause-ok : goal.returns-clause-ok
returns-clause-ok g c =
    let parts = g.L.LabelSet.parts in
    let set = g.S.Semiring.set in
    let eq = g.S.Value.PartialEq.eq in
    let A = shape_of parts c.args.shape in
    let sets = g.L.LabelSet.sets c.args.labels in
    let list = c.args.shape.positions.list.items in
    let count : c.len.result ≡ length list = search rules in
    let n : c.len.result ≡ size_of A = count ∙ sym (length-map list (position_of parts)) in
    let no_finals : c.new-finals.result.items ≡ [] = search rules in
    let finals : c.add_states.new.finals.items ≡ map (λ p. p.final) (states_of A) =
    c.in_ok-add_states.ensures.finals ∙ ap (λ vs. vs ++ map (λ p. p.last) list) (c.in_ok-add_state.ensures.finals ∙ ap (λ vs. vs ++ c.args.shape.start.last ∷ []) no_finals)
    ∙ ap (λ (vs : List g.row.S-Value.Denot). c.args.shape.start.last ∷ vs) (finals_of (position_of parts) list) in
    let none : c.new-transitions.result.items ≡ [] = search rules in
    let raw : map (transition_of parts) c.add_states.new.transitions.items ≡ leaving_all 0 (states_of A) =
    c.in_ok-add_states.ensures.transitions ∙ ap (λ ts. ts ++ leaving_all 1 A.positions) (c.in_ok-add_state.ensures.transitions ∙ ap (λ ts. map (transition_of parts) ts ++ leaving 0 A.start.moves) none) in
    let initial : c.in_ok-initial.initial.items ≡ set.one ∷ replicate (size_of A) set.zero = c.in_ok-initial.ensures.weights ∙ ap (λ k. set.one ∷ replicate k set.zero) n in
    let made : List g.row.S-Value.Denot → List g.row.S-Value.Denot → List (Transition g.row.S-Value.Denot) → Labelled g.row.S-Value.Denot =
    λ is fs ts. record { sets = sets; automaton = automaton_of is fs (without_zeros set eq (insert_all set [] ts)) } in
    let whole = ap₂ (λ is fs. made is fs (map (transition_of parts) c.add_states.new.transitions.items)) initial finals ∙ ap (made (set.one ∷ replicate (size_of A) set.zero) (map (λ p. p.final) (states_of A))) raw in
    subst (λ m. IfOk c.from_transitions.result (λ a. a ≡ m)) whole c.from_transitions.ensures.ok

pub returns-clause-answer : goal.returns-clause-answer
returns-clause-answer g c =
    let parts = g.L.LabelSet.parts in
    let A = shape_of parts c.args.shape in
    let none : c.new-transitions.result.items ≡ [] = search rules in
    let raw : map (transition_of parts) c.add_states.new.transitions.items ≡ leaving_all 0 (states_of A) =
    c.in_ok-add_states.ensures.transitions ∙ ap (λ ts. ts ++ leaving_all 1 A.positions) (c.in_ok-add_state.ensures.transitions ∙ ap (λ ts. map (transition_of parts) ts ++ leaving 0 A.start.moves) none) in
    subst (λ ts. IsSumAnswer g.S.Semiring.set ts c.from_transitions.result) raw c.from_transitions.ensures.answer
