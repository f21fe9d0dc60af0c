use Rattle.std.proofs.Common.{rules, ◌≡◌, ◌+◌, ◌++◌, ◌∷◌, [], length, length-append, map, ap, sym, ◌∙◌, append_assoc}
use Rattle.std.proofs.lemmas.List.{map-append}
use Rattle.vc_aut.specs.Stored.{transition_of}
use Rattle.vc_standard.specs.Stored.{position_of}
use Rattle.vc_standard.specs.Within.{IsFew}
use Rattle.vc_standard.proofs.Faults.{between}
use Rattle.vc_standard.proofs.StateLaws.{all_at, leaving_next}
use Rattle.vc_standard.proofs.states.add_states.Goals as goal

pub add_state-requires-clause-few : goal.add_state-requires-clause-few
add_state-requires-clause-few g c =
    let parts = g.L.LabelSet.parts in
    let all : c.loop-position.yielded ++ c.in-Some.position ∷ c.next.new.self.rest.items ≡ c.args.positions.items = search rules in
    all_at IsFew (map (position_of parts) c.args.positions.items) (position_of parts c.in-Some.position) (between (position_of parts) c.loop-position.yielded c.in-Some.position c.next.new.self.rest.items c.args.positions.items all) c.requires.few

pub loop-position-preserved : goal.loop-position-preserved
loop-position-preserved g c =
    let parts = g.L.LabelSet.parts in
    let xs = c.loop-position.yielded in
    let x = c.in-Some.position in
    let more : length (xs ++ x ∷ []) ≡ length xs + 1 = length-append xs (x ∷ []) in
    let count : c.loop-position.number ≡ length xs = c.loop-position.invariant.number in
    let number : c.loop-position.number + 1 ≡ length xs + 1 = ap (λ n. n + 1) count in
    let all : xs ++ x ∷ c.next.new.self.rest.items ≡ c.args.positions.items = search rules in
    let split = append_assoc xs (x ∷ []) c.next.new.self.rest.items ∙ all in
    record {
      number = number ∙ sym more;
      finals = c.in_ok-add_state.ensures.finals ∙ ap (λ vs. vs ++ x.last ∷ []) c.loop-position.invariant.finals
          ∙ append_assoc c.args.finals.now.items (map (λ p. p.last) xs) (x.last ∷ []) ∙ ap (λ vs. c.args.finals.now.items ++ vs) (sym (map-append (λ p. p.last) xs (x ∷ [])));
      finals_in = c.in_ok-add_state.ensures.finals_in;
      made = leaving_next (position_of parts) xs x (c.loop-position.number + 1) (map (transition_of parts) c.args.transitions.now.items) (map (transition_of parts) c.loop-position.transitions.items) (map (transition_of parts) c.add_state.new.transitions.items) number c.loop-position.invariant.made c.in_ok-add_state.ensures.transitions;
      weights = c.in_ok-add_state.ensures.weights;
      split = split;
    }
