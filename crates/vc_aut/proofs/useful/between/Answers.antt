use Rattle.std.proofs.Common.{◌<◌, ◌∷◌, [], ◌++◌, List, map, filter, take, sym, ap, ◌∙◌, subst}
use Rattle.std.specs.Option.{option_map}
use Rattle.std.proofs.lemmas.List.{map-append}
use Rattle.vc_aut.specs.Stored.{transition_of}
use Rattle.vc_model.specs.Automata.{Transition}
use Rattle.vc_model.specs.Trims.{is_between, placed}
use Rattle.vc_aut.proofs.Reached.{read_member, read_more}
use Rattle.vc_aut.proofs.Trimmed.{between_skip, between_take}
use Rattle.vc_aut.proofs.useful.between.Goals as goal

pub place-requires-clause-from : goal.place-requires-clause-from
place-requires-clause-from g c =
    let of = transition_of {L = g.row.L.Denot} {S = g.row.S.Denot} {V = g.row.S-Value.Denot} g.L.LabelSet.parts in
    let t = c.transition-item.result in
    subst (λ n. t.from < n) (sym c.requires.count) (c.automata_are_valid.ensures.automaton.from (of t) (read_member of c.transitions-transition-items.result.now c.args.aut.now.automaton.transitions c.transitions-transition-items.ensures c.loop-transition.transition-index t c.loop-transition-test.true c.transition-item.is))

pub place-requires-clause-to : goal.place-requires-clause-to
place-requires-clause-to g c =
    let of = transition_of {L = g.row.L.Denot} {S = g.row.S.Denot} {V = g.row.S-Value.Denot} g.L.LabelSet.parts in
    let t = c.transition-item.result in
    subst (λ n. t.to < n) (sym c.requires.count) (c.automata_are_valid.ensures.automaton.to (of t) (read_member of c.transitions-transition-items.result.now c.args.aut.now.automaton.transitions c.transitions-transition-items.ensures c.loop-transition.transition-index t c.loop-transition-test.true c.transition-item.is))

pub place-requires-clause-from_place : goal.place-requires-clause-from_place
place-requires-clause-from_place g c =
    let of = transition_of {L = g.row.L.Denot} {S = g.row.S.Denot} {V = g.row.S-Value.Denot} g.L.LabelSet.parts in
    let t = c.transition-item.result in
    c.requires.places t.from (c.automata_are_valid.ensures.automaton.from (of t) (read_member of c.transitions-transition-items.result.now c.args.aut.now.automaton.transitions c.transitions-transition-items.ensures c.loop-transition.transition-index t c.loop-transition-test.true c.transition-item.is))

pub place-requires-clause-to_place : goal.place-requires-clause-to_place
place-requires-clause-to_place g c =
    let of = transition_of {L = g.row.L.Denot} {S = g.row.S.Denot} {V = g.row.S-Value.Denot} g.L.LabelSet.parts in
    let t = c.transition-item.result in
    c.requires.places t.to (c.automata_are_valid.ensures.automaton.to (of t) (read_member of c.transitions-transition-items.result.now c.args.aut.now.automaton.transitions c.transitions-transition-items.ensures c.loop-transition.transition-index t c.loop-transition-test.true c.transition-item.is))

pub loop-transition-preserved-in_default : goal.loop-transition-preserved-in_default
loop-transition-preserved-in_default g c =
    let of = transition_of {L = g.row.L.Denot} {S = g.row.S.Denot} {V = g.row.S-Value.Denot} g.L.LabelSet.parts in
    let A = c.args.aut.now.automaton in
    let t = c.transition-item.result in
    let i = c.loop-transition.transition-index in
    let more = read_more of c.transitions-transition-items.result.now A.transitions c.transitions-transition-items.ensures i t c.loop-transition-test.true c.transition-item.is in
    c.loop-transition.invariant ∙ sym (ap (λ (ts : List (Transition g.row.S-Value.Denot)). map (placed c.args.kept.now.states.items) (filter (is_between c.args.kept.now.states.items) ts)) more
    ∙ between_skip c.args.kept.now.states.items (take i A.transitions) (of t) (sym c.in_ok-moved.ensures ∙ ap (option_map of) c.in_default.is))

pub loop-transition-preserved : goal.loop-transition-preserved
loop-transition-preserved g c =
    let of = transition_of {L = g.row.L.Denot} {S = g.row.S.Denot} {V = g.row.S-Value.Denot} g.L.LabelSet.parts in
    let A = c.args.aut.now.automaton in
    let t = c.transition-item.result in
    let i = c.loop-transition.transition-index in
    let more = read_more of c.transitions-transition-items.result.now A.transitions c.transitions-transition-items.ensures i t c.loop-transition-test.true c.transition-item.is in
    ap (map of) c.in_ok-push.ensures.items ∙ map-append of c.loop-transition.transitions.items (c.in-Some.moved ∷ []) ∙ ap (λ (ts : List (Transition g.row.S-Value.Denot)). ts ++ of c.in-Some.moved ∷ []) c.loop-transition.invariant
    ∙ sym (ap (λ (ts : List (Transition g.row.S-Value.Denot)). map (placed c.args.kept.now.states.items) (filter (is_between c.args.kept.now.states.items) ts)) more
    ∙ between_take c.args.kept.now.states.items (take i A.transitions) (of t) (of c.in-Some.moved) (sym c.in_ok-moved.ensures ∙ ap (option_map of) c.in-Some.is))
