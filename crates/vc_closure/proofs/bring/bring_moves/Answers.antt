use Rattle.std.proofs.Common.{◌≡◌, ◌∙◌, ◌≤◌, ◌+◌, ◌∷◌, [], ◌++◌, List, inl, inr, map, take, refl, sym, ap, subst}
use Rattle.std.proofs.lemmas.List.{length-map, take_all}
use Rattle.vc_aut.specs.Stored.{transition_of}
use Rattle.vc_closure.specs.Brought.{IsMore, moves_brought}
use Rattle.vc_closure.proofs.Bringing.{more_then, moves_brought-append}
use Rattle.vc_closure.proofs.Causes.{told}
use Rattle.vc_closure.proofs.Places.{at_place, member_at, read_more}
use Rattle.vc_model.specs.Automata.{Transition}
use Rattle.vc_model.specs.Lists.{In}
use Rattle.vc_closure.proofs.bring.bring_moves.Goals as goal

pub bring_move-requires-clause-is_move : goal.bring_move-requires-clause-is_move
bring_move-requires-clause-is_move g c =
    let of = transition_of {L = g.row.L.Denot} {S = g.row.S.Denot} {V = g.row.S-Value.Denot} g.L.LabelSet.parts in
    let t = c.transition-item.result in
    c.requires.moves (of t) (member_at (map of c.args.moves.now) c.loop-transition.transition-index (of t) (at_place of c.args.moves.now (map of c.args.moves.now) c.loop-transition.transition-index t refl c.loop-transition-test.true c.transition-item.is))

pub returns-in-Err-clause-fault : goal.returns-in-Err-clause-fault
returns-in-Err-clause-fault g c =
    let of = transition_of {L = g.row.L.Denot} {S = g.row.S.Denot} {V = g.row.S-Value.Denot} g.L.LabelSet.parts in
    let t = c.transition-item.result in
    let ms = map of c.args.moves.now in
    let member : In (of t) ms = member_at ms c.loop-transition.transition-index (of t) (at_place of c.args.moves.now ms c.loop-transition.transition-index t refl c.loop-transition-test.true c.transition-item.is) in
    told g.S.Semiring.set (λ o h f. (h.0, elim h.1 [ inl e ↦ subst (λ (x : Transition g.row.S-Value.Denot). In x ms) (sym e) member | inr k ↦ absurd k ], h.2, h.3)) (λ l h. h) c.in-Err.fault c.in-Err.ensures.fault

pub loop-transition-preserved : goal.loop-transition-preserved
loop-transition-preserved g c =
    let of = transition_of {L = g.row.L.Denot} {S = g.row.S.Denot} {V = g.row.S-Value.Denot} g.L.LabelSet.parts in
    let R = g.S.Semiring.set in
    let i = c.loop-transition.transition-index in
    let t = c.transition-item.result in
    let ms = map of c.args.moves.now in
    let more : take (i + 1) ms ≡ take i ms ++ of t ∷ [] = read_more of c.args.moves.now i t c.loop-transition-test.true c.transition-item.is in
    more_then R c.args.aut.now.sets c.args.aut.now.automaton.states (map of c.args.into.now.items) (map of c.loop-transition.into.items) (map of c.bring_move.new.into.items)
    (moves_brought R c.args.state c.args.weight (take i ms)) (moves_brought R c.args.state c.args.weight (of t ∷ [])) (moves_brought R c.args.state c.args.weight (take (i + 1) ms))
    c.loop-transition.invariant c.in_default.ensures.ok (ap (moves_brought R c.args.state c.args.weight) more ∙ moves_brought-append R c.args.state c.args.weight (take i ms) (of t ∷ []))

pub returns-clause-ok : goal.returns-clause-ok
returns-clause-ok g c =
    let of = transition_of {L = g.row.L.Denot} {S = g.row.S.Denot} {V = g.row.S-Value.Denot} g.L.LabelSet.parts in
    let R = g.S.Semiring.set in
    let i = c.loop-transition.transition-index in
    let ms = map of c.args.moves.now in
    subst (λ (ts : List (Transition g.row.S-Value.Denot)). IsMore R c.args.aut.now.sets c.args.aut.now.automaton.states (map of c.args.into.now.items) (map of c.loop-transition.into.items) (moves_brought R c.args.state c.args.weight ts))
    (take_all i ms (subst (λ n. n ≤ i) (sym (length-map c.args.moves.now of)) c.loop-transition-test.false)) c.loop-transition.invariant
