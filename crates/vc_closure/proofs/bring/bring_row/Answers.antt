use Rattle.std.proofs.Common.{◌≡◌, ◌∙◌, ◌+◌, ◌∷◌, [], ◌++◌, List, length, map, take, refl, sym, ap, subst}
use Rattle.std.proofs.lemmas.List.{take_all, take_more}
use Rattle.std.proofs.lemmas.Option.{slice_get_read}
use Rattle.vc_aut.specs.Stored.{transition_of}
use Rattle.vc_closure.specs.Brought.{AreProducts, IsMore, entry_brought, moves_brought, row_brought}
use Rattle.vc_closure.specs.declared.rows.Entry.{Entry}
use Rattle.vc_closure.proofs.Bringing.{more_then, row_more}
use Rattle.vc_closure.proofs.Causes.{told}
use Rattle.vc_closure.proofs.Places.{member_at}
use Rattle.vc_closure.proofs.Walks.{moves_member}
use Rattle.vc_model.specs.Automata.{Transition}
use Rattle.vc_model.specs.Lists.{In}
use Rattle.vc_closure.proofs.bring.bring_row.Goals as goal

pub transitions_from-moves-requires : goal.transitions_from-moves-requires
transitions_from-moves-requires g c =
    let row = c.args.row.now in
    let e = c.entry-item.result in
    c.requires.row.inside e (member_at row c.loop-entry.entry-index e (slice_get_read row (length row) c.loop-entry.entry-index e refl c.loop-entry-test.true c.entry-item.is))

pub bring_moves-requires-clause-weight : goal.bring_moves-requires-clause-weight
bring_moves-requires-clause-weight g c =
    let row = c.args.row.now in
    let e = c.entry-item.result in
    c.requires.row.in_range e (member_at row c.loop-entry.entry-index e (slice_get_read row (length row) c.loop-entry.entry-index e refl c.loop-entry-test.true c.entry-item.is))

pub bring_moves-requires-clause-moves : goal.bring_moves-requires-clause-moves
bring_moves-requires-clause-moves g c t i =
    c.automata_are_valid.ensures.moves t (moves_member c.args.aut.now.automaton c.entry-item.result.state t (subst (λ (ts : List (Transition g.row.S-Value.Denot)). In t ts) c.transitions_from-moves.ensures i)).0

pub returns-in-Err-clause-fault : goal.returns-in-Err-clause-fault
returns-in-Err-clause-fault g c =
    let R = g.S.Semiring.set in
    let row = c.args.row.now in
    let e = c.entry-item.result in
    let member : In e row = member_at row c.loop-entry.entry-index e (slice_get_read row (length row) c.loop-entry.entry-index e refl c.loop-entry-test.true c.entry-item.is) in
    told R (λ o h f. (e, member, subst (λ (ts : List (Transition g.row.S-Value.Denot)). AreProducts R e.weight ts o) c.transitions_from-moves.ensures h)) (λ l h. h) c.in-Err.fault c.in-Err.ensures.fault

pub loop-entry-preserved : goal.loop-entry-preserved
loop-entry-preserved g c =
    let of = transition_of {L = g.row.L.Denot} {S = g.row.S.Denot} {V = g.row.S-Value.Denot} g.L.LabelSet.parts in
    let R = g.S.Semiring.set in
    let L = g.met.S.Semiring.laws in
    let A = c.args.aut.now.automaton in
    let s = c.args.state in
    let row = c.args.row.now in
    let i = c.loop-entry.entry-index in
    let e = c.entry-item.result in
    let t : take (i + 1) row ≡ take i row ++ e ∷ [] = take_more row i e c.loop-entry-test.true ∙ ap (λ (x : Entry g.row.S.Denot g.row.S-Value.Denot). take i row ++ x ∷ []) (sym c.entry-item.is) in
    let more : IsMore R c.args.aut.now.sets A.states (map of c.loop-entry.into.items) (map of c.bring_moves.new.into.items) (entry_brought R A s e) =
    subst (λ (ts : List (Transition g.row.S-Value.Denot)). IsMore R c.args.aut.now.sets A.states (map of c.loop-entry.into.items) (map of c.bring_moves.new.into.items) (moves_brought R s e.weight ts)) c.transitions_from-moves.ensures c.in_default.ensures.ok in
    more_then R c.args.aut.now.sets A.states (map of c.args.into.now.items) (map of c.loop-entry.into.items) (map of c.bring_moves.new.into.items)
    (row_brought R A s (take i row)) (entry_brought R A s e) (row_brought R A s (take (i + 1) row)) c.loop-entry.invariant more
    (ap (λ (xs : List (Entry g.row.S.Denot g.row.S-Value.Denot)). row_brought R A s xs) t ∙ row_more L A s (take i row) e)

pub returns-clause-ok : goal.returns-clause-ok
returns-clause-ok g c =
    let of = transition_of {L = g.row.L.Denot} {S = g.row.S.Denot} {V = g.row.S-Value.Denot} g.L.LabelSet.parts in
    let R = g.S.Semiring.set in
    let A = c.args.aut.now.automaton in
    let i = c.loop-entry.entry-index in
    subst (λ (xs : List (Entry g.row.S.Denot g.row.S-Value.Denot)). IsMore R c.args.aut.now.sets A.states (map of c.args.into.now.items) (map of c.loop-entry.into.items) (row_brought R A c.args.state xs)) (take_all i c.args.row.now c.loop-entry-test.false) c.loop-entry.invariant
