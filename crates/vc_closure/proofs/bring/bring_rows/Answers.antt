use Rattle.std.proofs.Common.{◌≡◌, ◌∙◌, ◌<◌, ◌+◌, List, map, sym, ap, subst}
use Rattle.vc_aut.specs.Stored.{transition_of}
use Rattle.vc_closure.specs.Brought.{IsMore, IsProduct, row_brought, rows_brought}
use Rattle.vc_closure.specs.Rows.{IsRow, entries_at}
use Rattle.vc_closure.specs.declared.rows.Entry.{Entry}
use Rattle.vc_closure.proofs.Bringing.{more_then, rows_more}
use Rattle.vc_closure.proofs.Causes.{told}
use Rattle.vc_closure.proofs.RowSums.{entries_at-read}
use Rattle.vc_closure.proofs.bring.bring_rows.Goals as goal

pub bring_row-requires-clause-row : goal.bring_row-requires-clause-row
bring_row-requires-clause-row g c =
    let R = g.S.Semiring.set in
    let rows = c.args.rows.now in
    let s = c.loop-state.state in
    let k : s < c.args.aut.now.automaton.states = subst (λ n. s < n) c.states-state-end.ensures c.loop-state-test.true in
    let e : c.deref.result.now ≡ entries_at rows s = c.deref.ensures.value ∙ ap (λ v. v.items) c.index-rows-state.is ∙ entries_at-read rows s c.index-rows-state.result (subst (λ k. s < k) (sym c.requires.count) k) in
    subst (λ (xs : List (Entry g.row.S.Denot g.row.S-Value.Denot)). IsRow R c.args.aut.now.automaton.states xs) (sym e) (c.requires.each s)

pub returns-in-Err-clause-fault : goal.returns-in-Err-clause-fault
returns-in-Err-clause-fault g c =
    let R = g.S.Semiring.set in
    let A = c.args.aut.now.automaton in
    let rows = c.args.rows.now in
    let s = c.loop-state.state in
    let k : s < A.states = subst (λ n. s < n) c.states-state-end.ensures c.loop-state-test.true in
    let e : c.deref.result.now ≡ entries_at rows s = c.deref.ensures.value ∙ ap (λ v. v.items) c.index-rows-state.is ∙ entries_at-read rows s c.index-rows-state.result (subst (λ k. s < k) (sym c.requires.count) k) in
    told R (λ o h f. (s, k, subst (λ (xs : List (Entry g.row.S.Denot g.row.S-Value.Denot)). IsProduct R A xs o) e h)) (λ l h. h) c.in-Err.fault c.in-Err.ensures.fault

pub loop-state-preserved : goal.loop-state-preserved
loop-state-preserved g c =
    let of = transition_of {L = g.row.L.Denot} {S = g.row.S.Denot} {V = g.row.S-Value.Denot} g.L.LabelSet.parts in
    let R = g.S.Semiring.set in
    let L = g.met.S.Semiring.laws in
    let A = c.args.aut.now.automaton in
    let rows = c.args.rows.now in
    let s = c.loop-state.state in
    let k : s < A.states = subst (λ n. s < n) c.states-state-end.ensures c.loop-state-test.true in
    let e : c.deref.result.now ≡ entries_at rows s = c.deref.ensures.value ∙ ap (λ v. v.items) c.index-rows-state.is ∙ entries_at-read rows s c.index-rows-state.result (subst (λ k. s < k) (sym c.requires.count) k) in
    let more : IsMore R c.args.aut.now.sets A.states (map of c.loop-state.into.items) (map of c.bring_row.new.into.items) (row_brought R A s (entries_at rows s)) =
    subst (λ (xs : List (Entry g.row.S.Denot g.row.S-Value.Denot)). IsMore R c.args.aut.now.sets A.states (map of c.loop-state.into.items) (map of c.bring_row.new.into.items) (row_brought R A s xs)) e c.in_default.ensures.ok in
    more_then R c.args.aut.now.sets A.states (map of c.args.into.now.items) (map of c.loop-state.into.items) (map of c.bring_row.new.into.items)
    (rows_brought R A rows s) (row_brought R A s (entries_at rows s)) (rows_brought R A rows (s + 1)) c.loop-state.invariant more (rows_more L A rows s)
