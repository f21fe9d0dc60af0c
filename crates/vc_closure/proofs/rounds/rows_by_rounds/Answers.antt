use Rattle.std.proofs.Common.{◌≡◌, ◌<◌, ◌≤◌, ◌∙◌, ◌+◌, ◌-◌, suc, ℕ, List, sym, ap, subst, arith, length}
use Rattle.std.specs.Global.{Vec}
use Rattle.vc_closure.specs.Closing.{matrix, next_entry}
use Rattle.vc_closure.specs.Rows.{AreJoined, AreRowsOf, entries_at, matrix_of, row_at}
use Rattle.vc_closure.specs.declared.rows.Entry.{Entry}
use Rattle.vc_closure.proofs.Causes.{told}
use Rattle.vc_closure.proofs.Matrices.{matrix_more, matrix_until, step_same}
use Rattle.vc_closure.proofs.Pairs.{matrix_joined}
use Rattle.vc_closure.proofs.rounds.rows_by_rounds.Goals as goal

pub next_rows-requires-clause-joined : goal.next_rows-requires-clause-joined
next_rows-requires-clause-joined g c =
    let R = g.S.Semiring.set in
    let L = g.met.S.Semiring.laws in
    let A = c.args.aut.now.automaton in
    let n = length c.args.aut.now.sets in
    let rows = c.loop-round.rows.items in
    let joined : AreJoined R n A (matrix R A (c.loop-round._round - 1)) = matrix_joined L g.S.Value.PartialEq.eq g.met.S.Semiring.same n A c.automata_are_valid.ensures.automaton (c.loop-round._round - 1) in
    subst (λ (vs : List (Vec (Entry g.row.S.Denot g.row.S-Value.Denot))). AreJoined R n A (matrix_of R vs)) (sym c.deref.ensures.value) (λ i t l m x. joined i t l m (λ z. x (c.loop-round.invariant.made i t l m ∙ z)))

pub returns-in-Err-clause-fault : goal.returns-in-Err-clause-fault
returns-in-Err-clause-fault g c =
    let R = g.S.Semiring.set in
    let L = g.met.S.Semiring.laws in
    let A = c.args.aut.now.automaton in
    let rows = c.loop-round.rows.items in
    let m = c.loop-round._round - 1 in
    let some : 1 ≤ c.loop-round._round = c.loop-round.invariant.some in
    let lt : c.loop-round._round < A.states = subst (λ k. c.loop-round._round < k) c.states-round-end.ensures c.loop-round-test.true in
    let within : suc m < A.states = omega arith in
    let made : (i t : ℕ) → i < A.states → t < A.states → matrix_of R c.deref.result.now i t ≡ matrix R A m i t =
    λ i t k l. ap (λ (vs : List (Vec (Entry g.row.S.Denot g.row.S-Value.Denot))). row_at R (entries_at vs i) t) c.deref.ensures.value ∙ c.loop-round.invariant.made i t k l in
    told R (λ o h f. (m, within, step_same L A (matrix_of R c.deref.result.now) (matrix R A m) made o h)) (λ l h. h) c.in-Err.fault c.in-Err.ensures.fault

pub returns-then-same_rows-clause-entries : goal.returns-then-same_rows-clause-entries
returns-then-same_rows-clause-entries g c =
    let R = g.S.Semiring.set in
    let L = g.met.S.Semiring.laws in
    let A = c.args.aut.now.automaton in
    let rows = c.loop-round.rows.items in
    let next = c.in-Ok-next_rows.next.items in
    let m = c.loop-round._round - 1 in
    let lt : c.loop-round._round < A.states = subst (λ k. c.loop-round._round < k) c.states-round-end.ensures c.loop-round-test.true in
    let within : c.loop-round._round - 1 ≤ A.states - 1 = omega arith in
    let law : AreRowsOf R A (next_entry R A (matrix_of R rows)) next = subst (λ (vs : List (Vec (Entry g.row.S.Denot g.row.S-Value.Denot))). AreRowsOf R A (next_entry R A (matrix_of R vs)) next) c.deref.ensures.value c.in-Ok-next_rows.ensures.entries in
    let more : AreRowsOf R A (matrix R A (suc m)) next = matrix_more L A rows next m c.loop-round.invariant.made law in
    let same : (s t : ℕ) → row_at R (entries_at rows s) t ≡ row_at R (entries_at next s) t = λ s t.
    ap (λ (vs : List (Vec (Entry g.row.S.Denot g.row.S-Value.Denot))). row_at R (entries_at vs s) t) (sym c.deref-in-loop-round.ensures.value) ∙ c.same_rows.ensures c.if-same_rows.true s t
    ∙ ap (λ (vs : List (Vec (Entry g.row.S.Denot g.row.S-Value.Denot))). row_at R (entries_at vs s) t) c.deref-in-loop-round-2.ensures.value in
    matrix_until L A rows m (A.states - 1) c.loop-round.invariant.made (λ s t i l. same s t ∙ more s t i l) within

pub loop-round-preserved : goal.loop-round-preserved
loop-round-preserved g c =
    let R = g.S.Semiring.set in
    let L = g.met.S.Semiring.laws in
    let A = c.args.aut.now.automaton in
    let rows = c.loop-round.rows.items in
    let next = c.in-Ok-next_rows.next.items in
    let m = c.loop-round._round - 1 in
    let law : AreRowsOf R A (next_entry R A (matrix_of R rows)) next = subst (λ (vs : List (Vec (Entry g.row.S.Denot g.row.S-Value.Denot))). AreRowsOf R A (next_entry R A (matrix_of R vs)) next) c.deref.ensures.value c.in-Ok-next_rows.ensures.entries in
    let more : AreRowsOf R A (matrix R A (suc m)) next = matrix_more L A rows next m c.loop-round.invariant.made law in
    let some : 1 ≤ c.loop-round._round = c.loop-round.invariant.some in
    let e : suc (c.loop-round._round - 1) ≡ c.loop-round._round + 1 - 1 = omega arith in
    record {
      rows = c.in-Ok-next_rows.ensures.rows;
      made = subst (λ k. AreRowsOf R A (matrix R A k) next) e more;
      some = omega arith;
    }
