use Rattle.std.proofs.Common.{◌≡◌, ◌∙◌, List, length, true, cond, sym, ap, subst}
use Rattle.vc_closure.specs.Refused.{IsSumCause, NoLimit}
use Rattle.vc_closure.specs.Rows.{IsRow, IsRowStep, entries_at, row_at, sum_at}
use Rattle.vc_closure.specs.declared.rows.Entry.{Entry}
use Rattle.vc_closure.proofs.RowSums.{entries_at-read}
use Rattle.vc_model.specs.Words.{is_empty}
use Rattle.vc_closure.proofs.rows.add_move.Goals as goal

pub add_row-requires-clause-row : goal.add_row-requires-clause-row
add_row-requires-clause-row g c =
    let R = g.S.Semiring.set in
    let t = c.args.transition.now in
    let e : c.deref.result.now ≡ entries_at c.args.rows.now t.to = c.deref.ensures.value ∙ ap (λ v. v.items) c.index-rows-transition.is ∙ entries_at-read c.args.rows.now t.to c.index-rows-transition.result c.requires.to in
    subst (λ n. IsRow R n c.deref.result.now) (sym c.requires.sums.count) (subst (λ (row : List (Entry g.row.S.Denot g.row.S-Value.Denot)). IsRow R (length c.args.rows.now) row) (sym e) (c.requires.rows.each t.to))

pub returns-clause-added : goal.returns-clause-added
returns-clause-added g c q =
    let R = g.S.Semiring.set in
    let t = c.args.transition.now in
    let e : c.deref.result.now ≡ entries_at c.args.rows.now t.to = c.deref.ensures.value ∙ ap (λ v. v.items) c.index-rows-transition.is ∙ entries_at-read c.args.rows.now t.to c.index-rows-transition.result c.requires.to in
    let z : is_empty (g.L.LabelSet.parts t.label) ≡ true = sym c.is_empty.ensures ∙ c.if-not-is_empty.false in
    c.in_default.ensures.added q
    ∙ ap (λ (row : List (Entry g.row.S.Denot g.row.S-Value.Denot)). R.plus (sum_at R c.args.sums.now.sums.items q) (R.times t.weight (row_at R row q))) e
    ∙ ap (λ b. R.plus (sum_at R c.args.sums.now.sums.items q) (cond b (R.times t.weight (row_at R (entries_at c.args.rows.now t.to) q)) R.zero)) (sym z)

pub returns-in-Err-clause-fault : goal.returns-in-Err-clause-fault
returns-in-Err-clause-fault g c =
    let R = g.S.Semiring.set in
    let t = c.args.transition.now in
    let e : c.deref.result.now ≡ entries_at c.args.rows.now t.to = c.deref.ensures.value ∙ ap (λ v. v.items) c.index-rows-transition.is ∙ entries_at-read c.args.rows.now t.to c.index-rows-transition.result c.requires.to in
    subst (λ (row : List (Entry g.row.S.Denot g.row.S-Value.Denot)). IsSumCause R (IsRowStep R (sum_at R c.args.sums.now.sums.items) t.weight row) NoLimit c.in-Err.fault) e c.in-Err.ensures.fault
