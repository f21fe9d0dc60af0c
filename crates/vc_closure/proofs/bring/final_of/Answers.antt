use Rattle.std.proofs.Common.{◌≡◌, ◌+◌, ◌∷◌, [], ◌++◌, List, drop, inl, inr, length, suc, take, true, refl, sym, ap, ap₂, ◌∙◌, subst}
use Rattle.std.proofs.lemmas.List.{take_all, take_more}
use Rattle.std.proofs.lemmas.Option.{slice_get_read}
use Rattle.vc_closure.specs.Brought.{row_final}
use Rattle.vc_closure.specs.declared.rows.Entry.{Entry}
use Rattle.vc_closure.proofs.Bringing.{entry_more}
use Rattle.vc_closure.proofs.Places.{member_at, split_read}
use Rattle.vc_closure.proofs.RowSums.{add_err, add_ok, mul_err, mul_ok}
use Rattle.vc_ring.specs.declared.faults.Overflow.TheVariants.{Add, Mul}
use Rattle.vc_closure.proofs.bring.final_of.Goals as goal

pub final_weight-requires : goal.final_weight-requires
final_weight-requires g c =
    let row = c.args.row.now in
    let e = c.entry-item.result in
    c.requires.inside e (member_at row c.loop-entry.entry-index e (slice_get_read row (length row) c.loop-entry.entry-index e refl c.loop-entry-test.true c.entry-item.is))

pub mul-requires-clause-left_in : goal.mul-requires-clause-left_in
mul-requires-clause-left_in g c =
    let row = c.args.row.now in
    let e = c.entry-item.result in
    c.requires.in_range e (member_at row c.loop-entry.entry-index e (slice_get_read row (length row) c.loop-entry.entry-index e refl c.loop-entry-test.true c.entry-item.is))

pub add-requires-clause-right_in : goal.add-requires-clause-right_in
add-requires-clause-right_in g c =
    let R = g.S.Semiring.set in
    let row = c.args.row.now in
    let e = c.entry-item.result in
    let i = c.requires.in_range e (member_at row c.loop-entry.entry-index e (slice_get_read row (length row) c.loop-entry.entry-index e refl c.loop-entry-test.true c.entry-item.is)) in
    let m = mul_ok R e.weight c.final_weight.result c.in-Ok.product c.in-Ok.ensures in
    subst (λ v. R.in_range v ≡ true) (sym m.0) (g.met.S.Semiring.ranges.times_in e.weight c.final_weight.result i c.final_weight.ensures.in_range m.1)

pub returns-in-Err-clause-fault : goal.returns-in-Err-clause-fault
returns-in-Err-clause-fault g c =
    let R = g.S.Semiring.set in
    let row = c.args.row.now in
    let i = c.loop-entry.entry-index in
    let e = c.entry-item.result in
    let m = mul_err R e.weight c.final_weight.result c.in-Err.overflow c.in-Err.ensures in (
      record {
        before = take i row;
        entry = e;
        after = drop (suc i) row;
        is = split_read row i e c.loop-entry-test.true c.entry-item.is;
        step = inl (m.0 ∙ ap (Mul e.weight) c.final_weight.ensures.value);
      },
      m.1,
    )

pub returns-in-Err-add-clause-fault : goal.returns-in-Err-add-clause-fault
returns-in-Err-add-clause-fault g c =
    let R = g.S.Semiring.set in
    let row = c.args.row.now in
    let i = c.loop-entry.entry-index in
    let e = c.entry-item.result in
    let m = mul_ok R e.weight c.final_weight.result c.in-Ok.product c.in-Ok.ensures in
    let a = add_err R c.loop-entry.sum c.in-Ok.product c.in-Err-add.overflow c.in-Err-add.ensures in (
      record {
        before = take i row;
        entry = e;
        after = drop (suc i) row;
        is = split_read row i e c.loop-entry-test.true c.entry-item.is;
        step = inr (a.0 ∙ ap₂ Add c.loop-entry.invariant.made (m.0 ∙ ap (R.times e.weight) c.final_weight.ensures.value));
      },
      a.1,
    )

pub loop-entry-preserved : goal.loop-entry-preserved
loop-entry-preserved g c =
    let R = g.S.Semiring.set in
    let L = g.met.S.Semiring.laws in
    let A = c.args.aut.now.automaton in
    let row = c.args.row.now in
    let i = c.loop-entry.entry-index in
    let e = c.entry-item.result in
    let m = mul_ok R e.weight c.final_weight.result c.in-Ok.product c.in-Ok.ensures in
    let a = add_ok R c.loop-entry.sum c.in-Ok.product c.in-Ok-add.sum c.in-Ok-add.ensures in
    let in_row = c.requires.in_range e (member_at row i e (slice_get_read row (length row) i e refl c.loop-entry-test.true c.entry-item.is)) in
    let right : R.in_range c.in-Ok.product ≡ true = subst (λ v. R.in_range v ≡ true) (sym m.0) (g.met.S.Semiring.ranges.times_in e.weight c.final_weight.result in_row c.final_weight.ensures.in_range m.1) in
    let t : take (i + 1) row ≡ take i row ++ e ∷ [] = take_more row i e c.loop-entry-test.true ∙ ap (λ (x : Entry g.row.S.Denot g.row.S-Value.Denot). take i row ++ x ∷ []) (sym c.entry-item.is) in
    record {
      in_range = subst (λ v. R.in_range v ≡ true) (sym a.0) (g.met.S.Semiring.ranges.plus_in c.loop-entry.sum c.in-Ok.product c.loop-entry.invariant.in_range right a.1);
      made = a.0 ∙ ap₂ R.plus c.loop-entry.invariant.made (m.0 ∙ ap (R.times e.weight) c.final_weight.ensures.value)
          ∙ sym (ap (λ (xs : List (Entry g.row.S.Denot g.row.S-Value.Denot)). row_final R A xs) t ∙ entry_more L A (take i row) e);
    }

pub returns-clause-sum : goal.returns-clause-sum
returns-clause-sum g c =
    c.loop-entry.invariant.made ∙ ap (λ (xs : List (Entry g.row.S.Denot g.row.S-Value.Denot)). row_final g.S.Semiring.set c.args.aut.now.automaton xs) (take_all c.loop-entry.entry-index c.args.row.now c.loop-entry-test.false)
