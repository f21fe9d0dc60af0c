use Rattle.std.proofs.Common.{◌≡◌, ◌<◌, ◌+◌, ◌==◌, ◌∷◌, [], ◌++◌, List, drop, inl, inr, length, map, suc, take, true, cond, refl, sym, ap, ap₂, ◌∙◌, subst}
use Rattle.std.proofs.lemmas.List.{take_all, take_more}
use Rattle.std.proofs.lemmas.Option.{slice_get_read}
use Rattle.vc_closure.specs.Rows.{AreSums, row_at, sum_at}
use Rattle.vc_closure.specs.declared.rows.Entry.{Entry}
use Rattle.vc_closure.proofs.Causes.{told}
use Rattle.vc_closure.proofs.EntrySteps.{row_front}
use Rattle.vc_closure.proofs.Places.{member_at, split_read}
use Rattle.vc_closure.proofs.RowSums.{mul_err, mul_ok, product_more, row_at-push}
use Rattle.vc_model.specs.Lists.{IsIncreasing}
use Rattle.vc_ring.specs.declared.faults.Overflow.TheVariants.{Add}
use Rattle.vc_closure.proofs.rows.add_row.Goals as goal

pub mul-requires-clause-right_in : goal.mul-requires-clause-right_in
mul-requires-clause-right_in g c =
    let row = c.args.row.now in
    let e = c.entry-item.result in
    c.requires.row.in_range e (member_at row c.loop-entry.entry-index e (slice_get_read row (length row) c.loop-entry.entry-index e refl c.loop-entry-test.true c.entry-item.is))

pub add-requires-clause-state : goal.add-requires-clause-state
add-requires-clause-state g c =
    let row = c.args.row.now in
    let e = c.entry-item.result in
    subst (λ n. e.state < n) (sym c.loop-entry.invariant.sums.count) (c.requires.row.inside e (member_at row c.loop-entry.entry-index e (slice_get_read row (length row) c.loop-entry.entry-index e refl c.loop-entry-test.true c.entry-item.is)))

pub add-requires-clause-weight : goal.add-requires-clause-weight
add-requires-clause-weight g c =
    let R = g.S.Semiring.set in
    let row = c.args.row.now in
    let e = c.entry-item.result in
    let i = c.requires.row.in_range e (member_at row c.loop-entry.entry-index e (slice_get_read row (length row) c.loop-entry.entry-index e refl c.loop-entry-test.true c.entry-item.is)) in
    let m = mul_ok R c.args.weight e.weight c.in-Ok.product c.in-Ok.ensures in
    subst (λ v. R.in_range v ≡ true) (sym m.0) (g.met.S.Semiring.ranges.times_in c.args.weight e.weight c.requires.weight i m.1)

pub loop-entry-preserved : goal.loop-entry-preserved
loop-entry-preserved g c =
    let R = g.S.Semiring.set in
    let L = g.met.S.Semiring.laws in
    let row = c.args.row.now in
    let i = c.loop-entry.entry-index in
    let e = c.entry-item.result in
    let w = c.args.weight in
    let m = mul_ok R w e.weight c.in-Ok.product c.in-Ok.ensures in
    let t : take (i + 1) row ≡ take i row ++ e ∷ [] = take_more row i e c.loop-entry-test.true ∙ ap (λ (x : Entry g.row.S.Denot g.row.S-Value.Denot). take i row ++ x ∷ []) (sym c.entry-item.is) in
    record {
      sums = subst (λ n. AreSums R n c.add.new.sums.sums.items c.add.new.sums.touched.items) c.loop-entry.invariant.sums.count c.in_default.ensures.sums;
      added = λ q. c.in_default.ensures.added q
          ∙ ap₂ (λ x y. R.plus x (cond (e.state == q) y R.zero)) (c.loop-entry.invariant.added q) m.0
          ∙ product_more L (sum_at R c.args.sums.now.sums.items q) w (row_at R (take i row) q) e.weight (e.state == q)
          ∙ ap (λ x. R.plus (sum_at R c.args.sums.now.sums.items q) (R.times w x)) (sym (ap (λ (xs : List (Entry g.row.S.Denot g.row.S-Value.Denot)). row_at R xs q) t ∙ row_at-push L (take i row) e q));
    }

pub returns-clause-added : goal.returns-clause-added
returns-clause-added g c q =
    let R = g.S.Semiring.set in
    let row = c.args.row.now in
    let i = c.loop-entry.entry-index in
    c.loop-entry.invariant.added q ∙ ap (λ (xs : List (Entry g.row.S.Denot g.row.S-Value.Denot)). R.plus (sum_at R c.args.sums.now.sums.items q) (R.times c.args.weight (row_at R xs q))) (take_all i row c.loop-entry-test.false)

pub returns-in-Err-clause-fault : goal.returns-in-Err-clause-fault
returns-in-Err-clause-fault g c =
    let row = c.args.row.now in
    let e = c.entry-item.result in
    let m = mul_err g.S.Semiring.set c.args.weight e.weight c.in-Err.overflow c.in-Err.ensures in
    ((e, member_at row c.loop-entry.entry-index e (slice_get_read row (length row) c.loop-entry.entry-index e refl c.loop-entry-test.true c.entry-item.is), inl m.0), m.1)

pub returns-in-Err-add-clause-fault : goal.returns-in-Err-add-clause-fault
returns-in-Err-add-clause-fault g c =
    let R = g.S.Semiring.set in
    let L = g.met.S.Semiring.laws in
    let row = c.args.row.now in
    let i = c.loop-entry.entry-index in
    let e = c.entry-item.result in
    let w = c.args.weight in
    let old = sum_at R c.args.sums.now.sums.items e.state in
    let m = mul_ok R w e.weight c.in-Ok.product c.in-Ok.ensures in
    let split : row ≡ take i row ++ e ∷ drop (suc i) row = split_read row i e c.loop-entry-test.true c.entry-item.is in
    let front : row_at R (take i row) e.state ≡ R.zero = row_front L (take i row) (drop (suc i) row) e (subst (λ (xs : List (Entry g.row.S.Denot g.row.S-Value.Denot)). IsIncreasing (map (λ (x : Entry g.row.S.Denot g.row.S-Value.Denot). x.state) xs)) split c.requires.row.order) in
    let same : sum_at R c.loop-entry.sums.sums.items e.state ≡ old = c.loop-entry.invariant.added e.state ∙ ap (λ x. R.plus old (R.times w x)) front ∙ ap (R.plus old) (L.times_zero w) ∙ L.plus_zero old in
    told R (λ o h f. (e, member_at row i e (slice_get_read row (length row) i e refl c.loop-entry-test.true c.entry-item.is), inr (h ∙ ap₂ Add same m.0))) (λ l h. h) c.in-Err-add.fault c.in-Err-add.ensures.fault
