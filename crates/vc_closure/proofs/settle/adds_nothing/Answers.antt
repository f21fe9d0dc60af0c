use Rattle.std.proofs.Common.{◌≡◌, ◌<◌, ◌≤◌, arith, ◌+◌, ◌∷◌, [], ◌++◌, ◌∙◌, List, inl, inr, length, take, true, refl, sym, ap, ap₂, subst}
use Rattle.std.proofs.lemmas.List.{take_all, take_more}
use Rattle.std.proofs.lemmas.Option.{slice_get_read}
use Rattle.vc_closure.specs.Rows.{sum_at}
use Rattle.vc_closure.specs.declared.rows.Entry.{Entry}
use Rattle.vc_closure.proofs.Places.{member_at}
use Rattle.vc_closure.proofs.RowSums.{add_ok, mul_ok}
use Rattle.vc_closure.proofs.Settling.{sum_in_range, sum_read, unequal}
use Rattle.vc_model.specs.Lists.{In}
use Rattle.vc_model.specs.Members.{In-append_cases}
use Rattle.vc_closure.proofs.settle.adds_nothing.Goals as goal

pub offset_bounds-sums-entry : goal.offset_bounds-sums-entry
offset_bounds-sums-entry g c =
    let row = c.args.row.now in
    let e = c.entry-item.result in
    let l : e.state < length c.args.sums.now = c.requires.row.inside e (member_at row c.loop-entry.entry-index e (slice_get_read row (length row) c.loop-entry.entry-index e refl c.loop-entry-test.true c.entry-item.is)) in
    let m : e.state ≤ length c.args.sums.now = omega arith in
    m

pub bounds-sums-entry : goal.bounds-sums-entry
bounds-sums-entry g c =
    let row = c.args.row.now in
    let e = c.entry-item.result in
    c.requires.row.inside e (member_at row c.loop-entry.entry-index e (slice_get_read row (length row) c.loop-entry.entry-index e refl c.loop-entry-test.true c.entry-item.is))

pub mul-requires-clause-right_in : goal.mul-requires-clause-right_in
mul-requires-clause-right_in g c =
    let row = c.args.row.now in
    let e = c.entry-item.result in
    c.requires.row.in_range e (member_at row c.loop-entry.entry-index e (slice_get_read row (length row) c.loop-entry.entry-index e refl c.loop-entry-test.true c.entry-item.is))

pub add-requires-clause-left_in : goal.add-requires-clause-left_in
add-requires-clause-left_in g c =
    let R = g.S.Semiring.set in
    let row = c.args.row.now in
    let sums = c.args.sums.now in
    let e = c.entry-item.result in
    let l : e.state < length sums = c.requires.row.inside e (member_at row c.loop-entry.entry-index e (slice_get_read row (length row) c.loop-entry.entry-index e refl c.loop-entry-test.true c.entry-item.is)) in
    sum_in_range g.met.S.Semiring.ranges sums e.state c.index-sums-entry.result c.requires.sums (sum_read R sums e.state c.index-sums-entry.result l c.index-sums-entry.is)

pub add-requires-clause-right_in : goal.add-requires-clause-right_in
add-requires-clause-right_in g c =
    let R = g.S.Semiring.set in
    let row = c.args.row.now in
    let e = c.entry-item.result in
    let i = c.requires.row.in_range e (member_at row c.loop-entry.entry-index e (slice_get_read row (length row) c.loop-entry.entry-index e refl c.loop-entry-test.true c.entry-item.is)) in
    let m = mul_ok R c.args.weight e.weight c.in-Ok.product c.in-Ok.ensures in
    subst (λ v. R.in_range v ≡ true) (sym m.0) (g.met.S.Semiring.ranges.times_in c.args.weight e.weight c.requires.weight i m.1)

pub loop-entry-preserved : goal.loop-entry-preserved
loop-entry-preserved g c x j =
    let R = g.S.Semiring.set in
    let row = c.args.row.now in
    let sums = c.args.sums.now in
    let w = c.args.weight in
    let i = c.loop-entry.entry-index in
    let e = c.entry-item.result in
    let v = c.index-sums-entry.result in
    let t : take (i + 1) row ≡ take i row ++ e ∷ [] = take_more row i e c.loop-entry-test.true ∙ ap (λ (y : Entry g.row.S.Denot g.row.S-Value.Denot). take i row ++ y ∷ []) (sym c.entry-item.is) in
    let l : e.state < length sums = c.requires.row.inside e (member_at row i e (slice_get_read row (length row) i e refl c.loop-entry-test.true c.entry-item.is)) in
    let sum : v ≡ sum_at R sums e.state = sum_read R sums e.state v l c.index-sums-entry.is in
    let m = mul_ok R w e.weight c.in-Ok.product c.in-Ok.ensures in
    let a = add_ok R v c.in-Ok.product c.in-Ok-add.more c.in-Ok-add.ensures in
    let same : c.in-Ok-add.more ≡ v = (g.met.S.Semiring.same c.in-Ok-add.more v).0 (unequal _ c.ne.result c.if-ne.false c.ne.ensures) in
    let here : R.plus (sum_at R sums e.state) (R.times w e.weight) ≡ sum_at R sums e.state = sym (ap₂ R.plus sum m.0) ∙ sym a.0 ∙ same ∙ sum in
    elim (In-append_cases x (take i row) (e ∷ []) (subst (λ (xs : List (Entry g.row.S.Denot g.row.S-Value.Denot)). In x xs) t j)) [
      | inl k ↦ c.loop-entry.invariant x k
      | inr (inl q) ↦ subst (λ (y : Entry g.row.S.Denot g.row.S-Value.Denot). R.plus (sum_at R sums y.state) (R.times w y.weight) ≡ sum_at R sums y.state) (sym q) here
      | inr (inr k) ↦ absurd k
    ]

pub returns : goal.returns
returns g c u x j =
    c.loop-entry.invariant x (subst (λ (xs : List (Entry g.row.S.Denot g.row.S-Value.Denot)). In x xs) (sym (take_all c.loop-entry.entry-index c.args.row.now c.loop-entry-test.false)) j)
