use Rattle.std.proofs.Common.{◌≡◌, ◌<◌, ◌∙◌, List, cond, eqb, length, true, refl, sym, ap, subst}
use Rattle.std.proofs.lemmas.Option.{slice_get_read}
use Rattle.vc_closure.specs.Rows.{AreSums, entries_at, sum_at}
use Rattle.vc_closure.specs.Settled.{AreWaiting}
use Rattle.vc_closure.specs.declared.rows.Entry.{Entry}
use Rattle.vc_closure.proofs.Places.{member_at}
use Rattle.vc_closure.proofs.RowSums.{entries_at-read, mul_ok}
use Rattle.vc_closure.proofs.Settling.{from_more, sum_in_range, sum_read}
use Rattle.vc_model.specs.Lists.{In}
use Rattle.vc_closure.proofs.settle.spread_from.Goals as goal

pub mul-requires-clause-left_in : goal.mul-requires-clause-left_in
mul-requires-clause-left_in g c =
    let R = g.S.Semiring.set in
    let sums = c.args.sums.now.sums.items in
    let s = c.args.state in
    let l : s < length sums = subst (λ n. s < n) (sym c.requires.sums.count) c.requires.state in
    sum_in_range g.met.S.Semiring.ranges sums s c.index-weight.result.now c.requires.sums.in_range (sum_read R sums s c.index-weight.result.now l c.index-weight.ensures)

pub mul-requires-clause-right_in : goal.mul-requires-clause-right_in
mul-requires-clause-right_in g c =
    let R = g.S.Semiring.set in
    let moves = c.args.moves.now in
    let s = c.args.state in
    let row = c.deref-entry-items.result.now in
    let e = c.entry-item.result in
    let i = c.loop-entry.entry-index in
    let is : row ≡ entries_at moves s = c.deref-entry-items.ensures.value ∙ ap (λ v. v.items) c.index-moves-state.is ∙ entries_at-read moves s c.index-moves-state.result c.requires.state in
    let member : In e (entries_at moves s) = subst (λ (xs : List (Entry g.row.S.Denot g.row.S-Value.Denot)). In e xs) is (member_at row i e (slice_get_read row (length row) i e refl c.loop-entry-test.true c.entry-item.is)) in
    (c.requires.moves.each s).in_range e member

pub relax-requires-clause-state : goal.relax-requires-clause-state
relax-requires-clause-state g c =
    let R = g.S.Semiring.set in
    let moves = c.args.moves.now in
    let s = c.args.state in
    let row = c.deref-entry-items.result.now in
    let e = c.entry-item.result in
    let i = c.loop-entry.entry-index in
    let is : row ≡ entries_at moves s = c.deref-entry-items.ensures.value ∙ ap (λ v. v.items) c.index-moves-state.is ∙ entries_at-read moves s c.index-moves-state.result c.requires.state in
    let member : In e (entries_at moves s) = subst (λ (xs : List (Entry g.row.S.Denot g.row.S-Value.Denot)). In e xs) is (member_at row i e (slice_get_read row (length row) i e refl c.loop-entry-test.true c.entry-item.is)) in
    subst (λ n. e.state < n) (sym c.loop-entry.invariant.sums.count) ((c.requires.moves.each s).inside e member)

pub relax-requires-clause-sums : goal.relax-requires-clause-sums
relax-requires-clause-sums g c =
    subst (λ n. AreSums g.S.Semiring.set n c.loop-entry.sums.sums.items c.loop-entry.sums.touched.items) (sym c.loop-entry.invariant.sums.count) c.loop-entry.invariant.sums

pub relax-requires-clause-weight : goal.relax-requires-clause-weight
relax-requires-clause-weight g c =
    let R = g.S.Semiring.set in
    let moves = c.args.moves.now in
    let sums = c.args.sums.now.sums.items in
    let s = c.args.state in
    let row = c.deref-entry-items.result.now in
    let e = c.entry-item.result in
    let i = c.loop-entry.entry-index in
    let l : s < length sums = subst (λ n. s < n) (sym c.requires.sums.count) c.requires.state in
    let left = sum_in_range g.met.S.Semiring.ranges sums s c.index-weight.result.now c.requires.sums.in_range (sum_read R sums s c.index-weight.result.now l c.index-weight.ensures) in
    let is : row ≡ entries_at moves s = c.deref-entry-items.ensures.value ∙ ap (λ v. v.items) c.index-moves-state.is ∙ entries_at-read moves s c.index-moves-state.result c.requires.state in
    let member : In e (entries_at moves s) = subst (λ (xs : List (Entry g.row.S.Denot g.row.S-Value.Denot)). In e xs) is (member_at row i e (slice_get_read row (length row) i e refl c.loop-entry-test.true c.entry-item.is)) in
    let m = mul_ok R c.index-weight.result.now e.weight c.in-Ok.product c.in-Ok.ensures in
    subst (λ v. R.in_range v ≡ true) (sym m.0) (g.met.S.Semiring.ranges.times_in c.index-weight.result.now e.weight left ((c.requires.moves.each s).in_range e member) m.1)

pub relax-requires-clause-waiting : goal.relax-requires-clause-waiting
relax-requires-clause-waiting g c =
    subst (λ n. AreWaiting n c.loop-entry.waiting.queue.items c.loop-entry.waiting.marks.items) (sym c.loop-entry.invariant.sums.count) c.loop-entry.invariant.waiting

pub returns-in_err-relax-clause-waiting : goal.returns-in_err-relax-clause-waiting
returns-in_err-relax-clause-waiting g c =
    subst (λ n. AreWaiting n c.relax.new.waiting.queue.items c.relax.new.waiting.marks.items) c.loop-entry.invariant.sums.count c.relax.ensures.waiting

pub loop-entry-preserved : goal.loop-entry-preserved
loop-entry-preserved g c =
    let R = g.S.Semiring.set in
    let moves = c.args.moves.now in
    let sums = c.args.sums.now.sums.items in
    let s = c.args.state in
    let row = c.deref-entry-items.result.now in
    let e = c.entry-item.result in
    let i = c.loop-entry.entry-index in
    let now = c.loop-entry.sums.sums.items in
    let after = c.relax.new.sums.sums.items in
    let l : s < length sums = subst (λ n. s < n) (sym c.requires.sums.count) c.requires.state in
    let is : row ≡ entries_at moves s = c.deref-entry-items.ensures.value ∙ ap (λ v. v.items) c.index-moves-state.is ∙ entries_at-read moves s c.index-moves-state.result c.requires.state in
    let member : In e (entries_at moves s) = subst (λ (xs : List (Entry g.row.S.Denot g.row.S-Value.Denot)). In e xs) is (member_at row i e (slice_get_read row (length row) i e refl c.loop-entry-test.true c.entry-item.is)) in
    let m = mul_ok R c.index-weight.result.now e.weight c.in-Ok.product c.in-Ok.ensures in
    let w : c.in-Ok.product ≡ R.times (sum_at R sums s) e.weight = m.0 ∙ ap (λ v. R.times v e.weight) (sum_read R sums s c.index-weight.result.now l c.index-weight.ensures) in
    record {
      sums = subst (λ n. AreSums R n c.relax.new.sums.sums.items c.relax.new.sums.touched.items) c.loop-entry.invariant.sums.count c.in_ok-relax.ensures.sums;
      from = λ p f. from_more g.met.S.Semiring.laws moves p (sum_at R sums) (sum_at R now) (sum_at R after) s e f (c.loop-entry.invariant.from p f) member
          (λ q. c.in_ok-relax.ensures.added q ∙ ap (λ v. R.plus (sum_at R now q) (cond (eqb e.state q) v R.zero)) w);
      waiting = subst (λ n. AreWaiting n c.relax.new.waiting.queue.items c.relax.new.waiting.marks.items) c.loop-entry.invariant.sums.count c.relax.ensures.waiting;
    }
