use Rattle.std.proofs.Common.{◌≡◌, ℕ, List, length, sym, subst}
use Rattle.vc_closure.specs.Rows.{AreClear, AreSums, IsRow, entries_at, row_at, sum_at}
use Rattle.vc_closure.specs.Settled.{AddsNothing}
use Rattle.vc_closure.proofs.Settling.{settled_all}
use Rattle.vc_model.specs.Lists.{In}
use Rattle.vc_closure.proofs.settle.settled_row.Goals as goal

pub is_settled-requires-clause-sums : goal.is_settled-requires-clause-sums
is_settled-requires-clause-sums g c =
    subst (λ (xs : List g.row.S-Value.Denot). AreSums g.S.Semiring.set (length c.args.moves.now) xs c.deref-2.result.now) (sym c.deref.ensures.value)
    (subst (λ (xs : List ℕ). AreSums g.S.Semiring.set (length c.args.moves.now) c.spread.new.sums.sums.items xs) (sym c.deref-2.ensures.value) c.in_default.ensures.sums)

pub take_row-requires : goal.take_row-requires
take_row-requires g c =
    subst (λ n. AreSums g.S.Semiring.set n c.spread.new.sums.sums.items c.spread.new.sums.touched.items) (sym c.in_default.ensures.sums.count) c.in_default.ensures.sums

pub returns-clause-row : goal.returns-clause-row
returns-clause-row g c = subst (λ n. IsRow g.S.Semiring.set n c.in_ok-row.row.items) c.in_default.ensures.sums.count c.in_ok-row.ensures.row

pub returns-clause-settled : goal.returns-clause-settled
returns-clause-settled g c =
    let R = g.S.Semiring.set in
    let s = c.args.state in
    let moves = c.args.moves.now in
    let sums = c.spread.new.sums.sums.items in
    let touched = c.spread.new.sums.touched.items in
    let one : sum_at R sums s ≡ R.one = subst (λ (xs : List g.row.S-Value.Denot). sum_at R xs s ≡ R.one) c.deref.ensures.value (c.is_settled.ensures.one c.if-not-is_settled.false) in
    let seen : (p : ℕ) → In p touched → AddsNothing R (sum_at R sums) (sum_at R sums p) (entries_at moves p) =
    subst (λ (ps : List ℕ). (p : ℕ) → In p ps → AddsNothing R (sum_at R sums) (sum_at R sums p) (entries_at moves p)) c.deref-2.ensures.value
    (subst (λ (xs : List g.row.S-Value.Denot). (p : ℕ) → In p c.deref-2.result.now → AddsNothing R (sum_at R xs) (sum_at R xs p) (entries_at moves p)) c.deref.ensures.value (c.is_settled.ensures.moves c.if-not-is_settled.false)) in
    settled_all g.met.S.Semiring.laws moves s g.S.Value.PartialEq.eq g.met.S.Semiring.same (length moves) sums touched (row_at R c.in_ok-row.row.items) c.in_default.ensures.sums c.in_default.ensures.from one seen c.in_ok-row.ensures.entries

pub returns-clause-sums : goal.returns-clause-sums
returns-clause-sums g c = subst (λ n. AreClear g.S.Semiring.set n c.take_row.new.sums.sums.items c.take_row.new.sums.touched.items) c.in_default.ensures.sums.count c.in_ok-row.ensures.sums
