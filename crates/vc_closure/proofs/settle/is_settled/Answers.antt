use Rattle.std.proofs.Common.{◌≡◌, ◌<◌, ◌+◌, ◌∷◌, [], ◌++◌, ◌∙◌, ℕ, List, ◌≤◌, inl, inr, length, slice_index_or, take, sym, ap, subst, arith}
use Rattle.std.proofs.lemmas.List.{take_all, take_more}
use Rattle.std.proofs.lemmas.Option.{slice_get-get_or}
use Rattle.vc_closure.specs.Rows.{entries_at, sum_at}
use Rattle.vc_closure.specs.Settled.{AddsNothing, AreAmong}
use Rattle.vc_closure.specs.declared.rows.Entry.{Entry}
use Rattle.vc_closure.proofs.Places.{member_at}
use Rattle.vc_closure.proofs.RowSums.{entries_at-read}
use Rattle.vc_closure.proofs.Settling.{sum_in_range, sum_read, unequal}
use Rattle.vc_model.specs.Lists.{In}
use Rattle.vc_model.specs.Members.{In-append_cases}
use Rattle.vc_closure.proofs.settle.is_settled.Goals as goal

pub offset_bounds-sums-from : goal.offset_bounds-sums-from
offset_bounds-sums-from g c =
    let ps = c.args.touched.now in
    let p = slice_index_or ps c.loop-from.from-index 0 in
    let k : p < length c.args.moves.now = c.requires.sums.inside p (member_at ps c.loop-from.from-index p (slice_get-get_or ps c.loop-from.from-index 0 c.loop-from-test.true)) in
    let l : p < length c.args.sums.now = subst (λ n. p < n) (sym c.requires.sums.count) k in
    let m : p ≤ length c.args.sums.now = omega arith in
    m

pub bounds-sums-from : goal.bounds-sums-from
bounds-sums-from g c =
    let ps = c.args.touched.now in
    let p = slice_index_or ps c.loop-from.from-index 0 in
    let k : p < length c.args.moves.now = c.requires.sums.inside p (member_at ps c.loop-from.from-index p (slice_get-get_or ps c.loop-from.from-index 0 c.loop-from-test.true)) in
    subst (λ n. p < n) (sym c.requires.sums.count) k

pub bounds-moves-from : goal.bounds-moves-from
bounds-moves-from g c =
    let ps = c.args.touched.now in
    let p = slice_index_or ps c.loop-from.from-index 0 in
    c.requires.sums.inside p (member_at ps c.loop-from.from-index p (slice_get-get_or ps c.loop-from.from-index 0 c.loop-from-test.true))

pub adds_nothing-requires-clause-weight : goal.adds_nothing-requires-clause-weight
adds_nothing-requires-clause-weight g c =
    let R = g.S.Semiring.set in
    let ps = c.args.touched.now in
    let p = slice_index_or ps c.loop-from.from-index 0 in
    let sums = c.args.sums.now in
    let k : p < length c.args.moves.now = c.requires.sums.inside p (member_at ps c.loop-from.from-index p (slice_get-get_or ps c.loop-from.from-index 0 c.loop-from-test.true)) in
    let l : p < length sums = subst (λ n. p < n) (sym c.requires.sums.count) k in
    sum_in_range g.met.S.Semiring.ranges sums p c.index-sums-from.result c.requires.sums.in_range (sum_read R sums p c.index-sums-from.result l c.index-sums-from.is)

pub adds_nothing-requires-clause-row : goal.adds_nothing-requires-clause-row
adds_nothing-requires-clause-row g c =
    let R = g.S.Semiring.set in
    let ps = c.args.touched.now in
    let p = slice_index_or ps c.loop-from.from-index 0 in
    let moves = c.args.moves.now in
    let k : p < length moves = c.requires.sums.inside p (member_at ps c.loop-from.from-index p (slice_get-get_or ps c.loop-from.from-index 0 c.loop-from-test.true)) in
    let is : c.deref.result.now ≡ entries_at moves p = c.deref.ensures.value ∙ ap (λ v. v.items) c.index-moves-from.is ∙ entries_at-read moves p c.index-moves-from.result k in
    subst (λ n. AreAmong R n c.deref.result.now) (sym c.requires.sums.count) (subst (λ (xs : List (Entry g.row.S.Denot g.row.S-Value.Denot)). AreAmong R (length moves) xs) (sym is) (c.requires.moves.each p))

pub loop-from-preserved : goal.loop-from-preserved
loop-from-preserved g c q j =
    let R = g.S.Semiring.set in
    let ps = c.args.touched.now in
    let p = slice_index_or ps c.loop-from.from-index 0 in
    let i = c.loop-from.from-index in
    let moves = c.args.moves.now in
    let sums = c.args.sums.now in
    let t : take (i + 1) ps ≡ take i ps ++ p ∷ [] = take_more ps i 0 c.loop-from-test.true in
    let k : p < length moves = c.requires.sums.inside p (member_at ps i p (slice_get-get_or ps i 0 c.loop-from-test.true)) in
    let l : p < length sums = subst (λ n. p < n) (sym c.requires.sums.count) k in
    let is : c.deref.result.now ≡ entries_at moves p = c.deref.ensures.value ∙ ap (λ v. v.items) c.index-moves-from.is ∙ entries_at-read moves p c.index-moves-from.result k in
    let w : c.index-sums-from.result ≡ sum_at R sums p = sum_read R sums p c.index-sums-from.result l c.index-sums-from.is in
    let seen : AddsNothing R (sum_at R sums) c.index-sums-from.result c.deref.result.now = c.adds_nothing.ensures c.if-not-adds_nothing.false in
    let here : AddsNothing R (sum_at R sums) (sum_at R sums p) (entries_at moves p) =
    subst (λ (xs : List (Entry g.row.S.Denot g.row.S-Value.Denot)). AddsNothing R (sum_at R sums) (sum_at R sums p) xs) is (subst (λ x. AddsNothing R (sum_at R sums) x c.deref.result.now) w seen) in
    elim (In-append_cases q (take i ps) (p ∷ []) (subst (λ (xs : List ℕ). In q xs) t j)) [
      | inl m ↦ c.loop-from.invariant q m
      | inr (inl e) ↦ subst (λ y. AddsNothing R (sum_at R sums) (sum_at R sums y) (entries_at moves y)) (sym e) here
      | inr (inr m) ↦ absurd m
    ]

pub returns-clause-one : goal.returns-clause-one
returns-clause-one g c u =
    let R = g.S.Semiring.set in
    let v = c.index-sums-state.result in
    let l : c.args.state < length c.args.sums.now = subst (λ n. c.args.state < n) (sym c.requires.sums.count) c.requires.state in
    let same : v ≡ c.one.result = (g.met.S.Semiring.same v c.one.result).0 (unequal _ c.ne.result c.if-ne.false c.ne.ensures) in
    sym (sum_read R c.args.sums.now c.args.state v l c.index-sums-state.is) ∙ same ∙ c.one.ensures

pub returns-clause-moves : goal.returns-clause-moves
returns-clause-moves g c u q j =
    c.loop-from.invariant q (subst (λ (xs : List ℕ). In q xs) (sym (take_all c.loop-from.from-index c.args.touched.now c.loop-from-test.false)) j)
