use Rattle.std.proofs.Common.{◌≡◌, ◌≢◌, ◌<◌, ◌≤◌, ◌+◌, ◌∷◌, [], ◌++◌, List, ℕ, length, take, set, slice_index_or, refl, sym, ◌∙◌, subst}
use Rattle.std.proofs.lemmas.Bool.{false≢true}
use Rattle.std.proofs.lemmas.List.{take_all, take_more}
use Rattle.std.proofs.lemmas.Option.{slice_get-get_or}
use Rattle.vc_closure.specs.Rows.{sum_at}
use Rattle.vc_closure.specs.declared.rows.Entry.{Entry}
use Rattle.vc_model.specs.Lists.{In}
use Rattle.vc_closure.proofs.Places.{member_at}
use Rattle.vc_closure.proofs.RowSums.{IsTaking, taken_all, taken_low, taking_more, taking_none, taking_zero}
use Rattle.vc_closure.proofs.sums.move_sums.Goals as goal

pub loop-state-init : goal.loop-state-init
loop-state-init g c =
    subst (λ (row : List (Entry g.row.S.Denot g.row.S-Value.Denot)). IsTaking g.S.Semiring.set (length c.args.sums.now) c.args.sums.now c.args.touched.now [] c.args.sums.now row) (sym c.in_ok-row.ensures.items)
    (taking_none g.met.S.Semiring.laws g.met.S.Semiring.ranges (length c.args.sums.now) c.args.sums.now c.args.touched.now c.requires.sums)

pub clear-weight-requires : goal.clear-weight-requires
clear-weight-requires g c =
    let s = slice_index_or c.args.touched.now c.loop-state.state-index 0 in
    subst (λ n. s < n) (sym c.loop-state.invariant.count) (c.requires.sums.inside s (member_at c.args.touched.now c.loop-state.state-index s (slice_get-get_or c.args.touched.now c.loop-state.state-index 0 c.loop-state-test.true)))

pub loop-state-preserved-then-eq : goal.loop-state-preserved-then-eq
loop-state-preserved-then-eq g c =
    let R = g.S.Semiring.set in
    let touched = c.args.touched.now in
    let i = c.loop-state.state-index in
    let s = slice_index_or touched i 0 in
    let m : In s touched = member_at touched i s (slice_get-get_or touched i 0 c.loop-state-test.true) in
    let w : c.clear-weight.result ≡ sum_at R c.loop-state.sums s = c.clear-weight.ensures.weight in
    let z : c.clear-weight.result ≡ R.zero = (g.met.S.Semiring.same c.clear-weight.result c.zero.result).0 (sym c.eq.ensures ∙ c.if-eq.true) ∙ c.zero.ensures in
    subst (λ (v : List g.row.S-Value.Denot). IsTaking R (length c.args.sums.now) c.args.sums.now touched (take (i + 1) touched) v c.loop-state.row.items) (sym c.clear-weight.ensures.sums)
    (subst (λ (xs : List ℕ). IsTaking R (length c.args.sums.now) c.args.sums.now touched xs (set c.loop-state.sums s R.zero) c.loop-state.row.items) (sym (take_more touched i 0 c.loop-state-test.true))
    (taking_zero g.met.S.Semiring.laws g.met.S.Semiring.ranges (length c.args.sums.now) c.args.sums.now touched (take i touched) c.loop-state.sums c.loop-state.row.items s c.loop-state.invariant m (sym w ∙ z)))

pub loop-state-preserved : goal.loop-state-preserved
loop-state-preserved g c =
    let R = g.S.Semiring.set in
    let touched = c.args.touched.now in
    let i = c.loop-state.state-index in
    let s = slice_index_or touched i 0 in
    let m : In s touched = member_at touched i s (slice_get-get_or touched i 0 c.loop-state-test.true) in
    let e : Entry g.row.S.Denot g.row.S-Value.Denot = record { state = s; weight = c.clear-weight.result } in
    let w : c.clear-weight.result ≡ sum_at R c.loop-state.sums s = c.clear-weight.ensures.weight in
    let z : c.clear-weight.result ≢ R.zero = λ q. false≢true (sym (sym c.eq.ensures ∙ c.if-eq.false) ∙ (g.met.S.Semiring.same c.clear-weight.result c.zero.result).1 (q ∙ sym c.zero.ensures)) in
    let low : (q : ℕ) → In q (take i touched) → q ≤ s = λ q j. taken_low touched i q c.requires.order c.loop-state-test.true j in
    subst (λ (v : List g.row.S-Value.Denot). IsTaking R (length c.args.sums.now) c.args.sums.now touched (take (i + 1) touched) v c.push.new.self.items) (sym c.clear-weight.ensures.sums)
    (subst (λ (xs : List ℕ). IsTaking R (length c.args.sums.now) c.args.sums.now touched xs (set c.loop-state.sums s R.zero) c.push.new.self.items) (sym (take_more touched i 0 c.loop-state-test.true))
    (subst (λ (row : List (Entry g.row.S.Denot g.row.S-Value.Denot)). IsTaking R (length c.args.sums.now) c.args.sums.now touched (take i touched ++ s ∷ []) (set c.loop-state.sums s R.zero) row) (sym c.in_ok-push.ensures.items)
    (taking_more g.met.S.Semiring.laws g.met.S.Semiring.ranges (length c.args.sums.now) c.args.sums.now touched (take i touched) c.loop-state.sums c.loop-state.row.items s c.loop-state.invariant m c.clear-weight.result e w refl refl z low)))

pub returns-clause-entries : goal.returns-clause-entries
returns-clause-entries g c =
    let touched = c.args.touched.now in
    let i = c.loop-state.state-index in
    (taken_all g.met.S.Semiring.laws g.met.S.Semiring.ranges (length c.args.sums.now) c.args.sums.now touched g.S.Value.PartialEq.eq g.met.S.Semiring.same (take i touched) c.loop-state.sums c.loop-state.row.items c.loop-state.invariant
    (λ q j. subst (λ (xs : List ℕ). In q xs) (sym (take_all i touched c.loop-state-test.false)) j)).1

pub returns-clause-sums : goal.returns-clause-sums
returns-clause-sums g c =
    let touched = c.args.touched.now in
    let i = c.loop-state.state-index in
    (taken_all g.met.S.Semiring.laws g.met.S.Semiring.ranges (length c.args.sums.now) c.args.sums.now touched g.S.Value.PartialEq.eq g.met.S.Semiring.same (take i touched) c.loop-state.sums c.loop-state.row.items c.loop-state.invariant
    (λ q j. subst (λ (xs : List ℕ). In q xs) (sym (take_all i touched c.loop-state-test.false)) j)).0
