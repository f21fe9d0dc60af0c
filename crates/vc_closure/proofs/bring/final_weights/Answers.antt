use Rattle.std.proofs.Common.{rules, ◌≡◌, ◌∙◌, ◌<◌, ◌+◌, ℕ, IsTrue, List, [], ◌∷◌, ◌++◌, length, slice_index_or, sym, ap, subst, below_more}
use Rattle.std.proofs.lemmas.List.{length-append}
use Rattle.std.proofs.lemmas.List.Elements.{All-append, All-cons, All-nil}
use Rattle.std.proofs.Math.ListN.{get_or-append}
use Rattle.std.proofs.Math.Seq.{get_or-append_seam}
use Rattle.vc_closure.specs.Brought.{IsTotalStep, row_final}
use Rattle.vc_closure.specs.Rows.{IsRow, entries_at}
use Rattle.vc_closure.specs.declared.rows.Entry.{Entry}
use Rattle.vc_closure.proofs.Causes.{told}
use Rattle.vc_closure.proofs.RowSums.{entries_at-read}
use Rattle.vc_model.specs.WeightSet.{InRange}
use Rattle.vc_closure.proofs.bring.final_weights.Goals as goal

pub final_of-requires : goal.final_of-requires
final_of-requires g c =
    let R = g.S.Semiring.set in
    let rows = c.args.rows.now in
    let s = c.loop-state.state in
    let k : s < c.args.aut.now.automaton.states = subst (λ n. s < n) c.states-state-end.ensures c.loop-state-test.true in
    let e : c.deref.result.now ≡ entries_at rows s = c.deref.ensures.value ∙ ap (λ v. v.items) c.index-rows-state.is ∙ entries_at-read rows s c.index-rows-state.result (subst (λ k. s < k) (sym c.requires.count) k) in
    subst (λ (xs : List (Entry g.row.S.Denot g.row.S-Value.Denot)). IsRow R c.args.aut.now.automaton.states xs) (sym e) (c.requires.each s)

pub returns-in-Err-clause-fault : goal.returns-in-Err-clause-fault
returns-in-Err-clause-fault g c =
    let R = g.S.Semiring.set in
    let A = c.args.aut.now.automaton in
    let rows = c.args.rows.now in
    let s = c.loop-state.state in
    let k : s < A.states = subst (λ n. s < n) c.states-state-end.ensures c.loop-state-test.true in
    let e : c.deref.result.now ≡ entries_at rows s = c.deref.ensures.value ∙ ap (λ v. v.items) c.index-rows-state.is ∙ entries_at-read rows s c.index-rows-state.result (subst (λ k. s < k) (sym c.requires.count) k) in
    told R (λ o h f. (s, k, subst (λ (xs : List (Entry g.row.S.Denot g.row.S-Value.Denot)). IsTotalStep R A xs o) e h)) (λ l h. h) c.in-Err.fault c.in-Err.ensures.fault

pub loop-state-preserved : goal.loop-state-preserved
loop-state-preserved g c =
    let R = g.S.Semiring.set in
    let A = c.args.aut.now.automaton in
    let rows = c.args.rows.now in
    let s = c.loop-state.state in
    let k : s < A.states = subst (λ n. s < n) c.states-state-end.ensures c.loop-state-test.true in
    let e : c.deref.result.now ≡ entries_at rows s = c.deref.ensures.value ∙ ap (λ v. v.items) c.index-rows-state.is ∙ entries_at-read rows s c.index-rows-state.result (subst (λ k. s < k) (sym c.requires.count) k) in
    let ws = c.loop-state.weights.items in
    let w = c.in-Ok-final_of.weight in
    let made : w ≡ row_final R A (entries_at rows s) = c.in-Ok-final_of.ensures.sum ∙ ap (λ (xs : List (Entry g.row.S.Denot g.row.S-Value.Denot)). row_final R A xs) e in
    let pushed : c.push.new.self.items ≡ ws ++ w ∷ [] = search rules in
    let count : length ws ≡ s = c.loop-state.invariant.count in
    let last : slice_index_or (ws ++ w ∷ []) s R.zero ≡ row_final R A (entries_at rows s) = ap (λ n. slice_index_or (ws ++ w ∷ []) n R.zero) (sym count) ∙ get_or-append_seam ws w [] R.zero ∙ made in
    let sums : (p : ℕ) → p < s + 1 → slice_index_or (ws ++ w ∷ []) p R.zero ≡ row_final R A (entries_at rows p) =
    below_more (λ p. slice_index_or (ws ++ w ∷ []) p R.zero ≡ row_final R A (entries_at rows p)) s (λ p l. get_or-append ws (w ∷ []) R.zero p (subst (λ n. p < n) (sym count) l) ∙ c.loop-state.invariant.sums p l) last in
    record {
      count = ap (λ (xs : List g.row.S-Value.Denot). length xs) pushed ∙ length-append ws (w ∷ []) ∙ ap (λ n. n + 1) count;
      in_range = subst (λ (xs : List g.row.S-Value.Denot). InRange R xs) (sym pushed) (All-append (λ x. IsTrue (R.in_range x)) ws (w ∷ []) c.loop-state.invariant.in_range (All-cons (λ x. IsTrue (R.in_range x)) w [] c.in-Ok-final_of.ensures.in_range (All-nil (λ x. IsTrue (R.in_range x)))));
      sums = λ p l. ap (λ (xs : List g.row.S-Value.Denot). slice_index_or xs p R.zero) pushed ∙ sums p l;
    }
