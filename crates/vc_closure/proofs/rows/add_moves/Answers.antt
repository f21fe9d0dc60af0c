use Rattle.std.proofs.Common.{◌≡◌, ◌≤◌, ℕ, cond, ◌∙◌, ◌+◌, ◌∷◌, [], ◌++◌, List, drop, inl, inr, map, suc, take, true, refl, sym, ap, subst}
use Rattle.std.proofs.lemmas.List.{length-map, take_all}
use Rattle.vc_aut.specs.Stored.{transition_of}
use Rattle.vc_closure.specs.Rows.{entries_at, moves_part, row_at, sum_at}
use Rattle.vc_model.specs.Words.{is_empty}
use Rattle.vc_closure.proofs.Causes.{told}
use Rattle.vc_closure.proofs.Places.{at_place, member_at, read_more, split_map}
use Rattle.vc_closure.proofs.RowSums.{parts_more}
use Rattle.vc_model.specs.Automata.{Transition}
use Rattle.vc_ring.specs.declared.faults.Overflow.TheVariants.{Add}
use Rattle.vc_closure.proofs.rows.add_moves.Goals as goal

pub add_move-requires-clause-to : goal.add_move-requires-clause-to
add_move-requires-clause-to g c =
    let of = transition_of {L = g.row.L.Denot} {S = g.row.S.Denot} {V = g.row.S-Value.Denot} g.L.LabelSet.parts in
    let t = c.transition-item.result in
    c.requires.to (of t) (member_at (map of c.args.moves.now) c.loop-transition.transition-index (of t) (at_place of c.args.moves.now (map of c.args.moves.now) c.loop-transition.transition-index t refl c.loop-transition-test.true c.transition-item.is))

pub add_move-requires-clause-weight : goal.add_move-requires-clause-weight
add_move-requires-clause-weight g c =
    let of = transition_of {L = g.row.L.Denot} {S = g.row.S.Denot} {V = g.row.S-Value.Denot} g.L.LabelSet.parts in
    let t = c.transition-item.result in
    c.requires.weight (of t) (member_at (map of c.args.moves.now) c.loop-transition.transition-index (of t) (at_place of c.args.moves.now (map of c.args.moves.now) c.loop-transition.transition-index t refl c.loop-transition-test.true c.transition-item.is))

pub loop-transition-preserved : goal.loop-transition-preserved
loop-transition-preserved g c =
    let of = transition_of {L = g.row.L.Denot} {S = g.row.S.Denot} {V = g.row.S-Value.Denot} g.L.LabelSet.parts in
    let R = g.S.Semiring.set in
    let i = c.loop-transition.transition-index in
    let t = c.transition-item.result in
    let ms = map of c.args.moves.now in
    let more : take (i + 1) ms ≡ take i ms ++ of t ∷ [] = read_more of c.args.moves.now i t c.loop-transition-test.true c.transition-item.is in
    let part : ℕ → g.row.S-Value.Denot = λ q. cond (is_empty (g.L.LabelSet.parts t.label)) (R.times t.weight (row_at R (entries_at c.args.rows.now t.to) q)) R.zero in
    record {
      sums = c.in_default.ensures.sums;
      added = λ q. c.in_default.ensures.added q
          ∙ ap (λ x. R.plus x (part q)) (c.loop-transition.invariant.added q)
          ∙ g.met.S.Semiring.laws.plus_assoc (sum_at R c.args.sums.now.sums.items q) (moves_part R c.args.rows.now (take i ms) q) (part q)
          ∙ ap (R.plus (sum_at R c.args.sums.now.sums.items q)) (sym (ap (λ (ts : List (Transition g.row.S-Value.Denot)). moves_part R c.args.rows.now ts q) more ∙ parts_more g.met.S.Semiring.laws c.args.rows.now (take i ms) (of t) q));
    }

pub returns-clause-added : goal.returns-clause-added
returns-clause-added g c q =
    let of = transition_of {L = g.row.L.Denot} {S = g.row.S.Denot} {V = g.row.S-Value.Denot} g.L.LabelSet.parts in
    let R = g.S.Semiring.set in
    let i = c.loop-transition.transition-index in
    let ms = map of c.args.moves.now in
    c.loop-transition.invariant.added q ∙ ap (λ (ts : List (Transition g.row.S-Value.Denot)). R.plus (sum_at R c.args.sums.now.sums.items q) (moves_part R c.args.rows.now ts q))
    (take_all i ms (subst (λ n. n ≤ i) (sym (length-map c.args.moves.now of)) c.loop-transition-test.false))

pub returns-in-Err-clause-fault : goal.returns-in-Err-clause-fault
returns-in-Err-clause-fault g c =
    let of = transition_of {L = g.row.L.Denot} {S = g.row.S.Denot} {V = g.row.S-Value.Denot} g.L.LabelSet.parts in
    let R = g.S.Semiring.set in
    let i = c.loop-transition.transition-index in
    let t = c.transition-item.result in
    let ms = map of c.args.moves.now in
    let empty : is_empty (g.L.LabelSet.parts t.label) ≡ true = c.in-Err.ensures.empty refl in
    told R (λ o h f.
    record {
      before = take i ms;
      move_ = of t;
      after = drop (suc i) ms;
      is = split_map of c.args.moves.now i t c.loop-transition-test.true c.transition-item.is;
      empty = empty;
      step = (
        h.0,
        h.1,
        elim h.2 [
          | inl q ↦ inl q
          | inr q ↦ inr (q ∙ ap (λ x. Add x (R.times t.weight h.0.weight)) (c.loop-transition.invariant.added h.0.state))
        ],
      );
    }) (λ l h. h) c.in-Err.fault c.in-Err.ensures.fault
