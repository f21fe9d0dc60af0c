use Rattle.std.proofs.Common.{length, sym, ◌∙◌, subst}
use Rattle.std.proofs.lemmas.Result.{err_from_is_err_and}
use Rattle.vc_aut.specs.Stored.{transition_of}
use Rattle.vc_eval.specs.LetterMoves.{IsMoveInto, carried}
use Rattle.vc_eval.proofs.Pushes.{bring_steps, bring_rows, bring_err, All-item}
use Rattle.vc_eval.proofs.letters.push_each.Goals as goal

pub bring-requires-clause-into : goal.bring-requires-clause-into
bring-requires-clause-into g c =
    let R = g.S.Semiring.set in
    subst (λ n. IsMoveInto R c.args.at n (transition_of g.L.LabelSet.parts c.transition-item.result)) (sym c.loop-transition.auto.rows)
    (All-item (IsMoveInto R c.args.at (length c.args.rows.now)) (transition_of g.L.LabelSet.parts) c.args.transitions.now c.loop-transition.transition-index c.transition-item.result c.requires.moves c.loop-transition-test.true c.transition-item.is)

pub loop-transition-preserved : goal.loop-transition-preserved
loop-transition-preserved g c =
    let R = g.S.Semiring.set in
    let h = carried c.args.from in
    let f = transition_of g.L.LabelSet.parts in
    let i = c.loop-transition.transition-index in
    record {
      in_range = c.bring.ensures.rows_in;
      steps = rw c.in_ok-bring.ensures.rows (sym (bring_steps R h c.args.at f c.args.transitions.now i c.transition-item.result c.loop-transition.rows c.loop-transition-test.true c.transition-item.is (sym c.in_ok-bring.ensures.steps)) ∙ c.loop-transition.invariant.steps);
      moved = rw c.in_ok-bring.ensures.rows (sym (bring_rows R h c.args.at f c.args.transitions.now i c.transition-item.result c.loop-transition.rows c.loop-transition-test.true c.transition-item.is) ∙ c.loop-transition.invariant.moved);
    }

pub returns-in_err-bring-clause-steps : goal.returns-in_err-bring-clause-steps
returns-in_err-bring-clause-steps g c =
    let R = g.S.Semiring.set in
    let h = carried c.args.from in
    let p = err_from_is_err_and c.from_residual.result c.from_residual.ensures.1 in
    rw (p.1, p.2)
    (sym (bring_err R h c.args.at (transition_of g.L.LabelSet.parts) c.args.transitions.now c.loop-transition.transition-index c.transition-item.result c.loop-transition.rows c.in_err-bring.field-0.0 c.loop-transition-test.true c.transition-item.is (sym c.in_err-bring.ensures.steps))
    ∙ c.loop-transition.invariant.steps)
