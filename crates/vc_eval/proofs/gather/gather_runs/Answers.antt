use Rattle.std.proofs.Common.{◌<◌, All, IfSome, length, sym, ◌∙◌, subst}
use Rattle.std.proofs.lemmas.Result.{err_from_is_err_and}
use Rattle.vc_eval.specs.LetterMoves.{IsMoveInto}
use Rattle.vc_eval.specs.Runs.{run_of, run_cell}
use Rattle.vc_eval.proofs.Pushes.{All-item}
use Rattle.vc_eval.proofs.RunSteps.{run_ok, run_rows, run_err}
use Rattle.vc_eval.proofs.gather.gather_runs.Goals as goal

pub gather_run-requires-clause-number : goal.gather_run-requires-clause-number
gather_run-requires-clause-number g c =
    All-item (λ r. r.number < length c.args.origins.now) (run_of g.L.LabelSet.parts) c.args.runs.now c.loop-run.run-index c.run-item.result c.requires.numbers c.loop-run-test.true c.run-item.is

pub gather_run-requires-clause-cell : goal.gather_run-requires-clause-cell
gather_run-requires-clause-cell g c =
    subst (λ n. IfSome (run_cell c.args.origins.now (run_of g.L.LabelSet.parts c.run-item.result)) (λ k. k < n)) (sym c.loop-run.auto.rows)
    (All-item (λ r. IfSome (run_cell c.args.origins.now r) (λ k. k < length c.args.rows.now)) (run_of g.L.LabelSet.parts) c.args.runs.now c.loop-run.run-index c.run-item.result c.requires.cells c.loop-run-test.true c.run-item.is)

pub gather_run-requires-clause-moves : goal.gather_run-requires-clause-moves
gather_run-requires-clause-moves g c =
    let R = g.S.Semiring.set in
    subst (λ n. All (IsMoveInto R c.args.at n) (run_of g.L.LabelSet.parts c.run-item.result).transitions) (sym c.loop-run.auto.rows)
    (All-item (λ r. All (IsMoveInto R c.args.at (length c.args.rows.now)) r.transitions) (run_of g.L.LabelSet.parts) c.args.runs.now c.loop-run.run-index c.run-item.result c.requires.moves c.loop-run-test.true c.run-item.is)

pub loop-run-preserved : goal.loop-run-preserved
loop-run-preserved g c =
    let R = g.S.Semiring.set in
    let f = run_of g.L.LabelSet.parts in
    let i = c.loop-run.run-index in
    record {
      in_range = c.gather_run.ensures.rows_in;
      steps = rw c.in_ok-gather_run.ensures.rows (sym (run_ok R c.args.origins.now c.args.at f c.args.runs.now i c.run-item.result c.loop-run.rows c.loop-run-test.true c.run-item.is (sym c.in_ok-gather_run.ensures.steps)) ∙ c.loop-run.invariant.steps);
      moved = rw c.in_ok-gather_run.ensures.rows (sym (run_rows R c.args.origins.now c.args.at f c.args.runs.now i c.run-item.result c.loop-run.rows c.loop-run-test.true c.run-item.is) ∙ c.loop-run.invariant.moved);
    }

pub returns-in_err-gather_run-clause-steps : goal.returns-in_err-gather_run-clause-steps
returns-in_err-gather_run-clause-steps g c =
    let R = g.S.Semiring.set in
    let p = err_from_is_err_and c.from_residual.result c.from_residual.ensures.1 in
    rw (p.1, p.2)
    (sym (run_err R c.args.origins.now c.args.at (run_of g.L.LabelSet.parts) c.args.runs.now c.loop-run.run-index c.run-item.result c.loop-run.rows c.in_err-gather_run.field-0.0 c.loop-run-test.true c.run-item.is (sym c.in_err-gather_run.ensures.steps))
    ∙ c.loop-run.invariant.steps)
