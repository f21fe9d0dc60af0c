use Rattle.std.proofs.Common.{◌≡◌, None, get_or, map, rules, sym}
use Rattle.vc_aut.specs.Stored.{transition_of}
use Rattle.vc_eval.specs.Runs.{run_of}
use Rattle.vc_eval.proofs.RunSteps.{no_row_moved, no_row_steps}
use Rattle.vc_eval.proofs.gather.gather_run.Goals as goal

pub returns-in-None-clause-steps : goal.returns-in-None-clause-steps
returns-in-None-clause-steps g c =
    let none : get_or c.args.origins.now c.args.run.now.number None ≡ None = search rules in
    sym (no_row_steps g.S.Semiring.set c.args.at c.args.origins.now (run_of g.L.LabelSet.parts c.args.run.now) (map (transition_of g.L.LabelSet.parts) c.args.run.now.transitions.now) c.args.rows.now none)

pub returns-in-None-clause-rows : goal.returns-in-None-clause-rows
returns-in-None-clause-rows g c =
    let none : get_or c.args.origins.now c.args.run.now.number None ≡ None = search rules in
    sym (no_row_moved g.S.Semiring.set c.args.at c.args.origins.now (run_of g.L.LabelSet.parts c.args.run.now) (map (transition_of g.L.LabelSet.parts) c.args.run.now.transitions.now) c.args.rows.now none)
