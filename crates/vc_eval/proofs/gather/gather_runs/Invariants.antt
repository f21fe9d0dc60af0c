use Rattle.std.proofs.Common.{◌≡◌, map, drop}
use Rattle.vc_eval.specs.Runs.{run_of, run_steps, runs_moved}
use Rattle.vc_model.specs.WeightSet.{InRange}
use Rattle.vc_ring.specs.Steps.{outcome}
use Rattle.vc_eval.proofs.gather.gather_runs.Given as goal

-- what the rest of the runs comes to from here is what all of them come to
abbrev pub invariant-loop-run : goal.invariant-loop-run
invariant-loop-run g l =
    let R = g.S.Semiring.set in
    let all = map (run_of g.L.LabelSet.parts) l.runs in
    let rest = drop l.run-index all in (
    record {
      in_range : InRange R l.rows;
      steps : outcome R (run_steps R l.origins l.at rest l.rows) (tt {0}) ≡ outcome R (run_steps R l.origins l.at all l.initial.rows) (tt {0});
      moved : runs_moved R l.origins l.at rest l.rows ≡ runs_moved R l.origins l.at all l.initial.rows;
    }
    )
