use Rattle.std.proofs.Common.{All, ◌≡◌, ◌==◌, ◌++◌, filter, length, map}
use Rattle.vc_aut.specs.Stored.{transition_of}
use Rattle.vc_eval.specs.Runs.{AreRunsOver, run_moves, run_of, words_of}
use Rattle.vc_eval.proofs.LabelRuns.{IsFrom}
use Rattle.vc_eval.proofs.runs.push_runs.Given as goal

-- the runs so far and the rest of the transitions are the first runs and all transitions from the state
abbrev pub invariant-loop-rest : goal.invariant-loop-rest
invariant-loop-rest g l =
    let parts = g.L.LabelSet.parts in
    let A = l.aut.automaton in (
    record {
      from : All (IsFrom A l.s) (map (transition_of parts) l.rest);
      over : AreRunsOver A (words_of parts l.labels.items) (map (run_of parts) l.runs.items);
      moves : run_moves (map (run_of parts) l.runs.items) ++ map (transition_of parts) l.rest ≡ run_moves (map (run_of parts) l.initial.runs.items) ++ filter (λ u. u.from == l.s) A.transitions;
    }
    )

abbrev pub decreases-loop-rest : goal.decreases-loop-rest
decreases-loop-rest g l = length l.rest
