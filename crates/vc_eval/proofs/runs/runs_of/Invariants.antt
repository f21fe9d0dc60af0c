use Rattle.std.proofs.Common.{◌≡◌, ◌++◌, map}
use Rattle.vc_eval.specs.Forward.{by_source, from_states}
use Rattle.vc_eval.specs.Runs.{AreRunsOver, run_moves, run_of, words_of}
use Rattle.vc_eval.proofs.runs.runs_of.Given as goal

-- the runs so far and the transitions of the rest of the states are all transitions
abbrev pub invariant-loop-s : goal.invariant-loop-s
invariant-loop-s g l =
    let parts = g.L.LabelSet.parts in
    let A = l.aut.automaton in (
    record {
      over : AreRunsOver A (words_of parts l.labels.items) (map (run_of parts) l.runs.items);
      moves : run_moves (map (run_of parts) l.runs.items) ++ from_states A.transitions l.s A.states ≡ by_source A;
    }
    )
