use Rattle.std.proofs.Common.{◌≡◌, ◌≤◌, All, map, take}
use Rattle.vc_aut.specs.Stored.{transition_of}
use Rattle.vc_eval.proofs.runs.front_with.Given as goal

abbrev pub invariant-loop-place : goal.invariant-loop-place
invariant-loop-place g l = (
    record {
      some : 1 ≤ l.place;
      same : All (λ u. u.label ≡ g.L.LabelSet.parts l.label) (take l.place (map (transition_of g.L.LabelSet.parts) l.transitions));
    }
    )
