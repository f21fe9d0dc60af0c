use Rattle.std.proofs.Common.{◌≡◌, ℕ, ◌-◌, ◌<◌, ◌≤◌, length, map, get_or}
use Rattle.vc_aut.specs.Stored.{count_below, transition_of}
use Rattle.vc_aut.specs.declared.transition.Transition.{Transition}
use Rattle.vc_aut.proofs.starts.starts.Given as goal

-- the transitions before `at` come from states below this one
abbrev pub invariant-loop-at : goal.invariant-loop-at
invariant-loop-at g l =
    (l.at ≤ length l.transitions) × ((k : ℕ) (d : Transition g.row.L.Denot g.row.S.Denot g.row.L-Label.Denot g.row.S-Value.Denot) → k < l.at → (get_or l.transitions k d).from < l.state)

abbrev pub decreases-loop-at : goal.decreases-loop-at
decreases-loop-at g l = length l.transitions - l.at

-- so far each start is the count of those below
abbrev pub invariant-loop-state : goal.invariant-loop-state
invariant-loop-state g l =
    (length l.starts.items ≡ l.state) × ((s d : ℕ) → s < l.state → get_or l.starts.items s d ≡ count_below (map (transition_of g.L.LabelSet.parts) l.transitions) s)
    × (l.at ≤ length l.transitions) × ((k : ℕ) (d : Transition g.row.L.Denot g.row.S.Denot g.row.L-Label.Denot g.row.S-Value.Denot) → k < l.at → (get_or l.transitions k d).from < l.state)
