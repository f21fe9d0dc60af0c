use Rattle.vc_aut.specs.Stored.{transition_of}
use Rattle.vc_aut.proofs.Ascending.{IsWalked}
use Rattle.vc_aut.proofs.starts.starts_of_sum.Given as goal

-- the transitions before `at` go on, and the starts are theirs
abbrev pub invariant-loop-at : goal.invariant-loop-at
invariant-loop-at g l = IsWalked g.S.Semiring.set (transition_of g.L.LabelSet.parts) l.transitions l.starts.items l.at
