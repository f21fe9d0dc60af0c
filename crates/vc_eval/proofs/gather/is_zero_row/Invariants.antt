use Rattle.std.proofs.Common.{◌≡◌, ◌<◌, ◌+◌, ℕ}
use Rattle.vc_eval.specs.Moves.{entry}
use Rattle.vc_eval.proofs.gather.is_zero_row.Given as goal

abbrev pub invariant-loop-s : goal.invariant-loop-s
invariant-loop-s g l = (t : ℕ) → t < l.s → entry g.S.Semiring.set l.rows (l.begin + t) ≡ g.S.Semiring.set.zero
