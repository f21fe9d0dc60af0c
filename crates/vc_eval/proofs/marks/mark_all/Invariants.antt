use Rattle.std.proofs.Common.{◌≡◌, ◌<◌, ℕ, true}
use Rattle.vc_eval.specs.Marks.{mark}
use Rattle.vc_eval.proofs.marks.mark_all.Given as goal

abbrev pub invariant-loop-b : goal.invariant-loop-b
invariant-loop-b l = (b : ℕ) → b < l.b → mark l.marks b ≡ true
