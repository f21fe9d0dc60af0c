use Rattle.vc_rat.proofs.Multiplying.{IsAt}
use Rattle.vc_rat.proofs.splits.multiply.Given as goal

abbrev pub invariant-loop-x : goal.invariant-loop-x
invariant-loop-x l = IsAt l.by l.initial.row l.row l.x-index
