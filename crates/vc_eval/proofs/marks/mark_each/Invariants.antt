use Rattle.vc_aut.specs.Stored.{transition_of}
use Rattle.vc_eval.specs.Marks.{AreKept}
use Rattle.vc_eval.proofs.MarkedCells.{AreFirstMarked}
use Rattle.vc_eval.proofs.marks.mark_each.Given as goal

abbrev pub invariant-loop-transition : goal.invariant-loop-transition
invariant-loop-transition g l = record {
  targets : AreFirstMarked (transition_of g.L.LabelSet.parts) l.at l.transitions l.transition-index l.marks;
  kept : AreKept l.initial.marks l.marks;
}
