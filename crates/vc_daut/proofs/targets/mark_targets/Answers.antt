use Rattle.std.proofs.Common.{refl}
use Rattle.vc_aut.specs.Stored.{transition_of}
use Rattle.vc_daut.proofs.MarkedStates.{mark_next}
use Rattle.vc_daut.proofs.ListTexts.{mapped_next}
use Rattle.vc_daut.proofs.targets.mark_targets.Goals as goal

pub loop-entry-preserved : goal.loop-entry-preserved
loop-entry-preserved g c = record {
  marks = mark_next c.loop-entry.marks c.args.marks.now c.entry-item.result.to _ _ (transition_of g.L.LabelSet.parts c.entry-item.result) c.loop-entry.auto.marks refl
      (mapped_next (transition_of g.L.LabelSet.parts) c.args.moves.now c.loop-entry.entry-index c.entry-item.result c.loop-entry-test.true c.entry-item.is) c.loop-entry.invariant.marks;
}
