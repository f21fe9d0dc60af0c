use Rattle.std.proofs.Common.{◌<◌, arith}
use Rattle.vc_aut.specs.Stored.{transition_of}
use Rattle.vc_eval.proofs.MarkedCells.{one_more, all_of_them}
use Rattle.vc_eval.proofs.Pushes.{All-item}
use Rattle.vc_eval.proofs.marks.mark_each.Goals as goal

pub mark_target-requires-clause-target : goal.mark_target-requires-clause-target
mark_target-requires-clause-target g c = All-item (λ u. u.to < c.args.states) (transition_of g.L.LabelSet.parts) c.args.transitions.now c.loop-transition.transition-index c.transition-item.result c.requires.targets c.loop-transition-test.true c.transition-item.is

pub loop-transition-preserved : goal.loop-transition-preserved
loop-transition-preserved g c = record {
  targets = one_more (transition_of g.L.LabelSet.parts) c.args.at c.args.transitions.now c.loop-transition.transition-index c.transition-item.result c.loop-transition.marks c.mark_target.new.marks c.loop-transition-test.true c.transition-item.is c.loop-transition.invariant.targets c.mark_target.ensures.kept c.mark_target.ensures.target;
  kept = λ b e. c.loop-transition.invariant.kept b (c.mark_target.ensures.kept b e);
}

pub returns-clause-targets : goal.returns-clause-targets
returns-clause-targets g c = all_of_them (transition_of g.L.LabelSet.parts) c.args.at c.args.transitions.now c.loop-transition.transition-index c.loop-transition.marks (omega arith) c.loop-transition.invariant.targets
