use Rattle.std.proofs.Common.{map, sym, subst}
use Rattle.vc_aut.specs.Stored.{transition_of}
use Rattle.vc_eval.specs.Marks.{AreMarked}
use Rattle.vc_eval.proofs.MarkedCells.{moved_marked}
use Rattle.std.proofs.lemmas.Result.{on_ok_weaker}
use Rattle.vc_eval.proofs.letters.push.Goals as goal

pub returns-clause-marked : goal.returns-clause-marked
returns-clause-marked g c =
    let R = g.S.Semiring.set in
    let us = map (transition_of g.L.LabelSet.parts) c.args.transitions.now in
    let there = moved_marked R c.args.at c.args.from us c.args.rows.now c.args.marks.now c.mark_targets.new.marks c.requires.marked c.mark_targets.ensures.kept c.mark_targets.ensures.targets in
    on_ok_weaker c.push_each.result (λ e. subst (λ r. AreMarked R r c.mark_targets.new.marks) (sym e) there) c.push_each.ensures.rows
