use Rattle.std.proofs.Common.{◌≡◌, ◌≤◌, ◌-◌}
use Rattle.vc_eval.specs.Marks.{AreMarked}
use Rattle.vc_eval.specs.Moves.{cleared}
use Rattle.vc_model.specs.WeightSet.{InRange}
use Rattle.vc_eval.proofs.marks.clear_marked.Given as goal

abbrev pub invariant-loop-done : goal.invariant-loop-done
invariant-loop-done g l =
    let R = g.S.Semiring.set in (
    record {
      most : l.done ≤ l.states;
      rows : l.rows ≡ cleared R l.at l.done l.initial.rows;
      marked : AreMarked R l.rows l.marks;
      in_range : InRange R l.rows;
    }
    )

abbrev pub decreases-loop-done : goal.decreases-loop-done
decreases-loop-done g l = l.states - l.done
