use Rattle.std.proofs.Common.{◌≡◌, ◌≤◌, ◌-◌}
use Rattle.vc_eval.specs.Forward.{by_source, from_states}
use Rattle.vc_eval.specs.LetterMoves.{by_letter}
use Rattle.vc_eval.specs.Marks.{AreMarked}
use Rattle.vc_eval.specs.Moves.{moved, move_steps}
use Rattle.vc_model.specs.WeightSet.{InRange}
use Rattle.vc_ring.specs.Steps.{outcome}
use Rattle.vc_eval.proofs.letters.push_row.Given as goal

-- what the rest of the states comes to from here is what all of them come to
abbrev pub invariant-loop-s : goal.invariant-loop-s
invariant-loop-s g l =
    let R = g.S.Semiring.set in
    let A = l.aut.automaton in
    let h = by_letter R l.letter l.before in
    let rest = from_states A.transitions l.s A.states in (
    record {
      most : l.s ≤ A.states;
      in_range : InRange R l.rows;
      marked : AreMarked R l.rows l.marks;
      steps : outcome R (move_steps R h l.at rest l.rows) (tt {0}) ≡ outcome R (move_steps R h l.at (by_source A) l.initial.rows) (tt {0});
      moved : moved R h l.at rest l.rows ≡ moved R h l.at (by_source A) l.initial.rows;
    }
    )

abbrev pub decreases-loop-s : goal.decreases-loop-s
decreases-loop-s g l = l.aut.automaton.states - l.s
