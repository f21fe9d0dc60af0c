use Rattle.std.proofs.Common.{◌≡◌, map, drop}
use Rattle.vc_aut.specs.Stored.{transition_of}
use Rattle.vc_eval.specs.LetterMoves.{carried}
use Rattle.vc_eval.specs.Moves.{moved, move_steps}
use Rattle.vc_model.specs.WeightSet.{InRange}
use Rattle.vc_ring.specs.Steps.{outcome}
use Rattle.vc_eval.proofs.letters.push_each.Given as goal

-- what the rest of the transitions comes to from here is what all of them come to
abbrev pub invariant-loop-transition : goal.invariant-loop-transition
invariant-loop-transition g l =
    let R = g.S.Semiring.set in
    let h = carried l.from in
    let all = map (transition_of g.L.LabelSet.parts) l.transitions in
    let rest = drop l.transition-index all in (
    record {
      in_range : InRange R l.rows;
      steps : outcome R (move_steps R h l.at rest l.rows) (tt {0}) ≡ outcome R (move_steps R h l.at all l.initial.rows) (tt {0});
      moved : moved R h l.at rest l.rows ≡ moved R h l.at all l.initial.rows;
    }
    )
