use Rattle.std.proofs.Common.{◌≡◌, ◌≤◌, ◌-◌, ℕ, Ok, ap, sym, ◌∙◌, arith}
use Rattle.std.proofs.lemmas.Result.{err_from_is_err_and}
use Rattle.vc_ring.specs.Steps.{outcome}
use Rattle.vc_eval.specs.Forward.{from_states}
use Rattle.vc_eval.specs.LetterMoves.{by_letter}
use Rattle.vc_eval.specs.Moves.{moved, move_steps}
use Rattle.vc_eval.proofs.Blocks.{part_rows, part_ok, part_err}
use Rattle.vc_eval.proofs.letters.push_row.Goals as goal

pub loop-s-preserved : goal.loop-s-preserved
loop-s-preserved g c =
    let R = g.S.Semiring.set in
    let A = c.args.aut.now.automaton in
    let at = c.args.at in
    let h = by_letter R c.args.letter c.args.before in
    let s = c.loop-s.s in
    let rows = c.loop-s.rows in
    let next : ℕ = c.part_end.result - c.args.before in
    let after = c.part_end.ensures.after in
    let most = c.part_end.ensures.most in
    let count = c.states-states.ensures in
    let low : s ≤ next = omega (arith, after) in
    let high : next ≤ A.states = omega (arith, after, most, count) in
    let rest = from_states A.transitions next A.states in
    let brought : c.push_block.new.rows ≡ moved R h at (from_states A.transitions s next) rows = c.in_ok-push_block.ensures.rows in
    let fit : outcome R (move_steps R h at (from_states A.transitions s next) rows) (tt {0}) ≡ Ok (tt {0}) = sym c.in_ok-push_block.ensures.steps in
    record {
      most = high;
      in_range = c.push_block.ensures.rows_in;
      marked = c.in_ok-push_block.ensures.marked;
      steps = ap (λ new. outcome R (move_steps R h at rest new) (tt {0})) brought ∙ sym (part_ok A.transitions R h at s next A.states low high rows fit) ∙ c.loop-s.invariant.steps;
      moved = ap (moved R h at rest) brought ∙ sym (part_rows A.transitions R h at s next A.states low high rows) ∙ c.loop-s.invariant.moved;
    }

pub returns-in_err-push_block-clause-steps : goal.returns-in_err-push_block-clause-steps
returns-in_err-push_block-clause-steps g c =
    let R = g.S.Semiring.set in
    let A = c.args.aut.now.automaton in
    let at = c.args.at in
    let h = by_letter R c.args.letter c.args.before in
    let s = c.loop-s.s in
    let rows = c.loop-s.rows in
    let next : ℕ = c.part_end.result - c.args.before in
    let after = c.part_end.ensures.after in
    let most = c.part_end.ensures.most in
    let count = c.states-states.ensures in
    let low : s ≤ next = omega (arith, after) in
    let high : next ≤ A.states = omega (arith, after, most, count) in
    let p = err_from_is_err_and c.from_residual.result c.from_residual.ensures.1 in
    rw (p.1, p.2)
    (sym (part_err A.transitions R h at s next A.states low high rows c.in_err-push_block.field-0.0 (sym c.in_err-push_block.ensures.steps)) ∙ c.loop-s.invariant.steps)
