use Rattle.std.proofs.Common.{◌≡◌, ◌+◌, ◌-◌, ℕ, ap, ◌∙◌, arith}
use Rattle.vc_eval.specs.Moves.{cleared}
use Rattle.vc_eval.proofs.MarkedCells.{cleared_more}
use Rattle.vc_eval.proofs.marks.clear_marked.Goals as goal

pub loop-done-preserved : goal.loop-done-preserved
loop-done-preserved g c =
    let R = g.S.Semiring.set in
    let at = c.args.at in
    let done = c.loop-done.done in
    let after = c.part_end.ensures.after in
    let most = c.part_end.ensures.most in
    let next : ℕ = c.part_end.result - at in
    let whole : done + (next - done) ≡ next = omega (arith, after) in
    record {
      most = omega (arith, after, most);
      rows = c.clear_part.ensures.rows ∙ ap (cleared R (at + done) (next - done)) c.loop-done.invariant.rows ∙ cleared_more R at done (next - done) c.args.rows.now ∙ ap (λ (k : ℕ). cleared R at k c.args.rows.now) whole;
      marked = c.clear_part.ensures.marked;
      in_range = c.clear_part.ensures.rows_in;
    }
