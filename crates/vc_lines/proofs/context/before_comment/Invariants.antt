use Rattle.std.proofs.Common.{◌≡◌, ◌≤◌, ◌+◌, length}
use Rattle.vc_lines.specs.Contexts.{before, begins_comment}
use Rattle.vc_lines.proofs.context.before_comment.Given as goal

abbrev pub invariant-loop-rest : goal.invariant-loop-rest
invariant-loop-rest l = (before begins_comment l.text + length l.rest ≡ before begins_comment l.rest + length l.text) × (length l.rest ≤ length l.text)

abbrev pub decreases-loop-rest : goal.decreases-loop-rest
decreases-loop-rest l = length l.rest
