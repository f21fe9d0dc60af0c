use Rattle.std.proofs.Common.{◌≡◌, ◌≤◌, ◌+◌, length}
use Rattle.vc_lines.specs.Contexts.{before, begins_quote}
use Rattle.vc_lines.proofs.context.before_quote.Given as goal

abbrev pub invariant-loop-rest : goal.invariant-loop-rest
invariant-loop-rest l = (before begins_quote l.text + length l.rest ≡ before begins_quote l.rest + length l.text) × (length l.rest ≤ length l.text)

abbrev pub decreases-loop-rest : goal.decreases-loop-rest
decreases-loop-rest l = length l.rest
