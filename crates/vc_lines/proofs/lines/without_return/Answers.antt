use Rattle.std.proofs.Common.{arith}
use Rattle.vc_lines.proofs.TextLines.{return_dropped, return_kept}
use Rattle.vc_lines.proofs.lines.without_return.Goals as goal
use Rattle.vc_lines.proofs.lines.without_return.Goals.{else-length-gt0-via-then-length-gt0+else-line-length-eq13, else-length-gt0-via-else-length-gt0}

pub returns-then-line-length-eq13 : goal.returns-then-line-length-eq13
returns-then-line-length-eq13 c = return_dropped c.args.line.now (omega arith) c.if-line-length-eq13.true

pub returns-else-length-gt0 : goal.returns-else-length-gt0
returns-else-length-gt0 c =
    return_kept c.args.line.now
    (elim c.else-length-gt0.branch [
      | else-length-gt0-via-then-length-gt0+else-line-length-eq13 w ↦ (λ h. w.if-line-length-eq13.false)
      | else-length-gt0-via-else-length-gt0 w ↦ (λ h. absurd (omega (arith, w.if-length-gt0.false)))
    ])
