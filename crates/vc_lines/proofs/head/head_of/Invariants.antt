use Rattle.std.proofs.Common.{◌≡◌, ◌+◌, ◌≤◌, length}
use Rattle.vc_lines.specs.Heads.{head_line}
use Rattle.vc_lines.specs.Lines.{lines_of}
use Rattle.vc_lines.proofs.head.head_of.Given as goal

-- the head of the lines from here on is that of all
abbrev pub invariant-loop-line : goal.invariant-loop-line
invariant-loop-line l =
    (head_line l.number (lines_of l.rest) ≡ head_line 1 (lines_of l.bytes))
    × (l.number + length (lines_of l.rest) ≡ 1 + length (lines_of l.bytes))
    × (l.number + length l.rest ≤ length l.bytes + 1)

abbrev pub decreases-loop-line : goal.decreases-loop-line
decreases-loop-line l = length l.rest
