use Rattle.std.proofs.Common.{◌+◌, ◌<◌, ◌^◌, length}
use Rattle.vc_lines.specs.Lines.{more_lines}
use Rattle.vc_reader.specs.NameSets.{AreMarked, names_seen}
use Rattle.vc_reader.proofs.CheckedLines.{IsCheckedTo}
use Rattle.vc_reader.proofs.check.check_lines.Given as goal

-- what is true of the lines from here on is true of all
abbrev pub invariant-loop-rest : goal.invariant-loop-rest
invariant-loop-rest g l =
    (l.number + length l.rest < 2 ^ 64)
    × IsCheckedTo g.S.Semiring.spelled (g.L.LabelSet.sets l.labels) l.first (more_lines l.text) (names_seen l.initial.found.names) l.number (more_lines l.rest) (names_seen l.found.names) l.outside
    × AreMarked l.found.marks.items (names_seen l.found.names)

abbrev pub decreases-loop-rest : goal.decreases-loop-rest
decreases-loop-rest g l = length l.rest
