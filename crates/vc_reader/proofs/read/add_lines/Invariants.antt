use Rattle.std.proofs.Common.{◌+◌, ◌<◌, ◌^◌, ℕ, List, length}
use Rattle.std.specs.List.{flat_map}
use Rattle.vc_model.specs.Lists.{In}
use Rattle.vc_reader.specs.Building.{KeepsShape}
use Rattle.vc_lines.specs.Lines.{more_lines}
use Rattle.vc_reader.specs.Meaning.{given_by, number_of}
use Rattle.vc_lines.specs.Names.{line_names}
use Rattle.vc_reader.specs.Spelling.{AreOver, lines_in}
use Rattle.vc_reader.proofs.AddedLines.{LeadLines}
use Rattle.vc_reader.proofs.read.add_lines.Given as goal

-- what adds the lines from here on adds all
abbrev pub invariant-loop-rest : goal.invariant-loop-rest
invariant-loop-rest g l =
    let spelled = g.S.Semiring.spelled in
    let sets = g.L.LabelSet.sets l.labels in
    (l.number + length l.rest < 2 ^ 64)
    × LeadLines g.S.Semiring.set spelled g.S.Semiring.numbers_fit (given_by g.S.Semiring.set spelled sets (number_of l.numbering))
    l.number (lines_in spelled (more_lines l.rest)) l.builder l.first (lines_in spelled (more_lines l.text)) l.initial.builder
    × KeepsShape l.initial.builder l.builder
    × AreOver sets (lines_in spelled (more_lines l.rest))
    × ((a : List ℕ) → In a (flat_map line_names (lines_in spelled (more_lines l.rest))) → In a l.numbering)

abbrev pub decreases-loop-rest : goal.decreases-loop-rest
decreases-loop-rest g l = length l.rest
