use Rattle.std.proofs.Common.{◌≡◌, map, true}
use Rattle.vc_reader.specs.Building.{KeepsShape, entry_weights}
use Rattle.vc_lex.specs.Views.{seen}
use Rattle.vc_lines.specs.Grammar.{entries_of, have_labels}
use Rattle.vc_reader.specs.Meaning.{given_by_entries}
use Rattle.vc_reader.specs.Spelling.{AreEntriesOver}
use Rattle.vc_lines.specs.Views.{more_entries, tokens_left}
use Rattle.vc_reader.proofs.Additions.{LeadsTo}
use Rattle.vc_reader.proofs.add.add_entries.Given as goal

-- what adds the entries from here on adds all
abbrev pub invariant-loop-rest : goal.invariant-loop-rest
invariant-loop-rest g l =
    let R = g.S.Semiring.set in
    let sets = g.L.LabelSet.sets l.labels in
    let spelled = g.S.Semiring.spelled in
    LeadsTo R spelled g.S.Semiring.numbers_fit
    (entry_weights (more_entries l.rest)) l.builder (given_by_entries R spelled sets l.from l.to (more_entries l.rest))
    (entry_weights (entries_of (map seen l.entries))) l.initial.builder (given_by_entries R spelled sets l.from l.to (entries_of (map seen l.entries)))
    × KeepsShape l.initial.builder l.builder
    × (have_labels (more_entries l.rest) ≡ true)
    × AreEntriesOver sets (more_entries l.rest)

abbrev pub decreases-loop-rest : goal.decreases-loop-rest
decreases-loop-rest g l = tokens_left l.rest
