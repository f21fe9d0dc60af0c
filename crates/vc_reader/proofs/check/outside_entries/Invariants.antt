use Rattle.std.proofs.Common.{◌≡◌, ℕ, map, true}
use Rattle.vc_lex.specs.Views.{seen}
use Rattle.vc_lines.specs.Grammar.{entries_of, have_labels}
use Rattle.vc_reader.specs.Spelling.{AreEntriesOver, IsFirstEntry}
use Rattle.vc_lines.specs.Views.{more_entries, tokens_left, AreFitAfter}
use Rattle.vc_reader.proofs.check.outside_entries.Given as goal

-- what is true of the entries from here on is true of all
abbrev pub invariant-loop-rest : goal.invariant-loop-rest
invariant-loop-rest g l =
    let sets = g.L.LabelSet.sets l.labels in
    (have_labels (more_entries l.rest) ≡ true)
    × AreFitAfter l.rest
    × (AreEntriesOver sets (more_entries l.rest) → AreEntriesOver sets (entries_of (map seen l.entries)))
    × ((p : ℕ × ℕ) → IsFirstEntry sets (more_entries l.rest) p → IsFirstEntry sets (entries_of (map seen l.entries)) p)

abbrev pub decreases-loop-rest : goal.decreases-loop-rest
decreases-loop-rest g l = tokens_left l.rest
