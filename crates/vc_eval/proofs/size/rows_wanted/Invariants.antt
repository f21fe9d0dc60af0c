use Rattle.std.proofs.Common.{ℕ, ◌<◌, ◌≤◌, [], get_or, map}
use Rattle.vc_eval.specs.Positions.{place_of}
use Rattle.vc_label.specs.Borrowed.{word_of}
use Rattle.vc_eval.proofs.size.rows_wanted.Given as goal

-- there are rows enough for the labels below the number
abbrev pub invariant-loop-number : goal.invariant-loop-number
invariant-loop-number l =
    let w = word_of l.word in
    let words = map word_of l.labels in (
    record {
      some : 1 ≤ l.wanted;
      most : l.wanted ≤ l.positions;
      window : (k : ℕ) → k < l.number → place_of w (get_or words k []) < l.positions → place_of w (get_or words k []) < l.wanted;
    }
    )
