use Rattle.std.proofs.Common.{◌≡◌, ◌<◌, ℕ, None, false, [], get_or, length, map}
use Rattle.vc_eval.specs.Runs.{IsZeroRow, origin}
use Rattle.vc_label.specs.Borrowed.{word_of}
use Rattle.vc_eval.proofs.gather.find_origins.Given as goal

-- the labels below the number have their rows
abbrev pub invariant-loop-number : goal.invariant-loop-number
invariant-loop-number g l =
    let words = map word_of l.labels in (
    record {
      origins : (k : ℕ) → k < l.number → get_or l.origins k None ≡ origin (word_of l.word) l.states (word_of l.front) l.at (length l.rows) (get_or words k []);
      idle : l.busy ≡ false → (k : ℕ) → k < l.number → IsZeroRow g.S.Semiring.set l.states l.rows (get_or l.origins k None);
    }
    )
