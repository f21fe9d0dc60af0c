use Rattle.std.proofs.Common.{◌≡◌, ◌≤◌, drop, length}
use Rattle.vc_series.specs.Steps.{tape_pairs}
use Rattle.vc_series.proofs.word_pairs.tape_pairs.Given as goal

-- the pairs of the letters from here on
abbrev pub invariant-loop-at : goal.invariant-loop-at
invariant-loop-at l = (l.at ≤ length l.letters) × (l.pairs.items ≡ tape_pairs (drop l.at l.letters))

abbrev pub decreases-loop-at : goal.decreases-loop-at
decreases-loop-at l = l.at
