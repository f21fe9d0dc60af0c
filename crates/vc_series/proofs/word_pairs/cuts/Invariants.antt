use Rattle.std.proofs.Common.{◌≡◌, ◌<◌, drop, length}
use Rattle.vc_label.specs.Borrowed.{word_of}
use Rattle.vc_model.specs.Words.{cuts}
use Rattle.vc_series.proofs.word_pairs.cuts.Given as goal

-- the cuts of the tapes from here on
abbrev pub invariant-loop-tape : goal.invariant-loop-tape
invariant-loop-tape l = (l.tape < length (word_of l.word)) × (l.pairs.items ≡ cuts (drop l.tape (word_of l.word)))

abbrev pub decreases-loop-tape : goal.decreases-loop-tape
decreases-loop-tape l = l.tape
