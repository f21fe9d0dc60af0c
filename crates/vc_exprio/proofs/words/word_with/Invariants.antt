use Rattle.std.proofs.Common.{◌≡◌, ◌++◌, ◌-◌, take, drop, length}
use Rattle.vc_exprio.specs.WordParts.{tapes_of}
use Rattle.vc_exprio.specs.Words.{IsOverAlphabets}
use Rattle.vc_model.specs.Words.{empty_word}
use Rattle.vc_exprio.proofs.words.word_with.Given as goal

-- the tapes so far have their letters, and the word is over the label set where the tapes behind them are
abbrev pub invariant-loop-tape : goal.invariant-loop-tape
invariant-loop-tape g l = record {
  word : l.word ≡ take l.tape (tapes_of l.parts) ++ empty_word (length (g.L.LabelSet.sets l.labels) - l.tape);
  over : IsOverAlphabets (drop l.tape (g.L.LabelSet.sets l.labels)) (drop l.tape (tapes_of l.parts)) → IsOverAlphabets (g.L.LabelSet.sets l.labels) (tapes_of l.parts);
  none : IsOverAlphabets (g.L.LabelSet.sets l.labels) (tapes_of l.parts) → IsOverAlphabets (drop l.tape (g.L.LabelSet.sets l.labels)) (drop l.tape (tapes_of l.parts));
}
