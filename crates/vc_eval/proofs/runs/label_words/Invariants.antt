use Rattle.std.proofs.Common.{◌≡◌, map, take}
use Rattle.vc_label.specs.Borrowed.{word_of}
use Rattle.vc_eval.specs.Runs.{words_of}
use Rattle.vc_eval.proofs.runs.label_words.Given as goal

abbrev pub invariant-loop-number : goal.invariant-loop-number
invariant-loop-number g l = map word_of l.words.items ≡ take l.number (words_of g.L.LabelSet.parts l.labels)
