use Rattle.std.proofs.Common.{◌≡◌, take}
use Rattle.vc_label.specs.Borrowed.{word_of}
use Rattle.vc_tuple.specs.Parts.{parts_of}
use Rattle.vc_tuple.proofs.label.TupleLabel.new.Given as goal

abbrev pub invariant-loop-i : goal.invariant-loop-i
invariant-loop-i l = parts_of l.bytes.items ≡ take l.i (word_of l.word)
