use Rattle.std.proofs.Common.{◌≡◌, drop}
use Rattle.vc_label.specs.Letters.{are_letters}
use Rattle.vc_reader.proofs.label.are_letters.Given as goal

abbrev pub invariant-loop-byte : goal.invariant-loop-byte
invariant-loop-byte l = are_letters l.text ≡ are_letters (drop l.byte-index l.text)
