use Rattle.std.proofs.Common.{◌≡◌, ◌++◌, string_bytes, take}
use Rattle.std.specs.List.{flat_map}
use Rattle.vc_text.specs.Letters.{letter_text}
use Rattle.vc_daut.proofs.append.push_part.Given as goal

abbrev pub invariant-loop-letter : goal.invariant-loop-letter
invariant-loop-letter l = string_bytes l.into ≡ string_bytes l.fn.into ++ flat_map letter_text (take l.letter-index l.part)
