use Rattle.std.proofs.Common.{◌≡◌, ◌++◌, drop, string_bytes, IsTrue}
use Rattle.std.specs.List.{flat_map}
use Rattle.vc_label.specs.Letters.{are_letters}
use Rattle.vc_text.specs.Growing.{IsFront}
use Rattle.vc_text.specs.Letters.{letter_text}
use Rattle.vc_exprio.proofs.label_text.push_letters.Given as goal

abbrev pub invariant-loop-letter : goal.invariant-loop-letter
invariant-loop-letter l = record {
  front : IsFront (string_bytes l.fn.into) (string_bytes l.into);
  rest : string_bytes l.into ++ flat_map letter_text (drop l.letter-index l.letters) ≡ string_bytes l.fn.into ++ flat_map letter_text l.letters;
  letters : IsTrue (are_letters (drop l.letter-index l.letters));
}
