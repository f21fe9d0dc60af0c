use Rattle.std.proofs.Common.{◌≡◌, ◌++◌, drop, string_bytes, IsTrue}
use Rattle.vc_exprio.specs.Words.{letters_text}
use Rattle.vc_label.specs.Letters.{are_letters}
use Rattle.vc_text.specs.Growing.{IsFront}
use Rattle.vc_exprio.proofs.words.push_part.Given as goal

abbrev pub invariant-loop-letter : goal.invariant-loop-letter
invariant-loop-letter l = record {
  front : IsFront (string_bytes l.fn.into) (string_bytes l.into);
  rest : string_bytes l.into ++ letters_text (drop l.letter-index l.letters) ≡ string_bytes l.fn.into ++ letters_text l.letters;
  letters : IsTrue (are_letters (drop l.letter-index l.letters));
}
