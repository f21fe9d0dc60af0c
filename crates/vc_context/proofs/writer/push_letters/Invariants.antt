use Rattle.std.proofs.Common.{◌≡◌, ◌++◌, string_bytes}
use Rattle.std.specs.List.{flat_map}
use Rattle.vc_label.specs.Alphabets.{letters_of}
use Rattle.vc_text.specs.Growing.{IsFront}
use Rattle.vc_text.specs.Letters.{letter_text}
use Rattle.vc_context.proofs.writer.push_letters.Given as goal

abbrev pub invariant-loop-letter : goal.invariant-loop-letter
invariant-loop-letter l = record {
  front : IsFront (string_bytes l.initial.into) (string_bytes l.into);
  text : string_bytes l.into ≡ string_bytes l.initial.into ++ flat_map letter_text l.yielded;
  left : l.yielded ++ l.letter-iterator ≡ letters_of l.fn.alphabet;
}
