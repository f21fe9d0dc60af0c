use Rattle.std.proofs.Common.{◌≡◌, ◌++◌, ◌∷◌, drop, string_bytes}
use Rattle.std.specs.List.{flat_map}
use Rattle.vc_exprio.specs.Words.{part_text, word_text}
use Rattle.vc_label.specs.Borrowed.{word_of}
use Rattle.vc_text.specs.Growing.{IsFront}
use Rattle.vc_exprio.proofs.words.push_word.Given as goal

abbrev pub invariant-loop-tape : goal.invariant-loop-tape
invariant-loop-tape l = record {
  front : IsFront (string_bytes l.fn.into) (string_bytes l.into);
  rest : string_bytes l.into ++ flat_map (λ b. 124 ∷ part_text b) (drop l.tape (word_of l.word)) ≡ string_bytes l.fn.into ++ word_text (word_of l.word);
}
