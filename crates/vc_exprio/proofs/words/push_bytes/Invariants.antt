use Rattle.std.proofs.Common.{◌≡◌, ◌<◌, true, length}
use Rattle.std.specs.Prelude.{All}
use Rattle.vc_text.specs.Escapes.{unescaped}
use Rattle.vc_label.specs.Alphabets.{has_letter}
use Rattle.vc_label.specs.Growth.{grown}
use Rattle.vc_exprio.proofs.words.push_bytes.Given as goal

-- what is left appended to what is there makes what all makes, and the letters so far are in the alphabet
abbrev pub invariant-loop-letter : goal.invariant-loop-letter
invariant-loop-letter l = record {
  word : grown l.word l.tape (unescaped l.rest) ≡ grown l.initial.word l.tape (unescaped l.text);
  tape : l.tape < length l.word;
  over : All (λ x. has_letter l.alphabet x ≡ true) (unescaped l.rest) → All (λ x. has_letter l.alphabet x ≡ true) (unescaped l.text);
  none : All (λ x. has_letter l.alphabet x ≡ true) (unescaped l.text) → All (λ x. has_letter l.alphabet x ≡ true) (unescaped l.rest);
}

abbrev pub decreases-loop-letter : goal.decreases-loop-letter
decreases-loop-letter l = length l.rest
