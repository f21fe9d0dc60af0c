use Rattle.std.proofs.Common.{◌≡◌, true, length}
use Rattle.std.specs.Prelude.{All}
use Rattle.vc_label.specs.Alphabets.{has_letter}
use Rattle.vc_text.specs.Escapes.{unescaped}
use Rattle.vc_exprio.proofs.over.are_in.Given as goal

-- all letters are in the alphabet exactly where those that are left are
abbrev pub invariant-loop-letter : goal.invariant-loop-letter
invariant-loop-letter l = record {
  over : All (λ x. has_letter l.alphabet x ≡ true) (unescaped l.rest) → All (λ x. has_letter l.alphabet x ≡ true) (unescaped l.text);
  none : All (λ x. has_letter l.alphabet x ≡ true) (unescaped l.text) → All (λ x. has_letter l.alphabet x ≡ true) (unescaped l.rest);
}

abbrev pub decreases-loop-letter : goal.decreases-loop-letter
decreases-loop-letter l = length l.rest
