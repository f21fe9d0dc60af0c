use Rattle.std.proofs.Common.{◌≡◌, ◌||◌, ℕ, length}
use Rattle.vc_context.specs.Reading.{items_front}
use Rattle.vc_context.specs.Spelling.{is_named}
use Rattle.vc_label.specs.Alphabets.{has_letter}
use Rattle.vc_context.proofs.letters.letters_front.Given as goal
use Rattle.vc_text.specs.Blanks.{after_blanks}

abbrev pub invariant-loop-first : goal.invariant-loop-first
invariant-loop-first l = record {
  letters : (x : ℕ) → (has_letter l.alphabet x || is_named (items_front l.rest).0 x) ≡ is_named (items_front (after_blanks l.text)).0 x;
  rest : (items_front l.rest).1 ≡ (items_front (after_blanks l.text)).1;
}

abbrev pub decreases-loop-first : goal.decreases-loop-first
decreases-loop-first l = length l.rest
