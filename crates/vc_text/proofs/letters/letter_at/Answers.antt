use Rattle.vc_text.proofs.Found.{found_is_letter}
use Rattle.vc_text.proofs.letters.letter_at.Goals as goal

pub returns-clause-is_letter : goal.returns-clause-is_letter
returns-clause-is_letter c = rw c.letter_in.ensures (found_is_letter c.args.at _)
