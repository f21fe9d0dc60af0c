use Rattle.vc_model.specs.LetterSteps.{future_empty, future_letter}
use Rattle.vc_model.proofs.letters.futures_by_letter.Goals as goal

pub returns-clause-empty : goal.returns-clause-empty
returns-clause-empty g c R L A G H p l = future_empty L A G H p l

pub returns-clause-letter : goal.returns-clause-letter
returns-clause-letter g c R L A G H p x a l = future_letter L A G H p x a l
