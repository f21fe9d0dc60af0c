use Rattle.vc_model.specs.LetterRows.{row_empty, row_letter}
use Rattle.vc_model.proofs.LetterSplits.{coefficient_split}
use Rattle.vc_model.proofs.letters.rows_by_letter.Goals as goal

pub returns-clause-empty : goal.returns-clause-empty
returns-clause-empty g c R L A G H t l = row_empty L A G H t l

pub returns-clause-letter : goal.returns-clause-letter
returns-clause-letter g c R L A G H a x t l = row_letter L A G H a x t l

pub returns-clause-parts : goal.returns-clause-parts
returns-clause-parts g c R L A G H a b = coefficient_split L A G H a b
