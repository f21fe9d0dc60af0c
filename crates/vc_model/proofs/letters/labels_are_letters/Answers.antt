use Rattle.vc_model.specs.LetterRows.{proper-HasLetters, HasLetters-IsProper}
use Rattle.vc_model.proofs.letters.labels_are_letters.Goals as goal

pub returns-clause-letters : goal.returns-clause-letters
returns-clause-letters g c R A G full short t i = proper-HasLetters A G.label full short t i

pub returns-clause-proper : goal.returns-clause-proper
returns-clause-proper g c A H t i e = HasLetters-IsProper A H t i e
