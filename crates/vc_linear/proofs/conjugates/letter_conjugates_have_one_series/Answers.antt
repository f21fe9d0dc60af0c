use Rattle.vc_linear.proofs.ConjugateLaws.{step_by_entries, letter_future, letter_coefficient}
use Rattle.vc_linear.proofs.conjugates.letter_conjugates_have_one_series.Goals as goal

pub returns-clause-entries : goal.returns-clause-entries
returns-clause-entries g c R L A G p x f = step_by_entries L A G.to p x f

pub returns-clause-future : goal.returns-clause-future
returns-clause-future g c R L = letter_future L

pub returns-clause-coefficient : goal.returns-clause-coefficient
returns-clause-coefficient g c R L = letter_coefficient L
