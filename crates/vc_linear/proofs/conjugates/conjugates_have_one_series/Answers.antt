use Rattle.vc_linear.proofs.ConjugateLaws.{conjugate_within, conjugate_coefficient_within, conjugate_future, conjugate_coefficient}
use Rattle.vc_linear.proofs.conjugates.conjugates_have_one_series.Goals as goal

pub returns-clause-within : goal.returns-clause-within
returns-clause-within g c R L = conjugate_within L

pub returns-clause-coefficient_within : goal.returns-clause-coefficient_within
returns-clause-coefficient_within g c R L = conjugate_coefficient_within L

pub returns-clause-future : goal.returns-clause-future
returns-clause-future g c R L = conjugate_future L

pub returns-clause-coefficient : goal.returns-clause-coefficient
returns-clause-coefficient g c R L = conjugate_coefficient L
