use Rattle.vc_terms.proofs.TapeSeries.{shuffle_empty, zero_shuffle, shuffle_zero, one_shuffle, shuffle_comm, shuffle_one, plus_shuffle, weight_shuffle, shuffle_same_on}
use Rattle.vc_terms.proofs.series.shuffles_of_series.Goals as goal

pub returns-clause-order : goal.returns-clause-order
returns-clause-order g c R L = shuffle_comm L

pub returns-clause-one_left : goal.returns-clause-one_left
returns-clause-one_left g c R L = one_shuffle L

pub returns-clause-one_right : goal.returns-clause-one_right
returns-clause-one_right g c R L = shuffle_one L

pub returns-clause-zero_left : goal.returns-clause-zero_left
returns-clause-zero_left g c R L = zero_shuffle L

pub returns-clause-zero_right : goal.returns-clause-zero_right
returns-clause-zero_right g c R L = shuffle_zero L

pub returns-clause-plus : goal.returns-clause-plus
returns-clause-plus g c R L = plus_shuffle L

pub returns-clause-weight : goal.returns-clause-weight
returns-clause-weight g c R L = weight_shuffle L

pub returns-clause-same : goal.returns-clause-same
returns-clause-same g c R L = shuffle_same_on L

pub returns-clause-constant : goal.returns-clause-constant
returns-clause-constant g c R L = shuffle_empty L
