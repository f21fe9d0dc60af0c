use Rattle.vc_terms.proofs.SeriesLaws.{product_assoc, plus_product, product_plus, one_product, zero_product, product_zero, weight_product, product_weight, product_one, product_at_empty, product_same_on}
use Rattle.vc_terms.proofs.series.products_of_series.Goals as goal

pub returns-clause-grouped : goal.returns-clause-grouped
returns-clause-grouped g c R L = product_assoc L

pub returns-clause-one_left : goal.returns-clause-one_left
returns-clause-one_left g c R L = one_product L

pub returns-clause-one_right : goal.returns-clause-one_right
returns-clause-one_right g c R L = product_one L

pub returns-clause-zero_left : goal.returns-clause-zero_left
returns-clause-zero_left g c R L = zero_product L

pub returns-clause-zero_right : goal.returns-clause-zero_right
returns-clause-zero_right g c R L = product_zero L

pub returns-clause-plus_left : goal.returns-clause-plus_left
returns-clause-plus_left g c R L = plus_product L

pub returns-clause-plus_right : goal.returns-clause-plus_right
returns-clause-plus_right g c R L = product_plus L

pub returns-clause-weight_left : goal.returns-clause-weight_left
returns-clause-weight_left g c R L = weight_product L

pub returns-clause-weight_right : goal.returns-clause-weight_right
returns-clause-weight_right g c R L = product_weight L

pub returns-clause-same : goal.returns-clause-same
returns-clause-same g c R L = product_same_on L

pub returns-clause-constant : goal.returns-clause-constant
returns-clause-constant g c R L = product_at_empty L
