use Rattle.std.proofs.Common.{◌∙◌, ap}
use Rattle.vc_model.specs.Sums.{sum_over}
use Rattle.vc_terms.specs.Terms.{terms_of, coefficient_of}
use Rattle.vc_terms.proofs.TermLaws.{list_of-terms_of, sum_coefficient-is, sum_coefficient-append, product_coefficient-append, product_coefficient-one}
use Rattle.vc_terms.proofs.terms.members_of_terms.Goals as goal

pub returns-clause-sum : goal.returns-clause-sum
returns-clause-sum g c R ts w = sum_coefficient-is R (terms_of ts) w ∙ ap (sum_over R (λ t. coefficient_of R t w)) (list_of-terms_of ts)

pub returns-clause-sums : goal.returns-clause-sums
returns-clause-sums g c R L = sum_coefficient-append L

pub returns-clause-products : goal.returns-clause-products
returns-clause-products g c R L = product_coefficient-append L

pub returns-clause-product_of_one : goal.returns-clause-product_of_one
returns-clause-product_of_one g c R L = product_coefficient-one L
