use Rattle.vc_rat.proofs.Division.{divisor-positive, divisor-in}
use Rattle.vc_rat.proofs.products.product_parts.Goals as goal

pub product_of_quotients-requires-clause-g_positive : goal.product_of_quotients-requires-clause-g_positive
product_of_quotients-requires-clause-g_positive c = divisor-positive _ _ _ c.requires.d_positive c.gcd-first.ensures.greatest

pub product_of_quotients-requires-clause-h_positive : goal.product_of_quotients-requires-clause-h_positive
product_of_quotients-requires-clause-h_positive c = divisor-positive _ _ _ c.requires.b_positive c.gcd-second.ensures.greatest

pub product_of_quotients-requires-clause-g_in : goal.product_of_quotients-requires-clause-g_in
product_of_quotients-requires-clause-g_in c = divisor-in _ _ _ c.requires.d_positive c.gcd-first.ensures.greatest c.requires.d_in

pub product_of_quotients-requires-clause-h_in : goal.product_of_quotients-requires-clause-h_in
product_of_quotients-requires-clause-h_in c = divisor-in _ _ _ c.requires.b_positive c.gcd-second.ensures.greatest c.requires.b_in

pub nonzero_div-b : goal.nonzero_div-b
nonzero_div-b c = divisor-positive _ _ _ c.requires.b_positive c.gcd-second.ensures.greatest

pub nonzero_div-d : goal.nonzero_div-d
nonzero_div-d c = divisor-positive _ _ _ c.requires.d_positive c.gcd-first.ensures.greatest
