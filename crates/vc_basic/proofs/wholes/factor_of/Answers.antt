use Rattle.std.proofs.Common.{rules, FitsSigned}
use mir.Syntax.{w128}
use Rattle.vc_basic.proofs.Factors.{divisor_fits, product_fits, factor_is}
use Rattle.vc_basic.proofs.wholes.factor_of.Goals as goal

pub overflow_cast-divisor : goal.overflow_cast-divisor
overflow_cast-divisor c = divisor_fits c.args.row.now c.divisor_of-divisor.result c.divisor_of-divisor.ensures c.requires

pub overflow_mul-result : goal.overflow_mul-result
overflow_mul-result c =
    let fits : FitsSigned w128 c.sign_of.result = search rules in
    product_fits c.args.row.now c.sign_of.result c.divisor_of-divisor.result c.sign_of.ensures c.divisor_of-divisor.ensures fits c.requires

pub returns : goal.returns
returns c =
    let fits : FitsSigned w128 c.sign_of.result = search rules in
    factor_is c.args.row.now c.sign_of.result c.divisor_of-divisor.result c.sign_of.ensures c.divisor_of-divisor.ensures fits c.requires
