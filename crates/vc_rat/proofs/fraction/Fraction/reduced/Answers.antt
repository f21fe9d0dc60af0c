use Rattle.std.proofs.Common.{FitsSigned}
use mir.Syntax.{w128}
use Rattle.vc_rat.proofs.Division.{divisor-positive, divisor-in, quotients-lowest, quotients-same}
use Rattle.vc_rat.proofs.fraction.Fraction.reduced.Goals as goal

pub divide-requires-clause-by_in : goal.divide-requires-clause-by_in
divide-requires-clause-by_in c = divisor-in _ _ _ c.requires.positive c.gcd-common.ensures.greatest c.requires.bottom_in

pub divide-requires-clause-positive : goal.divide-requires-clause-positive
divide-requires-clause-positive c = divisor-positive _ _ _ c.requires.positive c.gcd-common.ensures.greatest

pub nonzero_div-bottom : goal.nonzero_div-bottom
nonzero_div-bottom c = divisor-positive _ _ _ c.requires.positive c.gcd-common.ensures.greatest

pub lowest-requires-clause-lowest : goal.lowest-requires-clause-lowest
lowest-requires-clause-lowest c =
    let fits : FitsSigned w128 c.divide.result = record { sfits = c.divide.type_inv } in
    quotients-lowest c.args.top c.divide.result _ _ _ c.ranges.top fits c.requires.positive c.unsigned_abs.ensures.value c.gcd-common.ensures.value c.divide.ensures

pub returns-clause-same : goal.returns-clause-same
returns-clause-same c =
    let fits : FitsSigned w128 c.divide.result = record { sfits = c.divide.type_inv } in
    quotients-same c.args.top c.divide.result _ _ _ _ _ c.ranges.top fits c.unsigned_abs.ensures.value c.gcd-common.ensures.value c.divide.ensures c.lowest.ensures.top c.lowest.ensures.bottom
