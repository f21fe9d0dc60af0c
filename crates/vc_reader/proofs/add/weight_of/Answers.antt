use Rattle.std.proofs.Common.{rules}
use Rattle.vc_reader.proofs.TokenWeights.{past_numeral}
use Rattle.vc_reader.proofs.add.weight_of.Goals as goal

pub returns-in-Err-Overflow-clause-answer : goal.returns-in-Err-Overflow-clause-answer
returns-in-Err-Overflow-clause-answer g c =
    past_numeral g.S.Semiring.set g.S.Semiring.spelled g.S.Semiring.numbers_fit c.args.token c.in-Some.token c.inside.result.now c.in-Some.is c.inside.ensures (search rules)
