use Rattle.std.proofs.Common.{[], ◌∷◌, refl}
use Rattle.vc_expr.specs.Answers.{star_answer}
use Rattle.vc_expr.specs.Names.{tree_of}
use Rattle.vc_exprio.specs.Building.{star_call}
use Rattle.vc_exprio.specs.Making.{of_one}
use Rattle.vc_exprio.proofs.StackNames.{given_star, last_has, names_replaced}
use Rattle.vc_exprio.proofs.build.build_star.Goals as goal

pub returns-clause-answer : goal.returns-clause-answer
returns-clause-answer g c =
    let R = g.S.Semiring.set in
    let old = c.args.exprs.now in
    let names = c.args.names.now.items in
    let front = c.pop-operand.new.names.items in
    let e = c.pop-operand.result in
    names_replaced 1 (of_one (star_call R g.S.Value.PartialEq.eq)) old c.star.new.self names front (e ∷ []) c.put.new.names.items c.star.result c.put.result
    refl c.pop-operand.ensures c.requires.names c.star.ensures.grows
    (given_star (star_answer R (tree_of old e)) old c.star.new.self e c.star.result c.star.ensures.grows (last_has old names front e c.pop-operand.ensures c.requires.names) c.star.ensures.answer) c.put.ensures
