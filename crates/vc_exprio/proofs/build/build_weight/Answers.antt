use Rattle.std.proofs.Common.{[], ◌∷◌, refl, sym}
use Rattle.vc_expr.specs.Answers.{weight_answer}
use Rattle.vc_expr.specs.Names.{tree_of}
use Rattle.vc_lex.specs.Views.{seen}
use Rattle.vc_exprio.specs.Building.{weight_call}
use Rattle.vc_exprio.specs.Making.{of_one}
use Rattle.vc_exprio.specs.Spelling.{weight_of_mark}
use Rattle.vc_exprio.proofs.StackNames.{given_made, names_replaced}
use Rattle.vc_exprio.proofs.build.build_weight.Goals as goal

pub returns-clause-answer : goal.returns-clause-answer
returns-clause-answer g c =
    let R = g.S.Semiring.set in
    let same = g.S.Value.PartialEq.eq in
    let old = c.args.exprs.now in
    let k = weight_of_mark R g.S.Semiring.spelled (seen c.args.weight) in
    let e = c.pop-operand.result in
    names_replaced 1 (of_one (weight_call R same k)) old c.weight.new.self c.args.names.now.items c.pop-operand.new.names.items (e ∷ []) c.put.new.names.items c.weight.result c.put.result
    refl c.pop-operand.ensures c.requires.names c.weight.ensures.grows
    (given_made (weight_answer R same k (tree_of old e)) c.weight.new.self c.weight.result (rw (sym c.weight_of.ensures.value) c.weight.ensures.answer)) c.put.ensures
