use Rattle.std.proofs.Common.{rules, ◌≡◌, ◌-◌, List, length, drop, take, subst}
use Rattle.vc_expr.specs.Answers.{product_answer}
use Rattle.vc_expr.specs.Names.{trees_of}
use Rattle.vc_expr.specs.declared.expr.Expr.{Expr}
use Rattle.vc_exprio.specs.BuildAnswers.{IsPut}
use Rattle.vc_exprio.specs.Building.{product_call}
use Rattle.vc_exprio.proofs.StackNames.{IsLast, given_made, names_replaced, slice_is_last}
use Rattle.vc_exprio.proofs.build.build_product.Goals as goal

pub returns-clause-answer : goal.returns-clause-answer
returns-clause-answer g c =
    let R = g.S.Semiring.set in
    let same = g.S.Value.PartialEq.eq in
    let old = c.args.exprs.now in
    let names : List Expr = c.args.names.now.items in
    let lent : c.deref.result.now ≡ names = search rules in
    let many : c.len.result ≡ length names = search rules in
    let last = take (length c.deref.result.now - (c.len.result - c.args.count)) (drop (c.len.result - c.args.count) c.deref.result.now) in
    let cut : IsLast names c.args.count last = slice_is_last names c.deref.result.now c.len.result c.args.count lent many c.requires.enough in
    let front : c.truncate.new.self.items ≡ take (length names - c.args.count) names = search rules in
    let put : IsPut (take (length names - c.args.count) names) c.product-answer.result c.put.new.names.items c.put.result =
    subst (λ es. IsPut es c.product-answer.result c.put.new.names.items c.put.result) front c.put.ensures in
    names_replaced c.args.count (product_call R same) old c.product-answer.new.self names (take (length names - c.args.count) names) last c.put.new.names.items c.product-answer.result c.put.result
    cut.many cut.cut c.requires.names c.product-answer.ensures.grows (given_made (product_answer R same (trees_of old last)) c.product-answer.new.self c.product-answer.result c.product-answer.ensures.answer) put
