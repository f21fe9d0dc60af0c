use Rattle.std.proofs.Common.{◌∙◌, sym, subst}
use Rattle.vc_terms.specs.Terms.{terms_of}
use Rattle.vc_ring.specs.Steps.{outcome}
use Rattle.vc_terms.specs.Forms.{AreFactors}
use Rattle.vc_terms.specs.Identities.{product_of_factors}
use Rattle.vc_expr.specs.Answers.{IsMade, product_answer}
use Rattle.vc_expr.specs.Names.{trees_of, tree_of}
use Rattle.vc_expr.specs.Steps.{times_steps, constants}
use Rattle.vc_expr.proofs.StoreLaws.{built_all}
use Rattle.vc_expr.proofs.BuildingLaws.{weights_fail, factors_fail, factors_pass, refused_on}
use Rattle.vc_expr.proofs.store.Exprs.product.Goals as goal

pub returns-in-Err-clause-answer : goal.returns-in-Err-clause-answer
returns-in-Err-clause-answer g c =
    weights_fail g.S.Semiring.set g.S.Value.PartialEq.eq (trees_of c.args.self.now c.args.parts.now) c.in-Err.step (sym c.if-any_zero.ensures) (sym c.in-Err.is ∙ c.weight_in_front.ensures.value)

pub close_product-requires-clause-factors : goal.close_product-requires-clause-factors
close_product-requires-clause-factors g c =
    subst (λ ts. AreFactors (terms_of ts)) (sym c.in_ok-factors.ensures.trees)
    (c.operations_build_trees.ensures.factors g.S.Semiring.set g.S.Value.PartialEq.eq (trees_of c.args.self.now c.args.parts.now) (sym c.if-any_zero.ensures)
    (built_all g.S.Semiring.set g.S.Value.PartialEq.eq c.args.self.now c.args.parts.now c.stores_hold.ensures.store c.requires))

pub returns-in-Ok-close_product-clause-answer : goal.returns-in-Ok-close_product-clause-answer
returns-in-Ok-close_product-clause-answer g c =
    subst (λ m. IsMade c.weight.new.self m c.weight.result)
    (factors_pass g.S.Semiring.set g.S.Value.PartialEq.eq (trees_of c.args.self.now c.args.parts.now) (trees_of c.args.self.now c.in_ok-factors.factors.items) c.in-Ok.weight
    (tree_of c.close_product.new.self c.in-Ok-close_product.inner) (sym c.if-any_zero.ensures) (sym c.in-Ok.is ∙ c.weight_in_front.ensures.value) c.in_ok-factors.ensures.trees c.in-Ok-close_product.ensures.answer.1)
    c.weight.ensures.answer

pub returns-in-Err-close_product-clause-answer : goal.returns-in-Err-close_product-clause-answer
returns-in-Err-close_product-clause-answer g c =
    let R = g.S.Semiring.set in
    let ts = trees_of c.args.self.now c.args.parts.now in
    let fs = trees_of c.args.self.now c.in_ok-factors.factors.items in
    refused_on c.close_product.new.self c.close_product.new.self (outcome R (times_steps R R.one (constants R fs)) (product_of_factors fs)) (product_answer R g.S.Value.PartialEq.eq ts) c.in-Err-close_product.fault
    (λ o e. factors_fail R g.S.Value.PartialEq.eq ts fs c.in-Ok.weight o (sym c.if-any_zero.ensures) (sym c.in-Ok.is ∙ c.weight_in_front.ensures.value) c.in_ok-factors.ensures.trees e)
    c.in-Err-close_product.ensures.answer
