use Rattle.std.proofs.Common.{◌∙◌, sym, subst, IsTrue}
use Rattle.vc_terms.specs.Identities.{times_onto}
use Rattle.vc_terms.specs.Terms.{Product, terms_of}
use Rattle.vc_expr.specs.Facts.{facts_of}
use Rattle.vc_expr.specs.Names.{trees_of}
use Rattle.vc_expr.specs.Steps.{constants, times_steps}
use Rattle.vc_expr.proofs.BuildingLaws.{fails_any, product_facts_are}
use Rattle.vc_expr.proofs.store.Exprs.product_facts.Goals as goal

pub returns-in-Err-clause-value : goal.returns-in-Err-clause-value
returns-in-Err-clause-value g c =
    let R = g.S.Semiring.set in
    let ts = trees_of c.args.self.now c.args.factors.now in
    sym (fails_any R (times_steps R R.one (constants R ts)) c.in-Err.step (times_onto R R.one (constants R ts)) (facts_of R (Product (terms_of ts))) (sym c.in-Err.is ∙ c.product_of_constants.ensures.value))

pub returns-clause-value : goal.returns-clause-value
returns-clause-value g c =
    (product_facts_are g.S.Semiring.set g.met.S.Semiring.laws (trees_of c.args.self.now c.args.factors.now) c.in-Ok.constant c.letters_in.result c.bounds_in.result c.all_basic.result
    (sym c.in-Ok.is ∙ c.product_of_constants.ensures.value) c.letters_in.ensures c.bounds_in.ensures c.all_basic.ensures).0

pub returns-clause-in_range : goal.returns-clause-in_range
returns-clause-in_range g c =
    subst (λ v. IsTrue (g.S.Semiring.set.in_range v))
    (product_facts_are g.S.Semiring.set g.met.S.Semiring.laws (trees_of c.args.self.now c.args.factors.now) c.in-Ok.constant c.letters_in.result c.bounds_in.result c.all_basic.result
    (sym c.in-Ok.is ∙ c.product_of_constants.ensures.value) c.letters_in.ensures c.bounds_in.ensures c.all_basic.ensures).1
    c.in-Ok.ensures.in_range
