use Rattle.std.proofs.Common.{◌∙◌, sym, subst, IsTrue}
use Rattle.vc_model.specs.Sums.{sum_onto}
use Rattle.vc_terms.specs.Terms.{Sum, terms_of}
use Rattle.vc_ring.specs.Sums.{sum_steps}
use Rattle.vc_expr.specs.Facts.{facts_of}
use Rattle.vc_expr.specs.Names.{trees_of}
use Rattle.vc_expr.specs.Steps.{constants}
use Rattle.vc_expr.proofs.BuildingLaws.{fails_any, sum_facts_are}
use Rattle.vc_expr.proofs.store.Exprs.sum_facts.Goals as goal

pub returns-in-Err-clause-value : goal.returns-in-Err-clause-value
returns-in-Err-clause-value g c =
    let R = g.S.Semiring.set in
    let ts = trees_of c.args.self.now c.args.members.now in
    sym (fails_any R (sum_steps R R.zero (constants R ts)) c.in-Err.step (sum_onto R R.zero (constants R ts)) (facts_of R (Sum (terms_of ts))) (sym c.in-Err.is ∙ c.sum_of_constants.ensures.value))

pub returns-clause-value : goal.returns-clause-value
returns-clause-value g c =
    (sum_facts_are g.S.Semiring.set g.met.S.Semiring.laws (trees_of c.args.self.now c.args.members.now) c.in-Ok.constant c.letters_in.result c.bounds_in.result c.all_basic.result
    (sym c.in-Ok.is ∙ c.sum_of_constants.ensures.value) c.letters_in.ensures c.bounds_in.ensures c.all_basic.ensures).0

pub returns-clause-in_range : goal.returns-clause-in_range
returns-clause-in_range g c =
    subst (λ v. IsTrue (g.S.Semiring.set.in_range v))
    (sum_facts_are g.S.Semiring.set g.met.S.Semiring.laws (trees_of c.args.self.now c.args.members.now) c.in-Ok.constant c.letters_in.result c.bounds_in.result c.all_basic.result
    (sym c.in-Ok.is ∙ c.sum_of_constants.ensures.value) c.letters_in.ensures c.bounds_in.ensures c.all_basic.ensures).1
    c.in-Ok.ensures.in_range
