use Rattle.std.proofs.Common.{◌∙◌, refl, sym}
use Rattle.vc_terms.specs.Terms.{constant_of}
use Rattle.vc_expr.specs.Names.{tree_of}
use Rattle.vc_expr.proofs.BuildingLaws.{both_facts}
use Rattle.vc_expr.proofs.store.Exprs.add_both.Goals as goal

pub put-requires-clause-facts : goal.put-requires-clause-facts
put-requires-clause-facts g c =
    let R = g.S.Semiring.set in
    let t = tree_of c.args.self.now c.args.a in
    let u = tree_of c.args.self.now c.args.b in
    both_facts R t u (constant_of R t) (constant_of R u) c.in_ok-constant.constant c.letters.result c.letters-2.result c.bound.result c.bound-2.result c.saturating_add.result c.saturating_mul.result
    refl refl (sym c.in_ok-constant.was ∙ c.product_of_two.ensures.value) c.letters.ensures c.letters-2.ensures c.bound.ensures c.bound-2.ensures c.saturating_add.ensures c.saturating_mul.ensures
