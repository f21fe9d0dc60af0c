use Rattle.std.proofs.Common.{◌∙◌, sym, ap, subst, Ok}
use Rattle.vc_terms.specs.Terms.{Sum, terms_of}
use Rattle.vc_ring.specs.Sums.{sum_steps}
use Rattle.vc_expr.specs.Answers.{IsMade}
use Rattle.vc_expr.specs.Facts.{facts_of}
use Rattle.vc_expr.specs.Names.{trees_of}
use Rattle.vc_expr.specs.Steps.{constants}
use Rattle.vc_expr.proofs.StoreLaws.{has_below, trees_at_places}
use Rattle.vc_expr.proofs.BuildingLaws.{sum_is_stored, fits_any, fails_any}
use Rattle.vc_expr.proofs.store.Exprs.add_sum.Goals as goal

pub put-requires-clause-parts : goal.put-requires-clause-parts
put-requires-clause-parts g c = has_below c.args.self.now c.args.members.items c.requires.has

pub put-requires-clause-facts : goal.put-requires-clause-facts
put-requires-clause-facts g c =
    (sum_is_stored g.S.Semiring.set g.S.Value.PartialEq.eq c.args.self.now c.args.members.items c.in-Ok.facts (sym c.in-Ok.is ∙ (rw c.deref.ensures.value at c.sum_facts.ensures.value)) c.requires.many c.requires.members (rw c.deref.ensures.value at c.in-Ok.ensures.in_range)).0

pub put-requires-clause-root : goal.put-requires-clause-root
put-requires-clause-root g c =
    (sum_is_stored g.S.Semiring.set g.S.Value.PartialEq.eq c.args.self.now c.args.members.items c.in-Ok.facts (sym c.in-Ok.is ∙ (rw c.deref.ensures.value at c.sum_facts.ensures.value)) c.requires.many c.requires.members (rw c.deref.ensures.value at c.in-Ok.ensures.in_range)).1

pub returns-in-Ok-clause-answer : goal.returns-in-Ok-clause-answer
returns-in-Ok-clause-answer g c =
    let R = g.S.Semiring.set in
    let ts = trees_of c.args.self.now c.args.members.items in
    subst (λ m. IsMade c.put.new.self m c.put.result)
    (ap (λ us. Ok (Sum (terms_of us))) (trees_at_places c.args.self.now c.args.members.items)
    ∙ sym (fits_any R (sum_steps R R.zero (constants R ts)) c.in-Ok.facts (facts_of R (Sum (terms_of ts))) (Sum (terms_of ts)) (sym c.in-Ok.is ∙ (rw c.deref.ensures.value at c.sum_facts.ensures.value))))
    c.put.ensures.answer

pub returns-in-Err-clause-answer : goal.returns-in-Err-clause-answer
returns-in-Err-clause-answer g c =
    let R = g.S.Semiring.set in
    let ts = trees_of c.args.self.now c.args.members.items in
    fails_any R (sum_steps R R.zero (constants R ts)) c.in-Err.step (facts_of R (Sum (terms_of ts))) (Sum (terms_of ts)) (sym c.in-Err.is ∙ (rw c.deref.ensures.value at c.sum_facts.ensures.value))
