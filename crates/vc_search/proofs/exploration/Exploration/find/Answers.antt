use Rattle.std.proofs.Common.{◌≡◌, ◌∷◌, [], arith, inl, map, refl, subst, true, ◌∙◌}
use Rattle.vc_aut.specs.Stored.{transition_of}
use Rattle.vc_ring.specs.declared.faults.Measure.TheVariants.{States}
use Rattle.vc_search.specs.Courses.{IsPast}
use Rattle.vc_search.specs.Found.{member_refusal}
use Rattle.vc_search.specs.FoundLaws.{full}
use Rattle.vc_search.proofs.Growing.{course_grows, found_grows}
use Rattle.vc_search.proofs.exploration.Exploration.find.Goals as goal

pub invariant_of-self : goal.invariant_of-self
invariant_of-self g c =
    let old = c.self.inside.search in
    let new = c.find.new.self in
    let n = found_grows g.K.PartialEq.eq old new c.args.key c.find.result c.find.ensures.ok c.find.ensures.err in
    let sets = g.L.LabelSet.sets c.self.inside.labels in
    let ts = map (transition_of g.L.LabelSet.parts) c.self.inside.transitions.items in
    let most = c.self.inside.most in
    (c.self.invariant.0 ∙ n.0, course_grows g.S.Semiring.set (record { most = most; sets = sets; members = old.members; transitions = ts }) (record { most = most; sets = sets; members = new.members; transitions = ts }) refl refl n.1 c.self.invariant.1)

pub returns-in-Err-Full-clause-fault : goal.returns-in-Err-Full-clause-fault
returns-in-Err-Full-clause-fault g c =
    let old = c.self.inside.search in
    let a : member_refusal g.K.PartialEq.eq old c.args.key ≡ true = rw c.in-Err-Full.field-0-is at c.in-Err-Full.ensures.answer in
    let f = full g.K.PartialEq.eq old.most c.args.key old.members [] a in
    let m = c.self.invariant.0 in
    subst (λ z. IsPast g.K.PartialEq.eq z (c.args.key ∷ []) 0 (record { what = States; most = c.self.inside.most })) c.self.view_is (inl (refl, omega (arith, f, m)))
