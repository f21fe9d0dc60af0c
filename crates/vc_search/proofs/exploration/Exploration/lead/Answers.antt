use Rattle.std.proofs.Common.{[], ap, arith, length, length-append, subst}
use Rattle.vc_search.specs.Courses.{Course, IsStopped, NoStep}
use Rattle.vc_search.specs.CourseLaws.{add_stops}
use Rattle.vc_search.specs.FoundLaws.{with_key-longer}
use Rattle.vc_search.proofs.exploration.Exploration.lead.Goals as goal

pub add-requires-clause-from : goal.add-requires-clause-from
add-requires-clause-from g c =
    let ks = c.args.self.now.members in
    let l = with_key-longer g.K.PartialEq.eq ks c.args.to in
    let n = ap (λ (z : Course g.row.S-Value.Denot g.row.K.Denot). length z.members) c.in-Ok.ensures.ok in
    let f = c.requires.from in
    omega (arith, f, n, ap length l.is, length-append ks l.more)

pub returns-in-Err-add-clause-fault : goal.returns-in-Err-add-clause-fault
returns-in-Err-add-clause-fault g c =
    let eq = g.K.PartialEq.eq in
    let f = c.in-Err-add.fault in
    add_stops eq c.args.self.now c.args.to f (subst (λ (z : Course g.row.S-Value.Denot g.row.K.Denot). IsStopped eq NoStep z [] 1 f) c.in-Ok.ensures.ok c.in-Err-add.ensures.fault)
