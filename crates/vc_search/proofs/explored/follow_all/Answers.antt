use Rattle.std.proofs.Common.{◌∙◌, refl, sym, subst, ap, arith}
use Rattle.vc_search.specs.Courses.{begun_all, IsStopped, NoStep}
use Rattle.vc_search.specs.Explored.{next_by}
use Rattle.vc_search.specs.FoundLaws.{place_found, place_none}
use Rattle.vc_search.proofs.FollowedLaws.{ends, goes_on, starts, stops, stops_first}
use Rattle.vc_search.proofs.explored.follow_all.Goals as goal

pub returns-in-Err-clause-fault : goal.returns-in-Err-clause-fault
returns-in-Err-clause-fault g c =
    let R = g.S.Semiring.set in
    let eq = g.M.Key.PartialEq.eq in
    let M = g.M.Moves in
    let m = c.args.moves.now in
    let laws = c.members_are_numbered.ensures in
    let f = c.in-Err.fault in
    stops_first eq (λ k. (g.met.M.Moves.same k k).1 refl) M.past (M.first m) (M.items m) (M.is_member m) c.args.most (g.L.LabelSet.sets c.args.labels) R (M.is_step m)
    (laws.once eq g.met.M.Moves.same (next_by (M.items m)) (M.first m)) (laws.found eq g.met.M.Moves.same (next_by (M.items m)) (M.first m)) f
    (subst (λ z. IsStopped eq NoStep z (M.first m) 0 f) c.new-exploration.ensures c.in-Err.ensures.fault)

pub loop-key-init : goal.loop-key-init
loop-key-init g c =
    let eq = g.M.Key.PartialEq.eq in
    let M = g.M.Moves in
    let m = c.args.moves.now in
    starts eq (λ k. (g.met.M.Moves.same k k).1 refl) M.past (M.first m) (M.items m) (M.is_member m) c.args.most (g.L.LabelSet.sets c.args.labels) c.begin.new.into
    (c.in_default.ensures.ok ∙ ap (λ z. begun_all eq z (M.first m)) c.new-exploration.ensures) c.in_default.ensures.members

pub returns-in-Err-follow-clause-fault : goal.returns-in-Err-follow-clause-fault
returns-in-Err-follow-clause-fault g c =
    let R = g.S.Semiring.set in
    let eq = g.M.Key.PartialEq.eq in
    let M = g.M.Moves in
    let m = c.args.moves.now in
    let laws = c.members_are_numbered.ensures in
    stops eq (λ k. (g.met.M.Moves.same k k).1 refl) M.past (M.first m) (M.items m) (M.is_member m) c.args.most (g.L.LabelSet.sets c.args.labels)
    c.loop-key.exploration c.loop-key.number c.in-Some.key c.loop-key.invariant (sym c.in-Some.ensures.member) R (M.is_step m)
    (laws.once eq g.met.M.Moves.same (next_by (M.items m)) (M.first m)) (laws.found eq g.met.M.Moves.same (next_by (M.items m)) (M.first m))
    c.in-Err-follow.ensures.once c.in-Err-follow.fault c.in-Err-follow.ensures.fault

pub loop-key-preserved : goal.loop-key-preserved
loop-key-preserved g c =
    let M = g.M.Moves in
    let m = c.args.moves.now in
    goes_on g.M.Key.PartialEq.eq (λ k. (g.met.M.Moves.same k k).1 refl) M.past (M.first m) (M.items m) (M.is_member m) c.args.most (g.L.LabelSet.sets c.args.labels)
    c.loop-key.exploration c.loop-key.number c.in-Some.key c.loop-key.invariant (sym c.in-Some.ensures.member) c.follow.new.into
    c.in_default-follow.ensures.ok c.in_default-follow.ensures.members c.in_default-follow.ensures.once

pub loop-key-smaller : goal.loop-key-smaller
loop-key-smaller g c =
    let k = c.loop-key.number in
    let p = place_found c.loop-key.exploration.members k c.in-Some.key g.M.Moves.past (sym c.in-Some.ensures.member) in
    omega (arith, p.0, c.in-Some.ensures.few, c.loop-key.invariant.most)

pub follow-requires-clause-member : goal.follow-requires-clause-member
follow-requires-clause-member g c =
    let p = place_found c.loop-key.exploration.members c.loop-key.number c.in-Some.key g.M.Moves.past (sym c.in-Some.ensures.member) in
    c.loop-key.invariant.members c.in-Some.key p.1

pub follow-requires-clause-from : goal.follow-requires-clause-from
follow-requires-clause-from g c = (place_found c.loop-key.exploration.members c.loop-key.number c.in-Some.key g.M.Moves.past (sym c.in-Some.ensures.member)).0

pub returns-clause-followed : goal.returns-clause-followed
returns-clause-followed g c =
    let eq = g.M.Key.PartialEq.eq in
    let M = g.M.Moves in
    let m = c.args.moves.now in
    let e = c.loop-key.exploration in
    ends eq (λ k. (g.met.M.Moves.same k k).1 refl) M.past (M.first m) (M.items m) (M.is_member m) c.args.most (g.L.LabelSet.sets c.args.labels) e c.loop-key.number
    c.loop-key.invariant (place_none e.members c.loop-key.number (sym c.in_default-member.ensures.member))
