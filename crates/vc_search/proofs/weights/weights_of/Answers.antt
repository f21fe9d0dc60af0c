use Rattle.std.proofs.Common.{sym, arith, ◌∙◌}
use Rattle.vc_search.specs.FoundLaws.{place_found, place_none}
use Rattle.vc_search.proofs.Weighing.{in_range_more, taken_all, weighed_more}
use Rattle.vc_search.proofs.weights.weights_of.Goals as goal

pub loop-key-preserved : goal.loop-key-preserved
loop-key-preserved g c =
    let M = g.M.Moves in
    let m = c.args.moves.now in
    let ks = c.args.search.now.members in
    let n = c.loop-key.number in
    let k = c.in-Some.key.now in
    let s = sym c.in-Some.ensures.member in
    let p = place_found ks n k M.past s in
    let old = c.loop-key.invariant in
    record {
      begins = weighed_more (M.initial m) ks n k c.loop-key.begins.items c.push.new.self.items c.in-Ok.weights.0 s old.begins c.in-Ok-push.ensures.items c.in-Ok.ensures.initial;
      ends = weighed_more (M.last m) ks n k c.loop-key.ends.items c.push-in-Some.new.self.items c.in-Ok.weights.1 s old.ends c.in-Ok-push-2.ensures.items c.in-Ok.ensures.last;
      begins_in = in_range_more g.S.Semiring.set c.loop-key.begins.items c.push.new.self.items c.in-Ok.weights.0 c.in-Ok-push.ensures.items old.begins_in c.in-Ok.ensures.initial_in;
      ends_in = in_range_more g.S.Semiring.set c.loop-key.ends.items c.push-in-Some.new.self.items c.in-Ok.weights.1 c.in-Ok-push-2.ensures.items old.ends_in c.in-Ok.ensures.last_in;
      within = omega (arith, p.0);
    }

pub loop-key-smaller : goal.loop-key-smaller
loop-key-smaller g c =
    let p = place_found c.args.search.now.members c.loop-key.number c.in-Some.key.now g.M.Moves.past (sym c.in-Some.ensures.member) in
    omega (arith, p.0)

pub weights-requires : goal.weights-requires
weights-requires g c = c.requires c.in-Some.key.now (place_found c.args.search.now.members c.loop-key.number c.in-Some.key.now g.M.Moves.past (sym c.in-Some.ensures.member)).1

pub returns-in-Err-clause-fault : goal.returns-in-Err-clause-fault
returns-in-Err-clause-fault g c =
    let p = place_found c.args.search.now.members c.loop-key.number c.in-Some.key.now g.M.Moves.past (sym c.in-Some.ensures.member) in
    (c.in-Some.key.now, p.1, c.in-Err.ensures.step.0, c.in-Err.ensures.step.1)

pub overflow_add-number : goal.overflow_add-number
overflow_add-number g c =
    let p = place_found c.args.search.now.members c.loop-key.number c.in-Some.key.now g.M.Moves.past (sym c.in-Some.ensures.member) in
    omega (arith, p.0, c.in-Some.ensures.few, c.in-Some.ensures.most)

pub returns-clause-initial : goal.returns-clause-initial
returns-clause-initial g c =
    let ks = c.args.search.now.members in
    let n = c.loop-key.number in
    c.loop-key.invariant.begins ∙ taken_all (g.M.Moves.initial c.args.moves.now) ks n (place_none ks n (sym c.in_default.ensures.member))

pub returns-clause-last : goal.returns-clause-last
returns-clause-last g c =
    let ks = c.args.search.now.members in
    let n = c.loop-key.number in
    c.loop-key.invariant.ends ∙ taken_all (g.M.Moves.last c.args.moves.now) ks n (place_none ks n (sym c.in_default.ensures.member))
