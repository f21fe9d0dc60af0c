use Rattle.std.proofs.Common.{rules, arith, ◌≡◌, ◌+◌, ◌-◌, ◌++◌, take, replicate, ◌<◌, ◌≤◌, true, length, refl, subst}
use Rattle.std.proofs.lemmas.List.Elements.{at_read}
use Rattle.vc_aut.specs.Stored.{transition_of}
use Rattle.vc_aut.proofs.Ascending.{filled, walked_all, walked_more, IsWalked}
use Rattle.vc_aut.proofs.Order.{triple_order_total}
use Rattle.vc_aut.proofs.starts.starts_of_sum.Goals as goal

pub loop-at-preserved : goal.loop-at-preserved
loop-at-preserved g c =
    let inside : c.loop-at.at < length c.args.transitions.now = omega arith in
    let went : c.goes_on.result ≡ true = search rules in
    let items : c.resize.new.self.items ≡ take (c.index-transitions-at.result.from + 1) c.loop-at.starts.items ++ replicate (c.index-transitions-at.result.from + 1 - c.loop-at.starts.len) c.loop-at.at =
    rw c.index-transitions-at.is c.in_ok-resize.ensures.items in
    walked_more g.S.Semiring.set (transition_of g.L.LabelSet.parts) c.args.transitions.now c.loop-at.starts.items c.loop-at.at c.loop-at.invariant c.index-transitions-at.result
    (λ d. at_read c.args.transitions.now (λ t. t ≡ c.index-transitions-at.result) c.loop-at.at c.index-transitions-at.result inside c.index-transitions-at.is refl d)
    (c.goes_on.ensures went) c.resize.new.self.items
    (filled c.loop-at.starts.items c.resize.new.self.items c.loop-at.starts.len c.loop-at.at (c.index-transitions-at.result.from + 1) c.loop-at.starts.ok.0 items)

pub returns : goal.returns
returns g c =
    let end : c.loop-at.at ≡ length c.args.transitions.now = omega arith in
    let few : length c.args.transitions.now ≤ 4000000 = omega arith in
    let tr = transition_of {L = g.row.L.Denot} {S = g.row.S.Denot} {V = g.row.S-Value.Denot} g.L.LabelSet.parts in
    walked_all g.S.Semiring.set tr c.args.transitions.now
    (triple_order_total c.words_are_ordered.ensures.total c.words_are_ordered.ensures.equal) c.loop-at.starts.items
    (subst (IsWalked g.S.Semiring.set tr c.args.transitions.now c.loop-at.starts.items) end c.loop-at.invariant) c.args.states few c.resize-2.new.self.items
    (filled c.loop-at.starts.items c.resize-2.new.self.items c.loop-at.starts.len (length c.args.transitions.now) (c.args.states + 1) c.loop-at.starts.ok.0 c.in_ok-resize-2.ensures.items)
