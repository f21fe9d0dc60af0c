use Rattle.std.proofs.Common.{rules, ◌≡◌, true}
use Rattle.std.specs.Prelude.{not}
use Rattle.std.specs.Ordering.{is_lt}
use Rattle.vc_aut.specs.Order.{triple_order}
use Rattle.vc_aut.specs.Stored.{transition_of}
use Rattle.vc_aut.proofs.Ascending.{goes_on_first, goes_on_next}
use Rattle.vc_aut.proofs.Drafted.{not_zero}
use Rattle.vc_aut.proofs.starts.goes_on.Goals as goal

pub returns-then-at-eq0 : goal.returns-then-at-eq0
returns-then-at-eq0 g c e =
    let some : not (g.S.Value.PartialEq.eq c.index-transitions-at.result.weight g.S.Semiring.set.zero) ≡ true = search rules in
    goes_on_first g.S.Semiring.set (transition_of g.L.LabelSet.parts) c.args.transitions.now c.args.at c.index-transitions-at.result c.requires c.index-transitions-at.is
    (not_zero g.S.Semiring.set g.S.Value.PartialEq.eq g.met.S.Semiring.same c.index-transitions-at.result.weight some) e

pub returns-else-at-eq0 : goal.returns-else-at-eq0
returns-else-at-eq0 g c e =
    let tr = transition_of {L = g.row.L.Denot} {S = g.row.S.Denot} {V = g.row.S-Value.Denot} g.L.LabelSet.parts in
    let some : not (g.S.Value.PartialEq.eq c.index-transitions-at.result.weight g.S.Semiring.set.zero) ≡ true = search rules in
    let less : is_lt (triple_order (tr c.index-transitions-at-else-at-eq0.result) (tr c.index-transitions-at.result)) ≡ true = rw (← c.order.ensures, ← c.is_lt.ensures) e in
    goes_on_next g.S.Semiring.set tr c.args.transitions.now c.args.at c.index-transitions-at.result c.index-transitions-at-else-at-eq0.result c.requires c.index-transitions-at.is c.index-transitions-at-else-at-eq0.is
    (not_zero g.S.Semiring.set g.S.Value.PartialEq.eq g.met.S.Semiring.same c.index-transitions-at.result.weight some) less
