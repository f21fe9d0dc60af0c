use Rattle.std.proofs.Common.{rules, ◌≡◌, sym, subst}
use Rattle.vc_standard.specs.Closed.{AreClosed}
use Rattle.vc_standard.specs.Shapes.{positions_of}
use Rattle.vc_standard.proofs.ChainLaws.{closed-append, closed_told, closed_test}
use Rattle.vc_standard.proofs.product.settle.Goals as goal

pub invariant_of-result : goal.invariant_of-result
invariant_of-result g c =
    let parts = g.L.LabelSet.parts in
    let set = g.S.Semiring.set in
    let eq = g.S.Value.PartialEq.eq in
    let L = g.met.S.Semiring.laws in
    let Q = g.met.S.Semiring.same in
    let closed = positions_of parts c.args.chain.closed in
    let ready = positions_of parts c.args.chain.ready in
    let z : c.args.c ≡ set.zero = search rules in
    let all : AreClosed set (positions_of parts c.in_ok-closed.closed) = subst (AreClosed set) (sym c.in_ok-closed.ensures.positions) (closed-append set closed ready (closed_told L eq Q closed c.args.chain.closed_are) (c.requires z)) in
    record { closed_are = closed_test L eq Q (positions_of parts c.in_ok-closed.closed) all }
