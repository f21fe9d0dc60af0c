use Rattle.std.proofs.Common.{◌≡◌, map, take, not}
use Rattle.vc_aut.proofs.links.weighty.Given as goal

abbrev pub invariant-loop-weight : goal.invariant-loop-weight
invariant-loop-weight g l = l.marks.items ≡ map (λ w. not (g.S.Value.PartialEq.eq w g.S.Semiring.set.zero)) (take l.weight-index l.weights)
