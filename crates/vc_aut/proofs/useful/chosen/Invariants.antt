use Rattle.std.proofs.Common.{◌≡◌, map, take, slice_index_or}
use Rattle.vc_aut.proofs.useful.chosen.Given as goal

abbrev pub invariant-loop-state : goal.invariant-loop-state
invariant-loop-state g l = l.list.items ≡ map (λ q. slice_index_or l.weights q g.S.Semiring.set.zero) (take l.state-index l.states)
