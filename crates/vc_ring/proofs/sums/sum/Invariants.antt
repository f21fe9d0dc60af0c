use Rattle.std.proofs.Common.{◌≡◌, ◌≤◌, length, drop, IsTrue}
use Rattle.vc_model.specs.Sums.{sum_onto}
use Rattle.vc_ring.specs.Sums.{sum_steps}
use Rattle.vc_ring.specs.Steps.{outcome}
use Rattle.vc_ring.proofs.sums.sum.Given as goal

-- what the rest of the list comes to from here is what the whole list comes to
abbrev pub invariant-loop-weight : goal.invariant-loop-weight
invariant-loop-weight g l =
    let R = g.S.Semiring.set in
    let rest = drop l.weight-index l.list in
    (l.weight-index ≤ length l.list) × IsTrue (R.in_range l.total) × (outcome R (sum_steps R l.total rest) (sum_onto R l.total rest) ≡ outcome R (sum_steps R R.zero l.list) (sum_onto R R.zero l.list))
