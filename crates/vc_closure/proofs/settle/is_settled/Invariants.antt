use Rattle.std.proofs.Common.{ℕ, take}
use Rattle.vc_closure.specs.Rows.{entries_at, sum_at}
use Rattle.vc_closure.specs.Settled.{AddsNothing}
use Rattle.vc_model.specs.Lists.{In}
use Rattle.vc_closure.proofs.settle.is_settled.Given as goal

abbrev pub invariant-loop-from : goal.invariant-loop-from
invariant-loop-from g l =
    let R = g.S.Semiring.set in
    (p : ℕ) → In p (take l.from-index l.touched) → AddsNothing R (sum_at R l.sums) (sum_at R l.sums p) (entries_at l.moves p)
