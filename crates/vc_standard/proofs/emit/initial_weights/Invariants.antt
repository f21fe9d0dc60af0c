use Rattle.std.proofs.Common.{◌≡◌, ◌∷◌, replicate}
use Rattle.vc_model.specs.WeightSet.{InRange}
use Rattle.vc_standard.proofs.emit.initial_weights.Given as goal

abbrev pub invariant-loop : goal.invariant-loop
invariant-loop g l =
    let R = g.S.Semiring.set in
    record {
      made : l.weights.items ≡ R.one ∷ replicate l.counter R.zero;
      in_range : InRange R l.weights.items;
    }
