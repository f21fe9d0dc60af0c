-- Rows that split into one and themselves.
use Rattle.std.specs.Prelude.{◌≡◌, List, [], ◌∷◌, map, refl}
use Rattle.std.proofs.Common.{ap, subst, ◌∙◌}
use Rattle.vc_model.specs.WeightSet.{WeightSet, SemiringLaws, RangeLaws, SplitLaws, IsZeroRow}
use Rattle.vc_ring.specs.Splits.{SplitRanges}

module _ {V : Type 0} {R : WeightSet V} (L : SemiringLaws R) where
  one_times : (a : V) → R.times R.one a ≡ a
  one_times a = L.times_comm R.one a ∙ L.times_one a

  times_one_each : (row : List V) → map (R.times R.one) row ≡ row
  times_one_each [] = refl
  times_one_each (a ∷ row) = ap (λ b. b ∷ map (R.times R.one) row) (one_times a) ∙ ap (λ r. a ∷ r) (times_one_each row)

  pub one_splits : SplitLaws R (λ _. R.one) (λ row. row)
  one_splits = record {
    product = λ row h. times_one_each row;
    zero_kept = λ row other h z. subst (λ r. IsZeroRow R r) (times_one_each other) z;
    normal_kept = λ row other h k. times_one_each other;
  }

pub one_split_ranges : {V : Type 0} {R : WeightSet V} → RangeLaws R → SplitRanges R (λ _. R.one) (λ row. row) (λ _. [])
one_split_ranges ranges = record {
  factor_in = λ row p h f. ranges.one_in;
  normal_in = λ row p h f. p;
}
