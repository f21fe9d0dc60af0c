-- Rows of weights that were split in part.
use Rattle.std.specs.Prelude.{◌≡◌, ◌<◌, ◌+◌, ℕ, List, length, take, drop, IsTrue}
use Rattle.vc_model.specs.WeightSet.{WeightSet, InRange, IsZeroRow}
use Rattle.vc_ring.specs.Steps.{AllFit}
use Rattle.vc_ring.specs.declared.faults.Overflow.{Overflow}

-- at a place the step of the entry does not fit, and all steps before it do; in front of it the row is normal, and from it on it is as before
pub record IsSplitInFront {V : Type 0} (R : WeightSet V) (steps : List (Overflow V)) (normal old new : List V) : Type 0 where
  pub place : ℕ
  pub inside : place < length old
  pub fit : AllFit R (take place steps)
  pub unfit : ¬ AllFit R (take (place + 1) steps)
  pub front : take place new ≡ take place normal
  pub rest : drop place new ≡ drop place old

-- the factor and the normal row of a row in range are in range, where the steps of the split fit
pub record SplitRanges {V : Type 0} (R : WeightSet V) (factor : List V → V) (normal : List V → List V) (steps : List V → List (Overflow V)) : Type 0 where
  pub factor_in : (row : List V) → InRange R row → ¬ IsZeroRow R row → AllFit R (steps row) → IsTrue (R.in_range (factor row))
  pub normal_in : (row : List V) → InRange R row → ¬ IsZeroRow R row → AllFit R (steps row) → InRange R (normal row)
