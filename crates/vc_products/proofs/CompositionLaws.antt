-- A composition has one value.
use Rattle.std.proofs.Common.{◌≡◌, ℕ, List, sym, ◌∙◌, ◌+◌, arith}
use Rattle.vc_model.specs.WeightSet.{WeightSet}
use Rattle.vc_model.specs.Words.{Tape}
use Rattle.vc_model.specs.Series.{Series}
use Rattle.vc_products.specs.Compositions.{IsComposition}

-- at most one value
pub composition_one : {V : Type 0} (R : WeightSet V) (alphabet : List ℕ) (s t : Series V) (u v : Tape) (c d : V) → IsComposition R alphabet s t u v c → IsComposition R alphabet s t u v d → c ≡ d
composition_one R alphabet s t u v c d C D = sym (C.stays (C.bound + D.bound) (omega arith)) ∙ D.stays (C.bound + D.bound) (omega arith)
