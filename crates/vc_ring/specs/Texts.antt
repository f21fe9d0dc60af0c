-- The texts of weights.
use Rattle.std.specs.Prelude.{◌≡◌, ◌≢◌, ◌≤◌, ℕ, Bool, List, [], All, IsTrue, Option, None, Some, Result, Ok, Err, if◌then◌else◌}
use Rattle.vc_model.specs.WeightSet.{WeightSet}
use Rattle.vc_ring.specs.declared.faults.NumberFault.{NumberFault}
use Rattle.vc_ring.specs.declared.faults.NumberFault.TheVariants.{Bad, Overflow}

-- what a text is read as: the element that it spells, `Bad` where it spells none, `Overflow` where a number in it is past its range
abbrev pub read_as : {V : Type 0} → Option V → Bool → Result V NumberFault
read_as None in_range = Err Bad
read_as (Some v) in_range = if in_range then Ok v else Err Overflow

-- a byte that may stand in a weight between `<` and `>`
pub record IsWeightByte (b : ℕ) : Type 0 where
  pub low : 0x21 ≤ b
  pub high : b ≤ 0x7E
  pub not_less : b ≢ 0x3C
  pub not_greater : b ≢ 0x3E

-- a weight set's texts: each text spells at most one element, the empty one none, and the canonical text of a value is a text that spells it, with no number past its range
pub record TextLaws {V : Type 0} (R : WeightSet V) (spelled : List ℕ → Option V) (numbers_fit : List ℕ → Bool) (canonical : V → List ℕ) : Type 0 where
  pub not_empty : spelled [] ≡ None
  pub read_in : (text : List ℕ) (v : V) → spelled text ≡ Some v → IsTrue (numbers_fit text) → IsTrue (R.in_range v)
  pub written : (v : V) → IsTrue (R.in_range v) → spelled (canonical v) ≡ Some v
  pub written_fits : (v : V) → IsTrue (R.in_range v) → IsTrue (numbers_fit (canonical v))
  pub bytes : (v : V) → All IsWeightByte (canonical v)

-- a weight set, the test of equality of its elements, and their texts: what a text spells, whether its numbers are in their ranges, and the canonical text
pub record WeightTexts (V : Type 0) : Type 0 where
  pub set : WeightSet V
  pub same : V → V → Bool
  pub spelled : List ℕ → Option V
  pub numbers_fit : List ℕ → Bool
  pub canonical : V → List ℕ
