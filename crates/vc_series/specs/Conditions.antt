-- Which trees have a coefficient at words of so many tapes that can be computed.
use Rattle.std.specs.Prelude.{ℕ, IsTrue}
use Rattle.vc_model.specs.WeightSet.{WeightSet}
use Rattle.vc_terms.specs.Terms.{Term, Terms, Weight, IsOnTapes, AreOnTapes, IsValid, AreValid}
use Rattle.vc_terms.specs.Forms.{Everywhere, EverywhereIn}

-- a weight at the root is a value
abbrev pub HasWeightIn : {V : Type 0} → WeightSet V → Term V → Type 0
HasWeightIn R (Weight k t) = IsTrue (R.in_range k)
HasWeightIn R t = Unit {0}

-- each weight in the tree is a value
abbrev pub HasWeightsIn : {V : Type 0} → WeightSet V → Term V → Type 0
HasWeightsIn R t = Everywhere (HasWeightIn R) t

-- the labels have so many tapes, the stars are defined and the weights are values
abbrev pub HasCoefficient : {V : Type 0} → WeightSet V → ℕ → Term V → Type 0
HasCoefficient R tapes t = IsOnTapes tapes t × IsValid R tapes t × HasWeightsIn R t

-- those of each of the members
abbrev pub HaveCoefficients : {V : Type 0} → WeightSet V → ℕ → Terms V → Type 0
HaveCoefficients R tapes ts = AreOnTapes tapes ts × AreValid R tapes ts × EverywhereIn (HasWeightIn R) ts
