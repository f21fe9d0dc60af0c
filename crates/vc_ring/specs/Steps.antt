-- What each step of a computation answers. A step is named by the refusal that it makes where it does not fit.
use Rattle.std.specs.Prelude.{Bool, false, List, Result, Ok, Err, if◌then◌else◌}
use Rattle.vc_model.specs.WeightSet.{WeightSet}
use Rattle.vc_model.specs.Outcomes as steps
use Rattle.vc_ring.specs.declared.faults.Overflow.{Overflow}
use Rattle.vc_ring.specs.declared.faults.Overflow.TheVariants.{Numeral, Add, Mul, Star}
use Rattle.vc_ring.specs.declared.faults.StarFault.{StarFault}
use Rattle.vc_ring.specs.declared.faults.StarFault.TheVariants.{NoStar, Overflow as Unfit}

-- the step fits; a numeral that is named does not
abbrev pub fits : {V : Type 0} → WeightSet V → Overflow V → Bool
fits R (Numeral at) = false
fits R (Add a b) = R.fits_plus a b
fits R (Mul a b) = R.fits_times a b
fits R (Star a) = R.fits_star a

-- `v` where all steps fit, else the first that does not
abbrev pub outcome : {V W : Type 0} → WeightSet V → List (Overflow V) → W → Result W (Overflow V)
outcome R list v = steps.outcome (fits R) list v

-- all steps fit
abbrev pub AllFit : {V : Type 0} → WeightSet V → List (Overflow V) → Type 0
AllFit R list = steps.AllFit (fits R) list

-- `v`, and then all steps fit, or one of the steps that do not fit
abbrev pub IsOutcome : {V W : Type 0} → WeightSet V → List (Overflow V) → W → Result W (Overflow V) → Type 0
IsOutcome R list v result = steps.IsOutcome (fits R) list v result

-- the sum, or the step that does not fit
abbrev pub added : {V : Type 0} → WeightSet V → V → V → Result V (Overflow V)
added R a b = if R.fits_plus a b then Ok (R.plus a b) else Err (Add a b)

-- the product, or the step that does not fit
abbrev pub multiplied : {V : Type 0} → WeightSet V → V → V → Result V (Overflow V)
multiplied R a b = if R.fits_times a b then Ok (R.times a b) else Err (Mul a b)

-- the star, or why there is none
abbrev pub starred : {V : Type 0} → WeightSet V → V → Result V (StarFault V)
starred R a = if R.has_star a then (if R.fits_star a then Ok (R.star a) else Err (Unfit (Star a))) else Err (NoStar a)
