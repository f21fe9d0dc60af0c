-- What `coefficient` answers.
use Rattle.std.specs.Prelude.{◌≡◌, Result, Ok, Err, if◌then◌else◌}
use Rattle.vc_model.specs.WeightSet.{WeightSet}
use Rattle.vc_model.specs.Words.{Word}
use Rattle.vc_terms.specs.Terms.{Term, coefficient_of}
use Rattle.vc_ring.specs.Steps.{outcome, added}
use Rattle.vc_ring.specs.declared.faults.Overflow.{Overflow}
use Rattle.vc_ring.specs.declared.faults.Overflow.TheVariants.{Mul, Star as StarStep}
use Rattle.vc_series.specs.Steps.{coefficient_steps}
use Rattle.vc_series.specs.declared.fault.SlowFault.{SlowFault}
use Rattle.vc_series.specs.declared.fault.SlowFault.TheVariants.{Overflow as Unfit, Memory}

-- the coefficient, or the first of its steps that does not fit
abbrev pub coefficient_answer : {V : Type 0} → WeightSet V → Term V → Word → Result V (Overflow V)
coefficient_answer R t w = outcome R (coefficient_steps R t w) (coefficient_of R t w)

-- the value, or the step that does not fit; want of memory is free
abbrev pub IsSlowAnswer : {V : Type 0} → Result V (Overflow V) → Result V (SlowFault V) → Type 0
IsSlowAnswer answer (Ok v) = answer ≡ Ok v
IsSlowAnswer answer (Err (Unfit o)) = answer ≡ Err o
IsSlowAnswer answer (Err (Memory e)) = Unit {0}

-- the star of an element that has one, or its step where that does not fit
abbrev pub star_answer : {V : Type 0} → WeightSet V → V → Result V (Overflow V)
star_answer R a = if R.fits_star a then Ok (R.star a) else Err (StarStep a)

-- the product of the last two added to the first, or the step that does not fit
abbrev pub product_onto : {V : Type 0} → WeightSet V → V → V → V → Result V (Overflow V)
product_onto R total a b = if R.fits_times a b then added R total (R.times a b) else Err (Mul a b)
