-- Why a builder refuses.
use Rattle.std.specs.Prelude.{◌≡◌, nat_lt, ℕ, List, length, Option, None, Some, Result, Ok, Err, if◌then◌else◌}
use Rattle.vc_model.specs.Automata.{Transition}
use Rattle.vc_model.specs.WeightSet.{WeightSet}
use Rattle.vc_ring.specs.declared.faults.MakeFault.{MakeFault}
use Rattle.vc_ring.specs.declared.faults.MakeFault.TheVariants.{Overflow, Limit as PastLimit, Memory}
use Rattle.vc_ring.specs.declared.faults.Measure.TheVariants.{States, Transitions}
use Rattle.vc_ring.specs.declared.faults.Overflow.TheVariants.{Add}
use Rattle.vc_aut.specs.Drafts.{Draft}
use Rattle.vc_aut.specs.Sums.{standing}

-- Ok where there is no cause to refuse, and else the refusal of that cause; want of memory is free
abbrev pub IsAnswer : {V T : Type 0} → Option (MakeFault V) → Result T (MakeFault V) → Type 0
IsAnswer cause (Ok v) = cause ≡ None
IsAnswer cause (Err (Overflow o)) = cause ≡ Some (Overflow o)
IsAnswer cause (Err (PastLimit l)) = cause ≡ Some (PastLimit l)
IsAnswer cause (Err (Memory e)) = Unit {0}

-- a state more is refused where so many stand already
abbrev pub state_refusal : {V : Type 0} → Draft V → Option (MakeFault V)
state_refusal d = if nat_lt d.automaton.states d.most then None else Some (PastLimit (record { what = States; most = d.most }))

-- a weight is refused onto a weight that stands where the sum does not fit, and at a new triple where 4,000,000 transitions stand
abbrev pub weight_refusal : {V : Type 0} → WeightSet V → ℕ → V → Option V → Option (MakeFault V)
weight_refusal R count w (Some v) = if R.fits_plus v w then None else Some (Overflow (Add v w))
weight_refusal R count w None = if nat_lt count 4000000 then None else Some (PastLimit (record { what = Transitions; most = 4000000 }))

-- why a transition more is refused
abbrev pub transition_refusal : {V : Type 0} → WeightSet V → List (Transition V) → Transition V → Option (MakeFault V)
transition_refusal R ts t = weight_refusal R (length ts) t.weight (standing ts t)
