-- Why the weights of members are not made.
use Rattle.std.specs.Prelude.{◌≡◌, List, false}
use Rattle.vc_model.specs.Lists.{In}
use Rattle.vc_model.specs.WeightSet.{WeightSet}
use Rattle.vc_ring.specs.Steps.{fits}
use Rattle.vc_ring.specs.declared.faults.MakeFault.{MakeFault}
use Rattle.vc_ring.specs.declared.faults.MakeFault.TheVariants.{Overflow as Unfit, Limit as PastLimit, Memory}
use Rattle.vc_ring.specs.declared.faults.Overflow.{Overflow}

-- a step of one of the members that does not fit; want of memory is free
abbrev pub IsUnweighed : {V K : Type 0} → WeightSet V → (K → Overflow V → Type 0) → List K → MakeFault V → Type 0
IsUnweighed {V} {K} R is_step members (Unfit o) = (k : K) × In k members × is_step k o × (fits R o ≡ false)
IsUnweighed R is_step members (PastLimit l) = ⊥
IsUnweighed R is_step members (Memory e) = Unit {0}
