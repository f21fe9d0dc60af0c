-- The additions that it takes to add up transitions, and why a sum is refused.
use Rattle.std.specs.Prelude.{◌≡◌, ◌<◌, ◌≤◌, false, List, [], ◌∷◌, ◌++◌, length, Option, None, Some, Result, Ok, Err}
use Rattle.vc_model.specs.Automata.{Transition}
use Rattle.vc_model.specs.Lists.{In}
use Rattle.vc_model.specs.WeightSet.{WeightSet}
use Rattle.vc_ring.specs.Steps.{fits, AllFit}
use Rattle.vc_ring.specs.declared.faults.MakeFault.{MakeFault}
use Rattle.vc_ring.specs.declared.faults.MakeFault.TheVariants.{Overflow as Unfit, Limit as PastLimit, Memory}
use Rattle.vc_ring.specs.declared.faults.Measure.TheVariants.{Transitions}
use Rattle.vc_ring.specs.declared.faults.Overflow.{Overflow}
use Rattle.vc_ring.specs.declared.faults.Overflow.TheVariants.{Add}
use Rattle.vc_aut.specs.Sums.{insert_transition, insert_all, standing}

-- the addition of a weight to what stands, none where nothing stands
abbrev pub addition_to : {V : Type 0} → Option V → V → List (Overflow V)
addition_to None w = []
addition_to (Some v) w = Add v w ∷ []

-- the additions that are made where the others are inserted one after the other
abbrev pub additions : {V : Type 0} → WeightSet V → List (Transition V) → List (Transition V) → List (Overflow V)
additions R ts [] = []
additions R ts (t ∷ added) = addition_to (standing ts t) t.weight ++ additions R (insert_transition R ts t) added

-- why the sum of the transitions is refused: one of its additions does not fit, or there are more than 4,000,000 triples; want of memory is free
abbrev pub IsSumRefusal : {V : Type 0} → WeightSet V → List (Transition V) → MakeFault V → Type 0
IsSumRefusal R added (Unfit o) = In o (additions R [] added) × (fits R o ≡ false)
IsSumRefusal R added (PastLimit l) = (l ≡ record { what = Transitions; most = 4000000 }) × (4000000 < length (insert_all R [] added))
IsSumRefusal R added (Memory e) = Unit {0}

-- Ok where all additions fit and there are at most 4,000,000 triples, and else a refusal whose cause stands
abbrev pub IsSumAnswer : {V T : Type 0} → WeightSet V → List (Transition V) → Result T (MakeFault V) → Type 0
IsSumAnswer R added (Ok v) = AllFit R (additions R [] added) × (length (insert_all R [] added) ≤ 4000000)
IsSumAnswer R added (Err fault) = IsSumRefusal R added fault
