-- Why an automaton without empty labels is not made.
use Rattle.std.specs.Prelude.{◌≡◌, ℕ, Bool, true, false, ◌⊎◌, map}
use Rattle.vc_aut.specs.Stored.{transition_of}
use Rattle.vc_closure.specs.Formula.{HasManyPairs, HasManyTriples, IsBroughtStep, IsClosureStep}
use Rattle.vc_closure.specs.declared.fault.ProperFault.{ProperFault}
use Rattle.vc_closure.specs.declared.fault.ProperFault.TheVariants.{Circuit, Overflow, Limit, Memory}
use Rattle.vc_closure.specs.declared.fault.SumFault.{SumFault}
use Rattle.vc_closure.specs.declared.fault.SumFault.TheVariants.{Overflow as Unfit, Limit as PastLimit, Memory as NoMemory}
use Rattle.vc_model.specs.Automata.{Automaton, IsEmptyCircuit, NoEmptyCircuit}
use Rattle.vc_model.specs.WeightSet.{WeightSet}
use Rattle.vc_model.specs.Words.{Word}
use Rattle.vc_ring.specs.Steps.{fits}
use Rattle.vc_ring.specs.declared.faults.Limit.{Limit as Most}
use Rattle.vc_ring.specs.declared.faults.MakeFault.{MakeFault}
use Rattle.vc_ring.specs.declared.faults.MakeFault.TheVariants.{Overflow as NotMade, Limit as OverMost, Memory as NoRoom}
use Rattle.vc_ring.specs.declared.faults.Measure.TheVariants.{Closure, Transitions}
use Rattle.vc_ring.specs.declared.faults.Overflow.{Overflow as Step}

-- one absorbs each weight, or no circuit is empty
abbrev pub IsAllowed : {V : Type 0} → Bool → ℕ → Automaton V → Type 0
IsAllowed absorbs tapes A = (absorbs ≡ true) ⊎ NoEmptyCircuit tapes A

-- too many pairs are joined by empty labels
abbrev pub IsPastPairs : {V : Type 0} → ℕ → Automaton V → Most → Type 0
IsPastPairs tapes A l = (l ≡ record { what = Closure; most = 4000000 }) × HasManyPairs tapes A

-- too many triples are named
abbrev pub IsPastTriples : {V : Type 0} → WeightSet V → Automaton V → Most → Type 0
IsPastTriples R A l = (l ≡ record { what = Transitions; most = 4000000 }) × HasManyTriples R A

-- a circuit comes where one does not absorb each weight, and its label is empty; a step of the sums comes that does not fit, and a limit that is passed
abbrev pub IsCause : {L S B V : Type 0} → (B → Word) → WeightSet V → Bool → ℕ → Automaton V → ProperFault L S B V → Type 0
IsCause parts R absorbs tapes A (Circuit ts) = (absorbs ≡ false) × (p : ℕ) × IsEmptyCircuit tapes A p (map (transition_of parts) ts.items)
IsCause parts R absorbs tapes A (Overflow o) = IsAllowed absorbs tapes A × (IsClosureStep R tapes A o ⊎ IsBroughtStep R A o) × (fits R o ≡ false)
IsCause parts R absorbs tapes A (Limit l) = IsAllowed absorbs tapes A × (IsPastPairs tapes A l ⊎ IsPastTriples R A l)
IsCause parts R absorbs tapes A (Memory e) = Unit {0}

-- sums are refused for a step that is P and does not fit, and for a limit that is Q
abbrev pub IsSumCause : {S V : Type 0} → WeightSet V → (Step V → Type 0) → (Most → Type 0) → SumFault S V → Type 0
IsSumCause R P Q (Unfit o) = P o × (fits R o ≡ false)
IsSumCause R P Q (PastLimit l) = Q l
IsSumCause R P Q (NoMemory e) = Unit {0}

-- no limit is passed
abbrev pub NoLimit : Most → Type 0
NoLimit l = ⊥

-- the fault is the limit of pairs
abbrev pub IsMostPairs : {S V : Type 0} → SumFault S V → Type 0
IsMostPairs (Unfit o) = ⊥
IsMostPairs (PastLimit l) = l ≡ record { what = Closure; most = 4000000 }
IsMostPairs (NoMemory e) = ⊥

-- a step that is one of the two
abbrev pub IsStepOf : {V : Type 0} → (Step V → Type 0) → (Step V → Type 0) → Step V → Type 0
IsStepOf P Q o = P o ⊎ Q o

-- too many pairs, or too many triples
abbrev pub IsPastEither : {V : Type 0} → WeightSet V → ℕ → Automaton V → Most → Type 0
IsPastEither R tapes A l = IsPastPairs tapes A l ⊎ IsPastTriples R A l

-- the refusal of an automaton for a refusal of sums
abbrev pub fault_of : {L S B V : Type 0} → SumFault S V → ProperFault L S B V
fault_of (Unfit o) = Overflow o
fault_of (PastLimit l) = Limit l
fault_of (NoMemory e) = Memory e

-- the refusal of sums for a refusal to add up transitions
abbrev pub sum_of : {S V : Type 0} → MakeFault V → SumFault S V
sum_of (NotMade o) = Unfit o
sum_of (OverMost l) = PastLimit l
sum_of (NoRoom e) = NoMemory e
