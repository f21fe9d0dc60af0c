-- Causes of refused sums that are told in another way.
use Rattle.std.proofs.Common.{◌≡◌, ◌⊎◌, ℕ, Bool, true, false, List, [], ◌<◌, inl, inr, length, replicate}
use Rattle.vc_aut.specs.Additions.{IsSumRefusal, additions}
use Rattle.vc_aut.specs.Sums.{insert_all}
use Rattle.vc_closure.specs.Circuits.{IsCircuitOn}
use Rattle.vc_closure.specs.Closing.{closure}
use Rattle.vc_closure.specs.Formula.{HasManyPairs, HasManyTriples, IsBroughtStep, IsClosureStep, IsEntryStep, IsMatrixStep}
use Rattle.vc_closure.specs.Refused.{IsAllowed, IsCause, IsMostPairs, IsPastEither, IsPastPairs, IsPastTriples, IsStepOf, IsSumCause, fault_of, sum_of}
use Rattle.vc_closure.specs.Searches.{IsOrder}
use Rattle.vc_closure.specs.declared.fault.SumFault.{SumFault}
use Rattle.vc_closure.specs.declared.fault.SumFault.TheVariants.{Overflow as Unfit, Limit as PastLimit, Memory as NoMemory}
use Rattle.vc_closure.proofs.Walks.{circuit_not, order_free}
use Rattle.vc_model.specs.Automata.{Automaton, IsAutomaton, IsSound, NoEmptyCircuit, Transition}
use Rattle.vc_model.specs.Lists.{In}
use Rattle.vc_model.specs.WeightSet.{Absorbs, WeightSet}
use Rattle.vc_model.specs.Words.{Word}
use Rattle.vc_ring.specs.Steps.{fits}
use Rattle.vc_ring.specs.declared.faults.Limit.{Limit as Most}
use Rattle.vc_ring.specs.declared.faults.MakeFault.{MakeFault}
use Rattle.vc_ring.specs.declared.faults.MakeFault.TheVariants.{Overflow as NotMade, Limit as OverMost, Memory as NoRoom}
use Rattle.vc_ring.specs.declared.faults.Overflow.{Overflow as Step}

pub told : {S V : Type 0} (R : WeightSet V) {P Q : Step V → Type 0} {M N : Most → Type 0} → ((o : Step V) → P o → fits R o ≡ false → Q o) → ((l : Most) → M l → N l) → (f : SumFault S V) → IsSumCause R P M f → IsSumCause R Q N f
told R h k (Unfit o) c = (h o c.0 c.1, c.1)
told R h k (PastLimit l) c = k l c
told R h k (NoMemory e) c = tt

pub past_pairs : {S V : Type 0} (R : WeightSet V) (P : Step V → Type 0) (tapes : ℕ) (A : Automaton V) (f : SumFault S V) → IsMostPairs f → HasManyPairs tapes A → IsSumCause R P (IsPastPairs tapes A) f
past_pairs R P tapes A (Unfit o) h m = absurd h
past_pairs R P tapes A (PastLimit l) h m = (h, m)
past_pairs R P tapes A (NoMemory e) h m = absurd h

module _ (L : Type 0) {S B V : Type 0} (parts : B → Word) (R : WeightSet V) (absorbs : Bool) (tapes : ℕ) (A : Automaton V) where
  -- a refusal of sums where no circuit is empty
  pub free_cause : NoEmptyCircuit tapes A → (f : SumFault S V) → IsSumCause R (IsStepOf (IsEntryStep R A (closure R A)) (IsBroughtStep R A)) (IsPastEither R tapes A) f → IsCause {L = L} {S = S} parts R absorbs tapes A (fault_of f)
  free_cause n (Unfit o) c = (inr n, step c.0, c.1)
    where
      step : IsEntryStep R A (closure R A) o ⊎ IsBroughtStep R A o → IsClosureStep R tapes A o ⊎ IsBroughtStep R A o
      step (inl h) = inl (inl (n, h))
      step (inr h) = inr h
  free_cause n (PastLimit l) c = (inr n, c)
  free_cause n (NoMemory e) c = tt

  -- and where one is, and one absorbs
  pub absorbed_cause : (absorbs ≡ true) → (¬ NoEmptyCircuit tapes A) → (f : SumFault S V) → IsSumCause R (IsStepOf (IsMatrixStep R A) (IsBroughtStep R A)) (IsPastEither R tapes A) f → IsCause {L = L} {S = S} parts R absorbs tapes A (fault_of f)
  absorbed_cause b n (Unfit o) c = (inl b, step c.0, c.1)
    where
      step : IsMatrixStep R A o ⊎ IsBroughtStep R A o → IsClosureStep R tapes A o ⊎ IsBroughtStep R A o
      step (inl h) = inl (inr (n, h))
      step (inr h) = inr h
  absorbed_cause b n (PastLimit l) c = (inl b, c)
  absorbed_cause b n (NoMemory e) c = tt

module _ {V : Type 0} (R : WeightSet V) (tapes : ℕ) (A : Automaton V) (G : IsAutomaton R tapes A) where
  -- where an order is found, no circuit is empty
  pub order_found : (order : List ℕ) → IsOrder A (replicate tapes true) order → NoEmptyCircuit tapes A
  order_found order o = order_free A (replicate tapes true) tapes G.label order G.from o

  -- where a circuit is found, one is empty
  pub circuit_found : (ts : List (Transition V)) → IsCircuitOn tapes (replicate tapes true) A ts → ¬ NoEmptyCircuit tapes A
  circuit_found ts c n = circuit_not A (replicate tapes true) tapes G.label ts n c

pub allowed_sound : {V : Type 0} (R : WeightSet V) (absorbs : Bool) (tapes : ℕ) (A : Automaton V) → (absorbs ≡ true → Absorbs R) → IsAllowed absorbs tapes A → IsSound R tapes A
allowed_sound R absorbs tapes A h (inl b) = inl (h b)
allowed_sound R absorbs tapes A h (inr n) = inr n

-- a refusal to add up transitions
pub sum_refused : {V : Type 0} (S : Type 0) (R : WeightSet V) (P : Step V → Type 0) (A : Automaton V) (raw : List (Transition V)) → ((o : Step V) → In o (additions R [] raw) → P o) → (4000000 < length (insert_all R [] raw) → HasManyTriples R A)
    → (f : MakeFault V) → IsSumRefusal R raw f → IsSumCause {S = S} R P (IsPastTriples R A) (sum_of f)
sum_refused S R P A raw h k (NotMade o) c = (h o c.0, c.1)
sum_refused S R P A raw h k (OverMost l) c = (c.0, k c.1)
sum_refused S R P A raw h k (NoRoom e) c = tt
