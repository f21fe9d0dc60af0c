-- Commands that print the automaton of a file, or one that is made of it, in the order of refusals.
use Rattle.std.specs.Prelude.{◌≡◌, ◌⊎◌, ◌<◌, ℕ, List, length, Bool, false}
use Rattle.vc_aut.specs.Labelled.{Labelled}
use Rattle.vc_aut.specs.Order.{AreInOrder}
use Rattle.vc_closure.specs.Closing.{IsClosing, closure}
use Rattle.vc_closure.specs.Formula.{HasManyPairs, HasManyTriples, IsBroughtStep, IsClosureStep}
use Rattle.vc_context.specs.declared.context.Weights.{Weights}
use Rattle.vc_files.specs.Files.{Bytes}
use Rattle.vc_model.specs.Automata.{IsAutomaton, IsProper, coefficient, future}
use Rattle.vc_model.specs.Trims.{IsTrim}
use Rattle.vc_model.specs.Words.{Word}
use Rattle.vc_ring.specs.Steps.{fits}
use Rattle.vc_ring.specs.Texts.{WeightTexts}
use Rattle.vc_ring.specs.declared.faults.Measure.TheVariants.{Closure, Transitions}
use Rattle.vc_ring.specs.declared.faults.Overflow.{Overflow}
use Rattle.vc_top.specs.Automata.{Prints}
use Rattle.vc_top.specs.Inputs.{HasRefusedCircuit, Input}
use Rattle.vc_top.specs.Outcomes.{ForSuch, MayRefuse, Outcome, Unless}
use Rattle.vc_top.specs.Reasons.{Reason, empty_circuit, limit, overflow}
use Rattle.vc_top.specs.Sets.{absorbs, texts_of}
use Rattle.vc_top.specs.declared.operation.Operation.{Operation}
use Rattle.vc_top.specs.declared.operation.Operation.TheVariants.{Itself, Proper, Trim}
use Rattle.vc_top.specs.declared.refusal.Bound.TheVariants.{Of}

-- for these reasons the removal of empty labels may be refused where their cause stands
abbrev pub IsOfClosing : Reason → Type 0
IsOfClosing overflow = Unit {0}
IsOfClosing (limit (Of Closure)) = Unit {0}
IsOfClosing (limit (Of Transitions)) = Unit {0}
IsOfClosing other = ⊥

module _ {V : Type 0} (T : WeightTexts V) where
  -- the automaton without empty labels: states, initial weights, futures and series are the same, final weights and transitions are the sums by the closure, no label is empty, and the transitions are in
  -- order; one that had no empty labels is its own
  pub record IsProperOf (a p : Labelled V) : Type 0 where
    pub labels : p.sets ≡ a.sets
    pub closing : IsClosing T.set a.automaton p.automaton (closure T.set a.automaton)
    pub futures : (q : ℕ) (w : Word) → q < a.automaton.states → length w ≡ length a.sets → future T.set p.automaton q w ≡ future T.set a.automaton q w
    pub series : (w : Word) → length w ≡ length a.sets → coefficient T.set p.automaton w ≡ coefficient T.set a.automaton w
    pub same : IsProper a.automaton → p ≡ a
    pub automaton : IsAutomaton T.set (length a.sets) p.automaton
    pub proper : IsProper p.automaton
    pub order : AreInOrder p.automaton.transitions

  -- a step of the closure, or of the sums by it, does not fit
  abbrev pub HasUnfitClosing : Labelled V → Type 0
  HasUnfitClosing a = (step : Overflow V) × (IsClosureStep T.set (length a.sets) a.automaton step ⊎ IsBroughtStep T.set a.automaton step) × (fits T.set step ≡ false)

  -- such a step, more than 4,000,000 pairs of different states that empty labels join, or more than 4,000,000 triples that the closure names
  abbrev pub IsUnclosed : Labelled V → Reason → Type 0
  IsUnclosed a reason =
      ((reason ≡ overflow) × HasUnfitClosing a)
      ⊎ (((reason ≡ limit (Of Closure)) × HasManyPairs (length a.sets) a.automaton) ⊎ ((reason ≡ limit (Of Transitions)) × HasManyTriples T.set a.automaton))

  -- `EmptyCircuit` where a circuit is refused; then `Overflow` or `Limit`, where its cause stands, or what comes after for the automaton without empty labels
  abbrev pub WithProper : {Y : Type 0} → Bool → Labelled V → (Labelled V → Outcome Y) → Outcome Y
  WithProper is_absorbing a rest = Unless (HasRefusedCircuit is_absorbing a) empty_circuit (MayRefuse (IsUnclosed a) (ForSuch (IsProperOf a) rest))

  -- the automaton of the useful states, in their order, with the transitions between them; it has the same series
  pub record IsTrimOf (a t : Labelled V) : Type 0 where
    pub labels : t.sets ≡ a.sets
    pub kept : List ℕ
    pub trim : IsTrim T.set a.automaton t.automaton kept
    pub series : (w : Word) → length w ≡ length a.sets → coefficient T.set t.automaton w ≡ coefficient T.set a.automaton w
    pub automaton : IsAutomaton T.set (length a.sets) t.automaton

  -- the text of the automaton, or of what is made of it
  abbrev pub PrintsOperation : Bool → Operation → Weights → Labelled V → Outcome Bytes
  PrintsOperation is_absorbing Itself weights a = Prints T weights a
  PrintsOperation is_absorbing Proper weights a = WithProper is_absorbing a (Prints T weights)
  PrintsOperation is_absorbing Trim weights a = ForSuch (IsTrimOf a) (Prints T weights)

-- `cat`, `proper` and `trim`
abbrev pub AnswersPrint : Operation → Input → Outcome Bytes
AnswersPrint operation input = PrintsOperation (texts_of input.weights) (absorbs input.weights) operation input.weights input.of
