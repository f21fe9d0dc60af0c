-- What the evaluation of a word in an automaton answers, in the order of refusals.
use Rattle.std.specs.Prelude.{◌≡◌, ℕ, List, [], ◌∷◌, ◌++◌, Bool, true, false, Option, None, Some, Result, Ok, Err, if◌then◌else◌, ⊤}
use Rattle.vc_aut.specs.Labelled.{Labelled}
use Rattle.vc_eval.specs.Cells.{cells, refusal_of, tuple_cells}
use Rattle.vc_eval.specs.Forward.{forward_steps}
use Rattle.vc_exprio.specs.Words.{IsOverAlphabets, SpellsWord}
use Rattle.vc_files.specs.Files.{Bytes}
use Rattle.vc_label.specs.declared.tape_set.TapeSet.{TapeSet}
use Rattle.vc_model.specs.Automata.{Automaton, coefficient}
use Rattle.vc_model.specs.Lists.{In}
use Rattle.vc_model.specs.WeightSet.{WeightSet}
use Rattle.vc_model.specs.Words.{Word}
use Rattle.vc_ring.specs.Steps.{fits, IsOutcome}
use Rattle.vc_ring.specs.declared.faults.MakeFault.{MakeFault}
use Rattle.vc_ring.specs.declared.faults.MakeFault.TheVariants as fault
use Rattle.vc_ring.specs.declared.faults.Overflow.{Overflow}
use Rattle.vc_ring.specs.Texts.{WeightTexts}
use Rattle.vc_top.specs.Reasons.{in_word, no_label, overflow, syntax}
use Rattle.vc_top.specs.Inputs.{Input}
use Rattle.vc_top.specs.Operations.{WithProper}
use Rattle.vc_top.specs.Outcomes.{Gives, Outcome, Then, Unless, WithOne}
use Rattle.vc_top.specs.Refused.{UnlessCause}
use Rattle.vc_top.specs.Sets.{absorbs, texts_of}

-- some step of the list does not fit
abbrev pub HasUnfitStep : {V : Type 0} → WeightSet V → List (Overflow V) → Type 0
HasUnfitStep {V} R steps = (s : Overflow V) × In s steps × (fits R s ≡ false)

-- there is one tape
abbrev pub is_one : List TapeSet → Bool
is_one [] = false
is_one (s ∷ []) = true
is_one (s ∷ t ∷ sets) = false

-- the entries of the rows: on one tape some rows are kept, on several a row for each position
abbrev pub cells_of : {V : Type 0} → List TapeSet → Automaton V → Word → ℕ
cells_of sets automaton word = if is_one sets then cells automaton else tuple_cells automaton word

-- the word of a text: `Syntax` where the text spells none, `NotALabel` where it has other tapes than the labels, or a letter that is not in the alphabet of its tape
abbrev pub ReadsWord : List TapeSet → Bytes → Outcome Word
ReadsWord sets text = WithOne (SpellsWord text) (syntax in_word) (λ word. Unless (¬ IsOverAlphabets sets word) (no_label in_word) (Gives word))

-- the coefficient at a word by forward rows, or why there is none, where the rows are refused for this cause
abbrev pub IsCoefficient : {V : Type 0} → WeightSet V → Option (MakeFault V) → Automaton V → Word → Result V (MakeFault V) → Type 0
IsCoefficient R cause automaton word (Ok v) = (cause ≡ None) × IsOutcome R (forward_steps R automaton word) (coefficient R automaton word) (Ok v)
IsCoefficient R cause automaton word (Err (fault.Overflow step)) = (cause ≡ None) × IsOutcome R (forward_steps R automaton word) (coefficient R automaton word) (Err step)
IsCoefficient R cause automaton word (Err (fault.Limit l)) = cause ≡ Some (fault.Limit l)
IsCoefficient R cause automaton word (Err (fault.Memory e)) = ⊤

module _ {V : Type 0} (T : WeightTexts V) where
  -- the text of the coefficient at the word, and a line feed
  abbrev pub coefficient_line : Automaton V → Word → Bytes
  coefficient_line automaton word = T.canonical (coefficient T.set automaton word) ++ 10 ∷ []

  -- `Overflow` where a step of the forward rows does not fit, and else the coefficient
  abbrev pub AnswersSteps : Automaton V → Word → Outcome Bytes
  AnswersSteps automaton word = Unless (HasUnfitStep T.set (forward_steps T.set automaton word)) overflow (Gives (coefficient_line automaton word))

  -- `Limit` where the rows have too many cells
  abbrev pub AnswersWord : Labelled V → Word → Outcome Bytes
  AnswersWord a word = UnlessCause {V = V} (refusal_of (cells_of a.sets a.automaton word)) (AnswersSteps a.automaton word)

  -- a value of an automaton at a word, and a line feed: `Limit` where the forward rows have too many cells, and `Overflow` where a step of them does not fit
  abbrev pub AnswersValue : Word → V → Labelled V → Outcome Bytes
  AnswersValue word value a =
      UnlessCause {V = V} (refusal_of (cells_of a.sets a.automaton word)) (
      Unless (HasUnfitStep T.set (forward_steps T.set a.automaton word)) overflow (Gives (T.canonical value ++ 10 ∷ [])))

  -- the word of a text, and the automaton without empty labels
  abbrev pub ReadsWithProper : Bool → Labelled V → Bytes → Outcome (Word × Labelled V)
  ReadsWithProper is_absorbing a text = Then (ReadsWord a.sets text) (λ w. WithProper T is_absorbing a (λ p. Gives (w, p)))

  -- the coefficient of an automaton at the word of a text, by the automaton without empty labels
  abbrev pub AnswersEvalOver : Bool → Bytes → Labelled V → Outcome Bytes
  AnswersEvalOver is_absorbing text a = Then (ReadsWord a.sets text) (λ w. WithProper T is_absorbing a (AnswersValue w (coefficient T.set a.automaton w)))

-- the same for the automaton of a file
abbrev pub AnswersEval : Bytes → Input → Outcome Bytes
AnswersEval text input = AnswersEvalOver (texts_of input.weights) (absorbs input.weights) text input.of
