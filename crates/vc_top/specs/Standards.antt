-- What commands over the standard automaton of an expression answer, in the order of refusals.
use Rattle.std.specs.Prelude.{◌≡◌, ◌≢◌, ◌⊎◌, ◌<◌, ◌+◌, ℕ, List, length, false}
use Rattle.vc_aut.specs.Labelled.{Labelled}
use Rattle.vc_aut.specs.Order.{AreInOrder}
use Rattle.vc_context.specs.declared.context.Weights.{Weights}
use Rattle.vc_files.specs.Files.{Bytes}
use Rattle.vc_label.specs.declared.tape_set.TapeSet.{TapeSet}
use Rattle.vc_model.specs.Automata.{Transition, IsAutomaton, IsProper, coefficient}
use Rattle.vc_model.specs.Lists.{In}
use Rattle.vc_model.specs.Words.{Word}
use Rattle.vc_ring.specs.Steps.{fits}
use Rattle.vc_ring.specs.Texts.{WeightTexts}
use Rattle.vc_ring.specs.declared.faults.Measure.TheVariants.{States, Transitions}
use Rattle.vc_ring.specs.declared.faults.Overflow.{Overflow}
use Rattle.vc_standard.specs.Automata.{IsStandardOf}
use Rattle.vc_standard.specs.Named.{NamesMore}
use Rattle.vc_standard.specs.Steps.{IsStep}
use Rattle.vc_standard.specs.Structures.{standard_of}
use Rattle.vc_terms.specs.Terms.{Term, bound_of, coefficient_of}
use Rattle.vc_top.specs.Automata.{Prints}
use Rattle.vc_top.specs.Contexts.{IsContext}
use Rattle.vc_top.specs.Evaluations.{AnswersValue, ReadsWord}
use Rattle.vc_top.specs.Expressions.{ReadsExpression}
use Rattle.vc_top.specs.Outcomes.{ForSuch, Gives, MayRefuse, Outcome, Then, Unless, WithOne}
use Rattle.vc_top.specs.Reasons.{Reason, in_context, limit, overflow, syntax}
use Rattle.vc_top.specs.Sets.{texts_of}
use Rattle.vc_top.specs.declared.refusal.Bound.TheVariants.{Of}

-- the greatest number of states of an automaton that is made to evaluate a word
abbrev pub most_states : ℕ
most_states = 100000

-- for these reasons the construction may be refused where their cause stands
abbrev pub IsOfConstruction : Reason → Type 0
IsOfConstruction overflow = Unit {0}
IsOfConstruction (limit (Of Transitions)) = Unit {0}
IsOfConstruction other = ⊥

module _ {V : Type 0} (T : WeightTexts V) (sets : List TapeSet) where
  -- the standard automaton of an expression: it has the series of the expression, and as many states as the bound and one; no transition enters state 0, which alone is initial, with weight one; no label is
  -- empty; and it is the automaton of the structure, with its transitions in order
  pub record IsStandard (t : Term V) (a : Labelled V) : Type 0 where
    pub labels : a.sets ≡ sets
    pub series : (w : Word) → length w ≡ length sets → coefficient T.set a.automaton w ≡ coefficient_of T.set t w
    pub states : a.automaton.states ≡ bound_of t + 1
    pub start : (m : Transition V) → In m a.automaton.transitions → m.to ≢ 0
    pub structure : IsStandardOf T.set (standard_of T.set T.same t) a.automaton
    pub automaton : IsAutomaton T.set (length sets) a.automaton
    pub proper : IsProper a.automaton
    pub order : AreInOrder a.automaton.transitions

  -- a step of the construction does not fit
  abbrev pub HasUnfitConstruction : Term V → Type 0
  HasUnfitConstruction t = (step : Overflow V) × IsStep T.set T.same t step × (fits T.set step ≡ false)

  -- a step of the construction does not fit, or it names more than 4,000,000 transitions for the expression or for one that stands in it
  abbrev pub IsUnmade : Term V → Reason → Type 0
  IsUnmade t reason = ((reason ≡ overflow) × HasUnfitConstruction t) ⊎ ((reason ≡ limit (Of Transitions)) × NamesMore T.set T.same 4000000 t)

  -- `Limit` of states exactly where the bound and one are past the limit; then `Overflow` or `Limit` of transitions, where its cause stands, or what comes after for the standard automaton
  abbrev pub WithStandard : {Y : Type 0} → ℕ → (Labelled V → Outcome Y) → Term V → Outcome Y
  WithStandard most rest t = Unless (most < bound_of t + 1) (limit (Of States)) (MayRefuse (IsUnmade t) (ForSuch (IsStandard t) rest))

  -- the text of the standard automaton of an expression
  abbrev pub AnswersStandardOver : Weights → Bytes → ℕ → Outcome Bytes
  AnswersStandardOver weights text most = Then (ReadsExpression T sets text) (WithStandard most (Prints T weights))

  -- the coefficient of an expression at a word, by its standard automaton
  abbrev pub AnswersCoefficient : Word → Term V → Outcome Bytes
  AnswersCoefficient word t = WithStandard most_states (AnswersValue T word (coefficient_of T.set t word)) t

  -- the word of the second text, and the standard automaton of the expression of the first
  abbrev pub ReadsWithStandard : Bytes → Bytes → Outcome (Word × Labelled V)
  ReadsWithStandard text word = Then (ReadsExpression T sets text) (λ t. Then (ReadsWord sets word) (λ w. WithStandard most_states (λ a. Gives (w, a)) t))

  -- the coefficient of the expression of the first text at the word of the second
  abbrev pub AnswersEvalTextOver : Bytes → Bytes → Outcome Bytes
  AnswersEvalTextOver text word = Then (ReadsExpression T sets text) (λ t. Then (ReadsWord sets word) (λ w. AnswersCoefficient w t))

-- `standard`: `Syntax` where the first text spells no context, and else the text of the standard automaton of the expression of the second, in this context
abbrev pub AnswersStandard : Bytes → Bytes → ℕ → Outcome Bytes
AnswersStandard over text most = WithOne (IsContext over) (syntax in_context) (λ c. AnswersStandardOver (texts_of c.1) c.0 c.1 text most)

-- `eval` of an expression: the same for its coefficient at the word of the third text
abbrev pub AnswersEvalText : Bytes → Bytes → Bytes → Outcome Bytes
AnswersEvalText over text word = WithOne (IsContext over) (syntax in_context) (λ c. AnswersEvalTextOver (texts_of c.1) c.0 text word)
