-- What commands on the automata of two files answer, in the order of refusals.
use Rattle.std.specs.Prelude.{◌≡◌, ◌⊎◌, ◌||◌, ℕ, Bool, List, [], ◌∷◌, Option, Some, None}
use Rattle.vc_aut.specs.Labelled.{Labelled}
use Rattle.vc_aut.specs.Order.{AreInOrder}
use Rattle.vc_context.specs.declared.context.Weights.{Weights}
use Rattle.vc_context.specs.declared.context.Weights.TheVariants.{B, F2, Z, Q, Nmin}
use Rattle.vc_files.specs.Files.{Bytes}
use Rattle.vc_join.specs.Conjunctions.{IsConjunctionStep, conjunction_items}
use Rattle.vc_join.specs.Pairs.{Pair, first_pairs}
use Rattle.vc_join.specs.Products.{IsPairProduct}
use Rattle.vc_join.specs.Shuffles.{IsShuffleStep, shuffle_items}
use Rattle.vc_label.specs.Alphabets.{has_letter}
use Rattle.vc_label.specs.Sets.{IsShortKind}
use Rattle.vc_label.specs.declared.tape_set.TapeKind.{TapeKind}
use Rattle.vc_label.specs.declared.tape_set.TapeKind.TheVariants.{Letters, Nullable}
use Rattle.vc_label.specs.declared.tape_set.TapeSet.{TapeSet}
use Rattle.vc_model.specs.Automata.{Automaton, IsAutomaton, IsProper, coefficient}
use Rattle.vc_model.specs.Items.{Item}
use Rattle.vc_model.specs.Series.{Series, both_series, shuffle_series}
use Rattle.vc_model.specs.WeightSet.{WeightSet}
use Rattle.vc_model.specs.Words.{Tape}
use Rattle.vc_ring.specs.Texts.{WeightTexts}
use Rattle.vc_ring.specs.declared.faults.Measure.TheVariants.{States, Transitions}
use Rattle.vc_ring.specs.declared.faults.Overflow.{Overflow}
use Rattle.vc_search.specs.Explored.{HasMoreThan, IsRefusedStep, NamesMoreThan, next_by}
use Rattle.vc_top.specs.Automata.{Prints}
use Rattle.vc_top.specs.Inputs.{Input}
use Rattle.vc_top.specs.Operations.{WithProper}
use Rattle.vc_top.specs.Outcomes.{ForSuch, MayRefuse, Outcome, Unless, WithOne, WithSome}
use Rattle.vc_top.specs.Reasons.{Reason, contexts, limit, overflow}
use Rattle.vc_top.specs.Sets.{absorbs, texts_of, value_of}
use Rattle.vc_top.specs.declared.product.Product.{Product}
use Rattle.vc_top.specs.declared.product.Product.TheVariants.{Conjunction, Shuffle}
use Rattle.vc_top.specs.declared.refusal.Bound.TheVariants.{Of}

-- two automata over one weight set
pub record Operands : Type 0 where
  pub weights : Weights
  pub first : Labelled (value_of weights)
  pub second : Labelled (value_of weights)

-- two automata, where their weight sets have one name
abbrev pub operands_over : (w v : Weights) → Labelled (value_of w) → Labelled (value_of v) → Option Operands
operands_over B B a b = Some (record { weights = B; first = a; second = b })
operands_over F2 F2 a b = Some (record { weights = F2; first = a; second = b })
operands_over Z Z a b = Some (record { weights = Z; first = a; second = b })
operands_over Q Q a b = Some (record { weights = Q; first = a; second = b })
operands_over Nmin Nmin a b = Some (record { weights = Nmin; first = a; second = b })
operands_over w v a b = None

-- the automata of two files, where they have one weight set
abbrev pub operands_of : Input → Input → Option Operands
operands_of x y = operands_over x.weights y.weights x.of y.of

-- single letters where both are, and else single letters and the empty label
abbrev pub joint_kind : TapeKind → TapeKind → TapeKind
joint_kind Letters Letters = Letters
joint_kind kind other = Nullable

-- both label sets have one tape with at most one letter, and the third has the letters of both
pub record AreJoint (ss ts us : List TapeSet) : Type 0 where
  pub first : TapeSet
  pub second : TapeSet
  pub joint : TapeSet
  pub is_first : ss ≡ first ∷ []
  pub is_second : ts ≡ second ∷ []
  pub is_joint : us ≡ joint ∷ []
  pub first_short : IsShortKind first.kind
  pub second_short : IsShortKind second.kind
  pub kind : joint.kind ≡ joint_kind first.kind second.kind
  pub letters : (x : ℕ) → has_letter joint.alphabet x ≡ (has_letter first.alphabet x || has_letter second.alphabet x)

-- the series of a product: word by word, or over all ways to part a word
abbrev pub series_of : {V : Type 0} → Product → WeightSet V → Series V → Series V → Series V
series_of Conjunction = both_series
series_of Shuffle = shuffle_series

-- what a pair of states leads to in a product
abbrev pub items_of : {V : Type 0} → Product → WeightSet V → Automaton V → Automaton V → Pair → List (Item V Pair)
items_of Conjunction = conjunction_items
items_of Shuffle = shuffle_items

-- a step of a pair of states in a product
abbrev pub IsStepOf : {V : Type 0} → Product → WeightSet V → Automaton V → Automaton V → Pair → Overflow V → Type 0
IsStepOf Conjunction = IsConjunctionStep
IsStepOf Shuffle = IsShuffleStep

module _ {V : Type 0} (T : WeightTexts V) (product : Product) (most : ℕ) where
  module _ (a b : Automaton V) where
    -- the pairs that a product begins with, and what a pair leads to
    abbrev pub first_of : List Pair
    first_of = first_pairs T.set T.same a b

    abbrev pub items : Pair → List (Item V Pair)
    items = items_of product T.set a b

    -- a step of an accessible pair does not fit
    abbrev pub HasUnfitPair : Type 0
    HasUnfitPair = (step : Overflow V) × IsRefusedStep T.set (next_by items) first_of (IsStepOf product T.set a b) step

    -- more pairs than the limit are accessible
    abbrev pub HasManyPairs : Type 0
    HasManyPairs = HasMoreThan (next_by items) first_of most

    -- such a step, or more than 4,000,000 triples that the moves of accessible pairs name
    abbrev pub IsUnjoined : Reason → Type 0
    IsUnjoined reason = ((reason ≡ overflow) × HasUnfitPair) ⊎ ((reason ≡ limit (Of Transitions)) × NamesMoreThan items first_of 4000000)

  -- the product of the automata a and b without empty labels, over these label sets, where f and g are the series of the files' automata
  pub record IsProductOf (sets : List TapeSet) (f g : Series V) (a b : Automaton V) (p : Labelled V) : Type 0 where
    pub labels : p.sets ≡ sets
    pub pairs : IsPairProduct T.set (first_of a b) (items a b) a b most p.automaton
    pub series : (u : Tape) → coefficient T.set p.automaton (u ∷ []) ≡ series_of product T.set f g (u ∷ [])
    pub automaton : IsAutomaton T.set 1 p.automaton
    pub proper : IsProper p.automaton
    pub order : AreInOrder p.automaton.transitions

  -- `Overflow` or `Limit` of transitions, where its cause stands; else `Limit` of states exactly where more pairs than the limit are accessible, and what comes after for the product
  abbrev pub WithProduct : List TapeSet → Series V → Series V → Automaton V → Automaton V → (Labelled V → Outcome Bytes) → Outcome Bytes
  WithProduct sets f g a b rest = MayRefuse (IsUnjoined a b) (Unless (HasManyPairs a b) (limit (Of States)) (ForSuch (IsProductOf sets f g a b) rest))

  -- `Mismatch` where a label set has several tapes or labels of several letters; then the refusals of `proper` for each automaton, and the text of the product of both without empty labels
  abbrev pub AnswersProductOver : Bool → Weights → Labelled V → Labelled V → Outcome Bytes
  AnswersProductOver is_absorbing weights a b =
      WithOne (AreJoint a.sets b.sets) contexts (λ sets.
      WithProper T is_absorbing a (λ p. WithProper T is_absorbing b (λ q.
      WithProduct sets (coefficient T.set a.automaton) (coefficient T.set b.automaton) p.automaton q.automaton (Prints T weights))))

-- `conjunction` and `shuffle`: `Mismatch` where the weight sets differ, and else the same over their weight set
abbrev pub AnswersProduct : Product → ℕ → Input → Input → Outcome Bytes
AnswersProduct product most x y =
    WithSome (operands_of x y) contexts (λ o. AnswersProductOver (texts_of o.weights) product most (absorbs o.weights) o.weights o.first o.second)
