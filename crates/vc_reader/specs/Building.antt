-- How what lines give is added to an automaton that is being built, and why something is refused.
use Rattle.std.specs.Prelude.{◌≡◌, ◌⊎◌, ℕ, Bool, true, false, not, ◌&&◌, List, [], ◌∷◌, Option, None, Some, Result, Ok, Err, if◌then◌else◌, option_to_list, ⊤}
use Rattle.std.specs.List.{flat_map}
use Rattle.std.specs.Option.{is_some}
use Rattle.vc_aut.specs.Drafts.{Draft, with_initial, with_final, with_transition}
use Rattle.vc_aut.specs.Refusals.{transition_refusal}
use Rattle.vc_model.specs.Automata.{initial_weight, final_weight}
use Rattle.vc_model.specs.Lists.{In}
use Rattle.vc_model.specs.WeightSet.{WeightSet}
use Rattle.vc_ring.specs.declared.faults.MakeFault.{MakeFault}
use Rattle.vc_ring.specs.declared.faults.MakeFault.TheVariants.{Overflow as Unfit, Limit as PastLimit, Memory}
use Rattle.vc_ring.specs.declared.faults.Overflow.TheVariants.{Numeral, Add, Mul, Star}
use Rattle.vc_lex.specs.Marks.{Mark}
use Rattle.vc_text.specs.Escapes.{inside}
use Rattle.vc_lines.specs.Grammar.{Line, blank, initial_at, final_at, moves, state, entries_of, entry_weight}
use Rattle.vc_reader.specs.Meaning.{Given, begins, ends, moves_by, only}

-- the weights that entries have
abbrev pub entry_weights : List (List Mark) → List Mark
entry_weights es = flat_map (λ e. option_to_list (entry_weight e)) es

-- the weights that a line has
abbrev pub line_weights : Line → List Mark
line_weights blank = []
line_weights (initial_at s w) = option_to_list (only w)
line_weights (final_at s w) = option_to_list (only w)
line_weights (moves s t es) = entry_weights (entries_of es)
line_weights (state s) = []

module _ {V : Type 0} (R : WeightSet V) where
  -- what is given is added
  abbrev pub with_given : Draft V → Given V → Draft V
  with_given d (begins p w) = with_initial R d p w
  with_given d (ends p w) = with_final R d p w
  with_given d (moves_by t) = with_transition R d t

  -- one after the other
  abbrev pub with_all : Draft V → List (Given V) → Draft V
  with_all d [] = d
  with_all d (g ∷ given) = with_all (with_given d g) given

  -- a weight is refused onto one that stands where the sum does not fit
  abbrev pub sum_refusal : V → V → Option (MakeFault V)
  sum_refusal v w = if R.fits_plus v w then None else Some (Unfit (Add v w))

  -- why what is given is refused
  abbrev pub given_refusal : Draft V → Given V → Option (MakeFault V)
  given_refusal d (begins p w) = sum_refusal (initial_weight R d.automaton p) w
  given_refusal d (ends p w) = sum_refusal (final_weight R d.automaton p) w
  given_refusal d (moves_by t) = transition_refusal R d.automaton.transitions t

  -- nothing is refused
  abbrev pub AreTaken : Draft V → List (Given V) → Type 0
  AreTaken d [] = ⊤
  AreTaken d (g ∷ given) = (given_refusal d g ≡ None) × AreTaken (with_given d g) given

  -- the first that is refused is refused for this
  abbrev pub IsRefused : Draft V → List (Given V) → MakeFault V → Type 0
  IsRefused d [] fault = ⊥
  IsRefused d (g ∷ given) fault = (given_refusal d g ≡ Some fault) ⊎ ((given_refusal d g ≡ None) × IsRefused (with_given d g) given fault)

  module _ (spelled : List ℕ → Option V) (numbers_fit : List ℕ → Bool) where
    -- the weight has a number that is past its range
    abbrev pub is_past : Mark → Bool
    is_past m = is_some (spelled (inside m.text)) && not (numbers_fit (inside m.text))

    -- one of the weights, at this place of its line, has a number that is past its range
    abbrev pub HasNumeral : List Mark → ℕ → Type 0
    HasNumeral ms at = (m : Mark) × In m ms × (m.at ≡ at) × (is_past m ≡ true)

    -- no weight has a number that is past its range
    abbrev pub HaveNumbers : List Mark → Type 0
    HaveNumbers ms = (m : Mark) → In m ms → is_past m ≡ false

    -- what is given was added, or something in it is refused; want of memory is free
    abbrev pub IsAdded : List Mark → Draft V → List (Given V) → Draft V → Result (Unit {0}) (MakeFault V) → Type 0
    IsAdded ms d given new (Ok u) = (new ≡ with_all d given) × AreTaken d given × HaveNumbers ms
    IsAdded ms d given new (Err (Unfit (Numeral at))) = HasNumeral ms at
    IsAdded ms d given new (Err (Unfit (Add v w))) = IsRefused d given (Unfit (Add v w))
    IsAdded ms d given new (Err (Unfit (Mul v w))) = ⊥
    IsAdded ms d given new (Err (Unfit (Star v))) = ⊥
    IsAdded ms d given new (Err (PastLimit l)) = IsRefused d given (PastLimit l)
    IsAdded ms d given new (Err (Memory e)) = ⊤

    -- the weight of a token, or the number in it is past its range
    abbrev pub IsWeightAnswer : Option Mark → V → Result V (MakeFault V) → Type 0
    IsWeightAnswer m w (Ok v) = (v ≡ w) × HaveNumbers (option_to_list m)
    IsWeightAnswer m w (Err (Unfit (Numeral at))) = HasNumeral (option_to_list m) at
    IsWeightAnswer m w (Err (Unfit (Add a b))) = ⊥
    IsWeightAnswer m w (Err (Unfit (Mul a b))) = ⊥
    IsWeightAnswer m w (Err (Unfit (Star a))) = ⊥
    IsWeightAnswer m w (Err (PastLimit l)) = ⊥
    IsWeightAnswer m w (Err (Memory e)) = ⊥

-- the same sets of labels and the same number of states
pub record KeepsShape {V : Type 0} (old new : Draft V) : Type 0 where
  pub sets : new.sets ≡ old.sets
  pub states : new.automaton.states ≡ old.automaton.states
