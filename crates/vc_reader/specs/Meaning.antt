-- What the lines of a file give, and the automaton of what is given.
use Rattle.std.specs.Prelude.{◌≡◌, ℕ, List, [], ◌∷◌, map, Option, Some, None, if◌then◌else◌, ◌==◌, unwrap_or}
use Rattle.std.specs.List.{flat_map}
use Rattle.std.specs.Str.{bytes_eq}
use Rattle.std.specs.List.{position_or_len}
use Rattle.vc_label.specs.declared.tape_set.TapeSet.{TapeSet}
use Rattle.vc_model.specs.Automata.{Automaton, Transition}
use Rattle.vc_model.specs.Gathered.{IsGathered}
use Rattle.vc_model.specs.Lists.{below}
use Rattle.vc_model.specs.Sums.{sum_over}
use Rattle.vc_model.specs.WeightSet.{WeightSet}
use Rattle.vc_model.specs.Words.{Word}
use Rattle.vc_lex.specs.Labels.{label_words}
use Rattle.vc_lex.specs.Marks.{Mark}
use Rattle.vc_text.specs.Escapes.{inside}
use Rattle.vc_lines.specs.Grammar.{Line, blank, initial_at, final_at, moves, state, name_of, entries_of, entry_weight, entry_label}

-- the number of a state is the place of its name
abbrev pub number_of : List (List ℕ) → List ℕ → ℕ
number_of names name = position_or_len (λ other. bytes_eq name other) names

-- the weight of a list that has one or none
abbrev pub only : List Mark → Option Mark
only [] = None
only (m ∷ ms) = Some m

-- what is given: a weight for a state to begin with or to end with, or a transition
pub data Given (V : Type 0) : Type 0 where
  begins : ℕ → V → Given V
  ends : ℕ → V → Given V
  moves_by : Transition V → Given V

-- a transition with a word
abbrev pub moves_with : {V : Type 0} → ℕ → ℕ → V → Word → Given V
moves_with from to w word = moves_by (record { from = from; label = word; to = to; weight = w })

module _ {V : Type 0} (R : WeightSet V) where
  -- the weight that a given thing has as an initial weight of a state, a final weight, a transition
  abbrev pub beginning : ℕ → Given V → V
  beginning p (begins q w) = if q == p then w else R.zero
  beginning p (ends q w) = R.zero
  beginning p (moves_by t) = R.zero

  abbrev pub ending : ℕ → Given V → V
  ending p (begins q w) = R.zero
  ending p (ends q w) = if q == p then w else R.zero
  ending p (moves_by t) = R.zero

  abbrev pub moving : Given V → List (Transition V)
  moving (begins q w) = []
  moving (ends q w) = []
  moving (moves_by t) = t ∷ []

  -- n states, with the sums of what is given: equal transitions are added, and those whose sum is zero dropped
  pub record IsSumOf (n : ℕ) (given : List (Given V)) (automaton : Automaton V) : Type 0 where
    pub states : automaton.states ≡ n
    pub initial : automaton.initial ≡ map (λ p. sum_over R (beginning p) given) (below n)
    pub final : automaton.final ≡ map (λ p. sum_over R (ending p) given) (below n)
    pub transitions : IsGathered R (flat_map moving given) automaton.transitions

  module _ (spelled : List ℕ → Option V) where
    -- a weight that is missing is one
    abbrev pub weight_of : Option Mark → V
    weight_of None = R.one
    weight_of (Some m) = unwrap_or (spelled (inside m.text)) R.one

    -- an entry gives a transition for each word of its label
    abbrev pub given_by_entry : List TapeSet → ℕ → ℕ → List Mark → List (Given V)
    given_by_entry sets from to ms = map (moves_with from to (weight_of (entry_weight ms))) (label_words sets (entry_label ms))

    -- what entries give, in their order
    abbrev pub given_by_entries : List TapeSet → ℕ → ℕ → List (List Mark) → List (Given V)
    given_by_entries sets from to es = flat_map (given_by_entry sets from to) es

    -- what a line gives, where number gives the number of a name
    abbrev pub given_by : List TapeSet → (List ℕ → ℕ) → Line → List (Given V)
    given_by sets number blank = []
    given_by sets number (initial_at s w) = begins (number (name_of s)) (weight_of (only w)) ∷ []
    given_by sets number (final_at s w) = ends (number (name_of s)) (weight_of (only w)) ∷ []
    given_by sets number (moves s t es) = given_by_entries sets (number (name_of s)) (number (name_of t)) (entries_of es)
    given_by sets number (state s) = []
