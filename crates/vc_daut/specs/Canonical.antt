-- The one canonical text of each automaton.
use Rattle.std.specs.Prelude.{ℕ, Bool, not, ◌||◌, List, [], ◌∷◌, ◌++◌, map, filter, if◌then◌else◌, ◌==◌, codes}
use Rattle.std.specs.Fmt.{decimal}
use Rattle.std.specs.List.{flat_map, list_any}
use Rattle.vc_text.specs.Letters.{letter_text}
use Rattle.vc_context.specs.Canonical.{context_text}
use Rattle.vc_context.specs.declared.context.Weights.{Weights}
use Rattle.vc_label.specs.declared.tape_set.TapeSet.{TapeSet}
use Rattle.vc_model.specs.Automata.{Automaton, Transition, initial_weight, final_weight}
use Rattle.vc_model.specs.Lists.{below}
use Rattle.vc_model.specs.WeightSet.{WeightSet}
use Rattle.vc_model.specs.Words.{Tape, Word}
use Rattle.vc_ring.specs.Texts.{WeightTexts}

-- a line of a text: an initial weight of a state, the transitions from one state to another, a final weight of a state, a state alone
pub data TextLine (V : Type 0) : Type 0 where
  begins_line : ℕ → V → TextLine V
  moves_line : ℕ → ℕ → List (Transition V) → TextLine V
  ends_line : ℕ → V → TextLine V
  state_line : ℕ → TextLine V

-- the texts one after another, with a separator between them
abbrev pub listed : List ℕ → List (List ℕ) → List ℕ
listed separator [] = []
listed separator (text ∷ texts) = text ++ flat_map (λ t. separator ++ t) texts

-- the text of a line, with a line feed at its end
abbrev pub fed : List ℕ → List ℕ
fed text = text ++ codes "\n"

-- a part of a label: `\e` where it is empty, else its letters, with a backslash before those that are not plain
abbrev pub part_text : Tape → List ℕ
part_text [] = codes "\\e"
part_text (x ∷ a) = flat_map letter_text (x ∷ a)

-- the parts of a label with bars between them
abbrev pub label_text : Word → List ℕ
label_text w = listed (codes "|") (map part_text w)

-- the transitions from one state to another, where there are any
abbrev pub line_to : {V : Type 0} → ℕ → ℕ → List (Transition V) → List (TextLine V)
line_to p q [] = []
line_to p q (t ∷ ts) = moves_line p q (t ∷ ts) ∷ []

-- the transitions to a state
abbrev pub to_state : {V : Type 0} → ℕ → List (Transition V) → List (Transition V)
to_state q ts = filter (λ t. t.to == q) ts

-- a line for each of n targets, ascending, with the transitions to it in their order
abbrev pub lines_by_target : {V : Type 0} → ℕ → ℕ → List (Transition V) → List (TextLine V)
lines_by_target n p ts = flat_map (λ q. line_to p q (to_state q ts)) (below n)

-- a weight in `<` and `>`
abbrev pub weight_text : {V : Type 0} → (V → List ℕ) → V → List ℕ
weight_text canonical w = codes "<" ++ (canonical w ++ codes ">")

module _ {V : Type 0} (R : WeightSet V) (same : V → V → Bool) where
  -- an initial weight is not written where it is zero, and a final weight neither
  abbrev pub initial_line : Automaton V → ℕ → List (TextLine V)
  initial_line a p = if same (initial_weight R a p) R.zero then [] else begins_line p (initial_weight R a p) ∷ []

  abbrev pub final_line : Automaton V → ℕ → List (TextLine V)
  final_line a p = if same (final_weight R a p) R.zero then [] else ends_line p (final_weight R a p) ∷ []

  abbrev pub transition_lines : Automaton V → ℕ → List (TextLine V)
  transition_lines a p = lines_by_target a.states p (filter (λ t. t.from == p) a.transitions)

  -- the state has an initial or a final weight, or it is the source or the target of a transition
  abbrev pub is_in_lines : Automaton V → ℕ → Bool
  is_in_lines a p = not (same (initial_weight R a p) R.zero) || (not (same (final_weight R a p) R.zero) || list_any (λ t. t.from == p || t.to == p) a.transitions)

  -- a state that is in no other line stands alone
  abbrev pub lone_line : Automaton V → ℕ → List (TextLine V)
  lone_line a p = if is_in_lines a p then [] else state_line p ∷ []

  -- the lines at the place of a state
  abbrev pub state_lines : Automaton V → ℕ → List (TextLine V)
  state_lines a p = transition_lines a p ++ (final_line a p ++ lone_line a p)

  -- the initial lines by state, and then the lines at the place of each state
  abbrev pub automaton_lines : Automaton V → List (TextLine V)
  automaton_lines a = flat_map (initial_line a) (below a.states) ++ flat_map (state_lines a) (below a.states)

  module _ (canonical : V → List ℕ) where
    -- the weight before a label; one is not written
    abbrev pub before_label : V → List ℕ
    before_label w = if same w R.one then [] else weight_text canonical w

    -- the weight of a state, with a blank before it; one is not written
    abbrev pub after_state : V → List ℕ
    after_state w = if same w R.one then [] else codes " " ++ weight_text canonical w

    -- an entry: the weight, and the label
    abbrev pub entry_text : Transition V → List ℕ
    entry_text t = before_label t.weight ++ label_text t.label

    -- the entries, with a comma and a blank between them
    abbrev pub entries_text : List (Transition V) → List ℕ
    entries_text ts = listed (codes ", ") (map entry_text ts)

    -- states are written by their numbers
    abbrev pub line_text : TextLine V → List ℕ
    line_text (begins_line p w) = codes "$ -> " ++ (decimal p ++ fed (after_state w))
    line_text (moves_line p q ts) = decimal p ++ (codes " -> " ++ (decimal q ++ (codes " " ++ fed (entries_text ts))))
    line_text (ends_line p w) = decimal p ++ (codes " -> $" ++ fed (after_state w))
    line_text (state_line p) = fed (decimal p)

-- the context line, and the lines of the automaton
abbrev pub automaton_text : {V : Type 0} → WeightTexts V → List TapeSet → Weights → Automaton V → List ℕ
automaton_text T sets weights a = codes "context = \"" ++ (context_text sets weights ++ (codes "\"\n" ++ flat_map (line_text T.set T.same T.canonical) (automaton_lines T.set T.same a)))
