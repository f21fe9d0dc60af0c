-- Automata of three tapes without their middle tape.
use Rattle.std.specs.Prelude.{◌≡◌, ℕ, List, [], ◌∷◌, length, slice_index_or, ◌<◌, ◌≤◌, Bool, true, false}
use Rattle.vc_model.specs.WeightSet.{WeightSet}
use Rattle.vc_model.specs.Lists.{In}
use Rattle.vc_model.specs.Words.{Word, IsOver}
use Rattle.vc_model.specs.Automata.{Transition, Automaton, initial_weight, final_weight}
use Rattle.vc_model.specs.Moves.{moves_sum}
use Rattle.vc_products.specs.Joins.{part}

-- a word of three tapes without its middle tape
abbrev pub outer_word : Word → Word
outer_word w = slice_index_or w 0 [] ∷ slice_index_or w 2 [] ∷ []

-- the first and the third of three tapes
abbrev pub outer_tapes : List Bool
outer_tapes = true ∷ false ∷ true ∷ []

-- each middle part is over the alphabet and has at most W letters
abbrev pub HasMiddles : {V : Type 0} → List ℕ → ℕ → Automaton V → Type 0
HasMiddles {V} alphabet W J = (t : Transition V) → In t J.transitions → IsOver alphabet (part t 1) × (length (part t 1) ≤ W)

-- F has the states and the weights of J, and moves by the outer parts of its labels
pub record IsProjection {V : Type 0} (R : WeightSet V) (J F : Automaton V) : Type 0 where
  pub states : F.states ≡ J.states
  pub initial : (p : ℕ) → p < J.states → initial_weight R F p ≡ initial_weight R J p
  pub final : (p : ℕ) → p < J.states → final_weight R F p ≡ final_weight R J p
  pub steps : (p : ℕ) (h : Word → ℕ → V) → p < J.states → moves_sum R F p h ≡ moves_sum R J p (λ a q. h (outer_word a) q)
