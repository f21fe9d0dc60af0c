-- Automata from tables of weights.
use Rattle.std.specs.Prelude.{ℕ, List, map}
use Rattle.std.specs.List.{flat_map}
use Rattle.vc_model.specs.Lists.{below}
use Rattle.vc_model.specs.Words.{Word}
use Rattle.vc_model.specs.Automata.{Transition}

-- for each two of n states and each label of a list, a transition with the weight of the table
abbrev pub table_transitions : {V : Type 0} → ℕ → List Word → (Word → ℕ → ℕ → V) → List (Transition V)
table_transitions n labels N = flat_map (λ i. flat_map (λ a. map (λ j. record { from = i; label = a; to = j; weight = N a i j }) (below n)) labels) (below n)
