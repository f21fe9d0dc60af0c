-- Products of two automata, whose states stand for pairs of states.
use Rattle.std.specs.Prelude.{ℕ, List}
use Rattle.vc_model.specs.Automata.{Automaton}
use Rattle.vc_model.specs.Items.{Item}
use Rattle.vc_model.specs.WeightSet.{WeightSet}
use Rattle.vc_products.specs.LetterProducts.{IsConjunction, IsShuffle}
use Rattle.vc_search.specs.Explored.{AreNumbered, IsExplored, next_by}
use Rattle.vc_join.specs.Pairs.{Pair, no_pair, same_states, pair_initial, pair_final}

-- a state of P for each of at most so many pairs that are found from the first ones, by its number: both initial weights are multiplied, and both final ones, and the transitions gather what the pairs lead to
abbrev pub IsPairProduct : {V : Type 0} → WeightSet V → List Pair → (Pair → List (Item V Pair)) → Automaton V → Automaton V → ℕ → Automaton V → Type 0
IsPairProduct R first items A B limit P =
    AreNumbered same_states (next_by items) first limit (λ members. IsExplored R same_states no_pair items (pair_initial R A B) (pair_final R A B) members P)

-- the states of P stand for pairs of states, which move by the same letter
pub record MovesTogether {V : Type 0} (R : WeightSet V) (A B P : Automaton V) : Type 0 where
  pub left : ℕ → ℕ
  pub right : ℕ → ℕ
  pub conjunction : IsConjunction R A B P left right

-- the states of P stand for pairs of states, of which one moves while the other stays
pub record MovesAlone {V : Type 0} (R : WeightSet V) (A B P : Automaton V) : Type 0 where
  pub left : ℕ → ℕ
  pub right : ℕ → ℕ
  pub shuffle : IsShuffle R A B P left right
