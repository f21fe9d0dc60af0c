-- Products of two automata whose labels have one letter.
use Rattle.std.specs.Prelude.{◌≡◌, ℕ, ◌<◌}
use Rattle.vc_model.specs.WeightSet.{WeightSet}
use Rattle.vc_model.specs.Lists.{below}
use Rattle.vc_model.specs.Sums.{sum_over}
use Rattle.vc_model.specs.Automata.{Automaton, initial_weight, final_weight}
use Rattle.vc_model.specs.Letters.{step_sum}
use Rattle.vc_model.specs.Moves.{initial_sum}

-- over all pairs of states, the sum of both initial weights times the value at the pair
abbrev pub initial_pairs_sum : {V : Type 0} → WeightSet V → Automaton V → Automaton V → (ℕ → ℕ → V) → V
initial_pairs_sum R A B g = sum_over R (λ p. sum_over R (λ q. R.times (R.times (initial_weight R A p) (initial_weight R B q)) (g p q)) (below B.states)) (below A.states)

-- state i of P stands for the pair (left i, right i), and both move by the same letter
pub record IsConjunction {V : Type 0} (R : WeightSet V) (A B P : Automaton V) (left right : ℕ → ℕ) : Type 0 where
  pub initial : (g : ℕ → ℕ → V) → initial_sum R P (λ i. g (left i) (right i)) ≡ initial_pairs_sum R A B g
  pub final : (i : ℕ) → i < P.states → final_weight R P i ≡ R.times (final_weight R A (left i)) (final_weight R B (right i))
  pub steps : (i x : ℕ) (g : ℕ → ℕ → V) → i < P.states → step_sum R P i x (λ j. g (left j) (right j)) ≡ step_sum R A (left i) x (λ a. step_sum R B (right i) x (λ b. g a b))
  pub left_below : (i : ℕ) → i < P.states → left i < A.states
  pub right_below : (i : ℕ) → i < P.states → right i < B.states

-- state i of P stands for the pair (left i, right i), and one of both moves while the other stays
pub record IsShuffle {V : Type 0} (R : WeightSet V) (A B P : Automaton V) (left right : ℕ → ℕ) : Type 0 where
  pub initial : (g : ℕ → ℕ → V) → initial_sum R P (λ i. g (left i) (right i)) ≡ initial_pairs_sum R A B g
  pub final : (i : ℕ) → i < P.states → final_weight R P i ≡ R.times (final_weight R A (left i)) (final_weight R B (right i))
  pub steps : (i x : ℕ) (g : ℕ → ℕ → V) → i < P.states → step_sum R P i x (λ j. g (left j) (right j)) ≡ R.plus (step_sum R A (left i) x (λ a. g a (right i))) (step_sum R B (right i) x (λ b. g (left i) b))
  pub left_below : (i : ℕ) → i < P.states → left i < A.states
  pub right_below : (i : ℕ) → i < P.states → right i < B.states
