-- Automata of which one has the combinations of the other's states as its states.
use Rattle.std.specs.Prelude.{◌≡◌, ℕ, if◌then◌else◌, ◌==◌, ◌<◌}
use Rattle.vc_model.specs.WeightSet.{WeightSet}
use Rattle.vc_model.specs.Lists.{below}
use Rattle.vc_model.specs.Sums.{sum_over}
use Rattle.vc_model.specs.Words.{Word}
use Rattle.vc_model.specs.Automata.{Automaton, initial_weight, final_weight}
use Rattle.vc_model.specs.Moves.{moves_sum}
use Rattle.vc_model.specs.Letters.{step_sum}

-- the sum of x i times f i over the numbers i below n
abbrev pub combined : {V : Type 0} → WeightSet V → ℕ → (ℕ → V) → (ℕ → V) → V
combined R n x f = sum_over R (λ i. R.times (x i) (f i)) (below n)

-- state p of A is the combination X p of the states of B: so they begin, end and move
pub record IsConjugate {V : Type 0} (R : WeightSet V) (A B : Automaton V) (X : ℕ → ℕ → V) : Type 0 where
  pub initial : (q : ℕ) → q < B.states → combined R A.states (initial_weight R A) (λ p. X p q) ≡ initial_weight R B q
  pub final : (p : ℕ) → p < A.states → final_weight R A p ≡ combined R B.states (X p) (final_weight R B)
  pub steps : (p : ℕ) (h : Word → ℕ → V) → p < A.states → moves_sum R A p (λ a s. combined R B.states (X s) (h a)) ≡ combined R B.states (X p) (λ q. moves_sum R B q h)

-- the weight from state i to state j by letter x
abbrev pub letter_entry : {V : Type 0} → WeightSet V → Automaton V → ℕ → ℕ → ℕ → V
letter_entry R B x i j = step_sum R B i x (λ q. if j == q then R.one else R.zero)

-- the same by letters: a letter and then X is X and then the letter
pub record IsLetterConjugate {V : Type 0} (R : WeightSet V) (A B : Automaton V) (X : ℕ → ℕ → V) : Type 0 where
  pub initial : (q : ℕ) → q < B.states → combined R A.states (initial_weight R A) (λ p. X p q) ≡ initial_weight R B q
  pub final : (p : ℕ) → p < A.states → final_weight R A p ≡ combined R B.states (X p) (final_weight R B)
  pub entries : (p x q : ℕ) → p < A.states → q < B.states → step_sum R A p x (λ s. X s q) ≡ combined R B.states (X p) (λ r. letter_entry R B x r q)
