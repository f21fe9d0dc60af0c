-- The closure of the empty labels of an automaton, and the automaton without them.
use Rattle.std.specs.Prelude.{◌≡◌, ℕ, zero, suc, ◌<◌, ◌-◌, ◌&&◌, ◌==◌, not, List, map, if◌then◌else◌}
use Rattle.std.specs.List.{filter, flat_map}
use Rattle.vc_model.specs.Automata.{Automaton, Transition, final_weight}
use Rattle.vc_model.specs.Closures.{entries_sum}
use Rattle.vc_model.specs.Gathered.{IsGathered}
use Rattle.vc_model.specs.Lists.{below}
use Rattle.vc_model.specs.Sums.{sum_over}
use Rattle.vc_model.specs.WeightSet.{WeightSet}
use Rattle.vc_model.specs.Words.{is_empty}

-- the weight of the empty transition from i to j
abbrev pub silent_weight : {V : Type 0} → WeightSet V → Automaton V → ℕ → ℕ → V
silent_weight R A i j = sum_over R (λ t. if t.from == i then (if is_empty t.label then (if j == t.to then t.weight else R.zero) else R.zero) else R.zero) A.transitions

abbrev pub unit_entry : {V : Type 0} → WeightSet V → ℕ → ℕ → V
unit_entry R i t = if t == i then R.one else R.zero

-- the unit matrix, and the empty transitions times K
abbrev pub next_entry : {V : Type 0} → WeightSet V → Automaton V → (ℕ → ℕ → V) → ℕ → ℕ → V
next_entry R A K i t = R.plus (unit_entry R i t) (sum_over R (λ j. R.times (silent_weight R A i j) (K j t)) (below A.states))

-- K is the unit matrix and the empty transitions times K
abbrev pub IsClosed : {V : Type 0} → WeightSet V → Automaton V → (ℕ → ℕ → V) → Type 0
IsClosed R A K = (i t : ℕ) → i < A.states → t < A.states → K i t ≡ next_entry R A K i t

-- the matrices of the closure: the first is the unit matrix, and each next one is made from the one before
abbrev pub matrix : {V : Type 0} → WeightSet V → Automaton V → ℕ → ℕ → ℕ → V
matrix R A zero i t = unit_entry R i t
matrix R A (suc m) i t = R.plus (unit_entry R i t) (sum_over R (λ j. R.times (silent_weight R A i j) (matrix R A m j t)) (below A.states))

-- the closure: the last of as many matrices as there are states
abbrev pub closure : {V : Type 0} → WeightSet V → Automaton V → ℕ → ℕ → V
closure R A = matrix R A (A.states - 1)

-- what state i has by what state j has: the transitions from j whose label is not empty, each times K(i, j)
abbrev pub brought : {V : Type 0} → WeightSet V → Automaton V → (ℕ → ℕ → V) → ℕ → ℕ → List (Transition V)
brought R A K i j = map (λ t. record { from = i; label = t.label; to = t.to; weight = R.times (K i j) t.weight }) (filter (λ t. (t.from == j) && not (is_empty t.label)) A.transitions)

-- what the states have, by state and by what is brought
abbrev pub all_brought : {V : Type 0} → WeightSet V → Automaton V → (ℕ → ℕ → V) → List (Transition V)
all_brought R A K = flat_map (λ i. flat_map (brought R A K i) (below A.states)) (below A.states)

-- P is A without its empty labels, whose closure is K: the states and initial weights are the same, and final weights and transitions are sums of products by K
pub record IsClosing {V : Type 0} (R : WeightSet V) (A P : Automaton V) (K : ℕ → ℕ → V) : Type 0 where
  pub states : P.states ≡ A.states
  pub initial : P.initial ≡ A.initial
  pub final : (i : ℕ) → i < A.states → final_weight R P i ≡ entries_sum R A K i (final_weight R A)
  pub transitions : IsGathered R (all_brought R A K) P.transitions
