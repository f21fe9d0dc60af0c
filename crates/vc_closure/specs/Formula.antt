-- The steps of the sums by which an automaton without empty labels is made, and what its limits count.
use Rattle.std.specs.Prelude.{◌≡◌, ◌≢◌, ℕ, ◌<◌, ◌⊎◌, suc, List, length}
use Rattle.vc_closure.specs.Closing.{closure, matrix, silent_weight, unit_entry}
use Rattle.vc_model.specs.Automata.{Automaton, IsPath, NoEmptyCircuit, Transition, end_of, final_weight, path_label}
use Rattle.vc_model.specs.Gathered.{weight_at}
use Rattle.vc_model.specs.Lists.{In, NoRepeat, below}
use Rattle.vc_model.specs.Sums.{sum_over}
use Rattle.vc_model.specs.WeightSet.{WeightSet}
use Rattle.vc_model.specs.Words.{Word, size}
use Rattle.vc_ring.specs.declared.faults.Overflow.{Overflow}
use Rattle.vc_ring.specs.declared.faults.Overflow.TheVariants.{Add, Mul}

-- a product of n of them, or the addition of one to the first and those before it
abbrev pub IsSumStep : {V : Type 0} → WeightSet V → V → (ℕ → V) → (ℕ → V) → ℕ → Overflow V → Type 0
IsSumStep R first left right n o = (j : ℕ) × (j < n) × ((o ≡ Mul (left j) (right j)) ⊎ (o ≡ Add (R.plus first (sum_over R (λ k. R.times (left k) (right k)) (below j))) (R.times (left j) (right j))))

-- a step of an entry of the unit matrix and the empty transitions times K
abbrev pub IsEntryStep : {V : Type 0} → WeightSet V → Automaton V → (ℕ → ℕ → V) → Overflow V → Type 0
IsEntryStep R A K o = (i : ℕ) × (t : ℕ) × (i < A.states) × (t < A.states) × IsSumStep R (unit_entry R i t) (silent_weight R A i) (λ j. K j t) A.states o

-- a step of the matrices after the first, up to the last of as many as there are states
abbrev pub IsMatrixStep : {V : Type 0} → WeightSet V → Automaton V → Overflow V → Type 0
IsMatrixStep R A o = (m : ℕ) × (suc m < A.states) × IsEntryStep R A (matrix R A m) o

-- a step of the closure: of its recursion where no circuit is empty, and else of the matrices
abbrev pub IsClosureStep : {V : Type 0} → WeightSet V → ℕ → Automaton V → Overflow V → Type 0
IsClosureStep R tapes A o = (NoEmptyCircuit tapes A × IsEntryStep R A (closure R A) o) ⊎ ((¬ NoEmptyCircuit tapes A) × IsMatrixStep R A o)

-- a step of the final weights, and of the transitions with a label that is not empty: sums over the states, by the closure
abbrev pub IsBroughtStep : {V : Type 0} → WeightSet V → Automaton V → Overflow V → Type 0
IsBroughtStep R A o =
    ((i : ℕ) × (i < A.states) × IsSumStep R R.zero (closure R A i) (final_weight R A) A.states o)
    ⊎ ((i : ℕ) × (v : Word) × (t : ℕ) × (i < A.states) × (size v ≢ 0) × IsSumStep R R.zero (closure R A i) (λ j. weight_at R A.transitions (j, v, t)) A.states o)

-- a path of empty labels leads from i to t
abbrev pub IsJoined : {V : Type 0} → ℕ → Automaton V → ℕ → ℕ → Type 0
IsJoined {V} tapes A i t = (ts : List (Transition V)) × IsPath A i ts × (end_of i ts ≡ t) × (size (path_label tapes ts) ≡ 0)

-- the states are different, and empty labels join them
abbrev pub IsPair : {V : Type 0} → ℕ → Automaton V → ℕ × ℕ → Type 0
IsPair tapes A d = (d.0 < A.states) × (d.1 < A.states) × (d.0 ≢ d.1) × IsJoined tapes A d.0 d.1

-- more than 4,000,000 pairs of states are joined by empty labels
abbrev pub HasManyPairs : {V : Type 0} → ℕ → Automaton V → Type 0
HasManyPairs tapes A = (ds : List (ℕ × ℕ)) × NoRepeat ds × ((d : ℕ × ℕ) → In d ds → IsPair tapes A d) × (4000000 < length ds)

-- the triple is named: its label is not empty, and some state is brought by the closure and has it
abbrev pub IsNamed : {V : Type 0} → WeightSet V → Automaton V → ℕ × Word × ℕ → Type 0
IsNamed R A d = (d.0 < A.states) × (size d.1 ≢ 0) × (j : ℕ) × (j < A.states) × (closure R A d.0 j ≢ R.zero) × (weight_at R A.transitions (j, d.1, d.2) ≢ R.zero)

-- more than 4,000,000 triples are named
abbrev pub HasManyTriples : {V : Type 0} → WeightSet V → Automaton V → Type 0
HasManyTriples R A = (ds : List (ℕ × Word × ℕ)) × NoRepeat ds × ((d : ℕ × Word × ℕ) → In d ds → IsNamed R A d) × (4000000 < length ds)
