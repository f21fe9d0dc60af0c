-- Rows of a matrix that keep the entries which are not zero, and rows of sums.
use Rattle.std.specs.Prelude.{◌≡◌, ◌≢◌, ◌<◌, ◌==◌, ◌⊎◌, ℕ, zero, suc, IsTrue, true, List, [], ◌∷◌, ◌++◌, length, map, slice_index_or, if◌then◌else◌}
use Rattle.std.specs.Global.{Vec}
use Rattle.vc_closure.specs.Formula.{IsJoined}
use Rattle.vc_closure.specs.declared.rows.Entry.{Entry}
use Rattle.vc_model.specs.Automata.{Automaton, Transition}
use Rattle.vc_model.specs.Closures.{silent_sum}
use Rattle.vc_model.specs.Lists.{In, IsIncreasing}
use Rattle.vc_model.specs.Sums.{sum_over}
use Rattle.vc_model.specs.WeightSet.{WeightSet, InRange}
use Rattle.vc_model.specs.Words.{is_empty}
use Rattle.vc_ring.specs.declared.faults.Overflow.{Overflow}
use Rattle.vc_ring.specs.declared.faults.Overflow.TheVariants.{Add, Mul}

-- the entry of a row in a column
abbrev pub row_at : {S V : Type 0} → WeightSet V → List (Entry S V) → ℕ → V
row_at R row t = sum_over R (λ e. if e.state == t then e.weight else R.zero) row

-- the entries of a row, none past the last row
abbrev pub entries_at : {S V : Type 0} → List (Vec (Entry S V)) → ℕ → List (Entry S V)
entries_at [] p = []
entries_at (v ∷ vs) zero = v.items
entries_at (v ∷ vs) (suc p) = entries_at vs p

-- the entries are by their columns, of which there are n, and their weights are in range and not zero
pub record IsRow {S V : Type 0} (R : WeightSet V) (n : ℕ) (row : List (Entry S V)) : Type 0 where
  pub inside : (e : Entry S V) → In e row → e.state < n
  pub in_range : (e : Entry S V) → In e row → IsTrue (R.in_range e.weight)
  pub weight : (e : Entry S V) → In e row → e.weight ≢ R.zero
  pub order : IsIncreasing (map (λ e. e.state) row)

-- n rows
pub record AreRows {S V : Type 0} (R : WeightSet V) (n : ℕ) (rows : List (Vec (Entry S V))) : Type 0 where
  pub count : length rows ≡ n
  pub each : (p : ℕ) → IsRow R n (entries_at rows p)

-- the sum at a state
abbrev pub sum_at : {V : Type 0} → WeightSet V → List V → ℕ → V
sum_at R sums q = slice_index_or sums q R.zero

-- n sums in range, and the states whose sums are not zero are among those that were touched
pub record AreSums {V : Type 0} (R : WeightSet V) (n : ℕ) (sums : List V) (touched : List ℕ) : Type 0 where
  pub count : length sums ≡ n
  pub in_range : InRange R sums
  pub held : (q : ℕ) → sum_at R sums q ≢ R.zero → In q touched
  pub inside : (q : ℕ) → In q touched → q < n

-- besides, all sums are zero
pub record AreClear {V : Type 0} (R : WeightSet V) (n : ℕ) (sums : List V) (touched : List ℕ) : Type 0 where
  pub are : AreSums R n sums touched
  pub cleared : (q : ℕ) → sum_at R sums q ≡ R.zero

-- what the empty transitions from s bring in a column
abbrev pub silent_part : {S V : Type 0} → WeightSet V → Automaton V → List (Vec (Entry S V)) → ℕ → ℕ → V
silent_part R A rows s t = silent_sum R A s (λ j. row_at R (entries_at rows j) t)

-- what transitions bring in a column
abbrev pub moves_part : {S V : Type 0} → WeightSet V → List (Vec (Entry S V)) → List (Transition V) → ℕ → V
moves_part R rows ts q = sum_over R (λ t. if is_empty t.label then R.times t.weight (row_at R (entries_at rows t.to) q) else R.zero) ts

-- the matrix of which these are the rows
abbrev pub matrix_of : {S V : Type 0} → WeightSet V → List (Vec (Entry S V)) → ℕ → ℕ → V
matrix_of R rows s t = row_at R (entries_at rows s) t

-- the rows are those of K
abbrev pub AreRowsOf : {S V : Type 0} → WeightSet V → Automaton V → (ℕ → ℕ → V) → List (Vec (Entry S V)) → Type 0
AreRowsOf R A K rows = (s t : ℕ) → s < A.states → t < A.states → row_at R (entries_at rows s) t ≡ K s t

-- an entry other than zero is at two states that empty labels join
abbrev pub AreJoined : {V : Type 0} → WeightSet V → ℕ → Automaton V → (ℕ → ℕ → V) → Type 0
AreJoined R tapes A K = (i t : ℕ) → i < A.states → t < A.states → K i t ≢ R.zero → IsJoined tapes A i t

-- the step adds b to a
abbrev pub IsAddition : {V : Type 0} → V → V → Overflow V → Type 0
IsAddition a b o = o ≡ Add a b

-- the step is w times an entry of the row, or the addition of this to the sum at its state
abbrev pub IsRowStep : {S V : Type 0} → WeightSet V → (ℕ → V) → V → List (Entry S V) → Overflow V → Type 0
IsRowStep {S} {V} R sums w row o = (e : Entry S V) × In e row × ((o ≡ Mul w e.weight) ⊎ (o ≡ Add (sums e.state) (R.times w e.weight)))

-- the step is one by which what the empty ones of the transitions bring is added to first sums, one after the other
pub record IsMovesStep {S V : Type 0} (R : WeightSet V) (first : ℕ → V) (rows : List (Vec (Entry S V))) (ts : List (Transition V)) (o : Overflow V) : Type 0 where
  pub before : List (Transition V)
  pub move_ : Transition V
  pub after : List (Transition V)
  pub is : ts ≡ before ++ move_ ∷ after
  pub empty : is_empty move_.label ≡ true
  pub step : IsRowStep R (λ q. R.plus (first q) (moves_part R rows before q)) move_.weight (entries_at rows move_.to) o
