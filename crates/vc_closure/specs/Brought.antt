-- What is brought to the states by the rows of a matrix, and the steps by which it is made.
use Rattle.std.specs.Prelude.{◌≡◌, ◌⊎◌, ℕ, ◌<◌, ◌++◌, not, false, All, List, ◌∷◌, map}
use Rattle.std.specs.Global.{Vec}
use Rattle.std.specs.List.{filter, flat_map}
use Rattle.vc_aut.specs.Validity.{IsMove}
use Rattle.vc_closure.specs.Rows.{entries_at}
use Rattle.vc_closure.specs.Searches.{moves_from}
use Rattle.vc_closure.specs.declared.rows.Entry.{Entry}
use Rattle.vc_label.specs.declared.tape_set.TapeSet.{TapeSet}
use Rattle.vc_model.specs.Automata.{Automaton, Transition, final_weight}
use Rattle.vc_model.specs.Lists.{In, below}
use Rattle.vc_model.specs.Sums.{sum_over}
use Rattle.vc_model.specs.WeightSet.{WeightSet}
use Rattle.vc_model.specs.Words.{is_empty}
use Rattle.vc_ring.specs.declared.faults.Overflow.{Overflow}
use Rattle.vc_ring.specs.declared.faults.Overflow.TheVariants.{Add, Mul}

-- the transitions whose labels are not empty, from state i, w times each
abbrev pub moves_brought : {V : Type 0} → WeightSet V → ℕ → V → List (Transition V) → List (Transition V)
moves_brought R i w ts = map (λ t. record { from = i; label = t.label; to = t.to; weight = R.times w t.weight }) (filter (λ t. not (is_empty t.label)) ts)

-- what an entry brings to state i
abbrev pub entry_brought : {S V : Type 0} → WeightSet V → Automaton V → ℕ → Entry S V → List (Transition V)
entry_brought R A i e = moves_brought R i e.weight (moves_from A e.state)

-- what a row brings to state i
abbrev pub row_brought : {S V : Type 0} → WeightSet V → Automaton V → ℕ → List (Entry S V) → List (Transition V)
row_brought R A i row = flat_map (entry_brought R A i) row

-- what the first n rows bring
abbrev pub rows_brought : {S V : Type 0} → WeightSet V → Automaton V → List (Vec (Entry S V)) → ℕ → List (Transition V)
rows_brought R A rows n = flat_map (λ i. row_brought R A i (entries_at rows i)) (below n)

-- the final weight that a row brings
abbrev pub row_final : {S V : Type 0} → WeightSet V → Automaton V → List (Entry S V) → V
row_final R A row = sum_over R (λ e. R.times e.weight (final_weight R A e.state)) row

-- these transitions more, which are moves between n states
pub record IsMore {V : Type 0} (R : WeightSet V) (sets : List TapeSet) (n : ℕ) (before after ts : List (Transition V)) : Type 0 where
  pub is : after ≡ before ++ ts
  pub moves : All (IsMove R sets n) ts

-- w times one of the transitions whose labels are not empty
abbrev pub AreProducts : {V : Type 0} → WeightSet V → V → List (Transition V) → Overflow V → Type 0
AreProducts {V} R w ts o = (t : Transition V) × In t ts × (is_empty t.label ≡ false) × (o ≡ Mul w t.weight)

-- an entry of the row times such a transition from its state
abbrev pub IsProduct : {S V : Type 0} → WeightSet V → Automaton V → List (Entry S V) → Overflow V → Type 0
IsProduct {S} {V} R A row o = (e : Entry S V) × In e row × AreProducts R e.weight (moves_from A e.state) o

-- such a product by one of the rows
abbrev pub IsProductOf : {S V : Type 0} → WeightSet V → Automaton V → List (Vec (Entry S V)) → Overflow V → Type 0
IsProductOf R A rows o = (i : ℕ) × (i < A.states) × IsProduct R A (entries_at rows i) o

-- a step of the final weight that a row brings: an entry times the final weight of its state, or the addition of this to what stands before it
pub record IsTotalStep {S V : Type 0} (R : WeightSet V) (A : Automaton V) (row : List (Entry S V)) (o : Overflow V) : Type 0 where
  pub before : List (Entry S V)
  pub entry : Entry S V
  pub after : List (Entry S V)
  pub is : row ≡ before ++ entry ∷ after
  pub step : (o ≡ Mul entry.weight (final_weight R A entry.state)) ⊎ (o ≡ Add (row_final R A before) (R.times entry.weight (final_weight R A entry.state)))

-- such a step by one of the rows
abbrev pub AreTotalSteps : {S V : Type 0} → WeightSet V → Automaton V → List (Vec (Entry S V)) → Overflow V → Type 0
AreTotalSteps R A rows o = (i : ℕ) × (i < A.states) × IsTotalStep R A (entries_at rows i) o
