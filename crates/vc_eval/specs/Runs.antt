-- Runs of transitions: those from one state with one label. The labels are numbered.
use Rattle.std.specs.Prelude.{◌≡◌, ℕ, ◌<◌, ◌≤◌, ◌+◌, ◌*◌, All, IsTrue, List, [], ◌∷◌, ◌++◌, Option, None, Some, length, map, slice_index_or, if◌then◌else◌}
use Rattle.std.specs.Borrow.{Bor}
use Rattle.std.specs.List.{flat_map}
use Rattle.vc_aut.specs.Stored.{transition_of}
use Rattle.vc_eval.specs.declared.runs.Run.{Run}
use Rattle.vc_eval.specs.Moves.{entry, ends, earlier, moved, move_steps}
use Rattle.vc_eval.specs.Positions.{place_of}
use Rattle.vc_model.specs.Automata.{Automaton, Transition}
use Rattle.vc_model.specs.Lists.{In}
use Rattle.vc_model.specs.WeightSet.{WeightSet}
use Rattle.vc_model.specs.Words.{Word}
use Rattle.vc_ring.specs.declared.faults.Overflow.{Overflow}

-- the state that a run leads from, the number of its label, and its transitions
pub record LabelRun (V : Type 0) : Type 0 where
  pub from : ℕ
  pub number : ℕ
  pub transitions : List (Transition V)

abbrev pub label_run : {V : Type 0} → ℕ → ℕ → List (Transition V) → LabelRun V
label_run s k us = record { from = s; number = k; transitions = us }

abbrev pub run_of : {L S B V : Type 0} → (B → Word) → Run L S B V → LabelRun V
run_of parts r = record { from = r.from; number = r.number; transitions = map (transition_of parts) r.transitions.now }

-- the words of labels that are lent
abbrev pub words_of : {B : Type 0} → (B → Word) → List (Bor B) → List Word
words_of parts labels = map (λ b. parts b.now) labels

-- the transitions of runs, one run behind another
abbrev pub run_moves : {V : Type 0} → List (LabelRun V) → List (Transition V)
run_moves rs = flat_map (λ r. r.transitions) rs

-- the transitions of a run lead from its state and have its label
pub record IsLabelRun {V : Type 0} (words : List Word) (r : LabelRun V) : Type 0 where
  pub number : r.number < length words
  pub from : All (λ u. u.from ≡ r.from) r.transitions
  pub label : All (λ u. u.label ≡ slice_index_or words r.number []) r.transitions

-- a label of the automaton
abbrev pub IsLabelOf : {V : Type 0} → Automaton V → Word → Type 0
IsLabelOf {V} A l = (u : Transition V) × In u A.transitions × (u.label ≡ l)

-- runs over labels of the automaton
pub record AreRunsOver {V : Type 0} (A : Automaton V) (words : List Word) (rs : List (LabelRun V)) : Type 0 where
  pub runs : All (IsLabelRun words) rs
  pub states : All (λ r. r.from < A.states) rs
  pub labels : All (IsLabelOf A) words

-- the cell of a state in the row that begins at a cell
abbrev pub cell_in : Option ℕ → ℕ → Option ℕ
cell_in None s = None
cell_in (Some b) s = Some (b + s)

-- what transitions multiply that all begin at one cell: its entry
abbrev pub at_cell : {V : Type 0} → WeightSet V → Option ℕ → List V → Transition V → Option V
at_cell R None rows u = None
at_cell R (Some c) rows u = Some (entry R rows c)

-- the cell that a run begins at, where the rows of the labels begin at origins
abbrev pub run_cell : {V : Type 0} → List (Option ℕ) → LabelRun V → Option ℕ
run_cell origins r = cell_in (slice_index_or origins r.number None) r.from

-- the rows after each run brought its products to the row that begins at a cell
abbrev pub runs_moved : {V : Type 0} → WeightSet V → List (Option ℕ) → ℕ → List (LabelRun V) → List V → List V
runs_moved R origins at [] rows = rows
runs_moved R origins at (r ∷ rs) rows = runs_moved R origins at rs (moved R (at_cell R (run_cell origins r)) at r.transitions rows)

-- the steps of that
abbrev pub run_steps : {V : Type 0} → WeightSet V → List (Option ℕ) → ℕ → List (LabelRun V) → List V → List (Overflow V)
run_steps R origins at [] rows = []
run_steps R origins at (r ∷ rs) rows = move_steps R (at_cell R (run_cell origins r)) at r.transitions rows ++ run_steps R origins at rs (moved R (at_cell R (run_cell origins r)) at r.transitions rows)

-- where rows of n entries stand for positions of w: where the row begins before a label that ends f
abbrev pub origin : Word → ℕ → Word → ℕ → ℕ → Word → Option ℕ
origin w n f at cells l = if ends l f then Some (earlier at (place_of w l * n) cells) else None

-- a label whose row is there where it ends f
pub record IsLabelHere (w : Word) (n : ℕ) (f : Word) (at cells : ℕ) (l : Word) : Type 0 where
  pub tapes : length l ≡ length f
  pub place : IsTrue (ends l f) → place_of w l ≤ cells
  pub back : IsTrue (ends l f) → place_of w l * n ≤ cells
  pub row : IsTrue (ends l f) → earlier at (place_of w l * n) cells + n ≤ cells

-- the row of n entries that begins at a cell is zero, if there is one
abbrev pub IsZeroRow : {V : Type 0} → WeightSet V → ℕ → List V → Option ℕ → Type 0
IsZeroRow R n rows o = (b t : ℕ) → o ≡ Some b → t < n → entry R rows (b + t) ≡ R.zero
