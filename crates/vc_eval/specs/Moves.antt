-- How transitions lead from rows of weights to a later row. The rows stand one behind another in one list of cells.
use Rattle.std.specs.Prelude.{◌≡◌, ℕ, zero, suc, ◌<◌, ◌≤◌, ◌+◌, ◌-◌, ◌*◌, nat_le, nat_lt, Bool, true, false, ◌&&◌, IsTrue, List, [], ◌∷◌, ◌++◌, Option, None, Some, length, map, slice_index_or, slice_set, if◌then◌else◌, nat_eq}
use Rattle.std.specs.List.{ends_with}
use Rattle.vc_model.specs.WeightSet.{WeightSet}
use Rattle.vc_model.specs.Lists.{In, below}
use Rattle.vc_model.specs.Words.{Word}
use Rattle.vc_model.specs.Automata.{Automaton, Transition, final_weight}
use Rattle.vc_ring.specs.declared.faults.Overflow.{Overflow}
use Rattle.vc_ring.specs.declared.faults.Overflow.TheVariants.{Add, Mul}
use Rattle.vc_eval.specs.Positions.{place_of}

-- the entry of a row at a state
abbrev pub entry : {V : Type 0} → WeightSet V → List V → ℕ → V
entry R row t = slice_index_or row t R.zero

-- each tape of a word ends with that tape of the label
abbrev pub ends : Word → Word → Bool
ends [] [] = true
ends [] (b ∷ w) = false
ends (a ∷ u) [] = false
ends (a ∷ u) (b ∷ w) = ends_with nat_eq b a && ends u w

-- where a row begins that stands so many cells before the one that begins at a cell, going around
abbrev pub earlier : ℕ → ℕ → ℕ → ℕ
earlier at back cells = if nat_le back at then at - back else cells - (back - at)

-- where rows of n entries stand for positions of w: the cell of the row at a transition's source before its label
abbrev pub cell_of : {V : Type 0} → Word → ℕ → ℕ → ℕ → Transition V → ℕ
cell_of w n at cells u = earlier at (place_of w u.label * n) cells + u.from

-- what a transition multiplies where its label ends f: the entry at its source in the row before its label
abbrev pub source : {V : Type 0} → WeightSet V → Word → ℕ → Word → ℕ → List V → Transition V → Option V
source R w n f at rows u = if ends u.label f then Some (entry R rows (cell_of w n at (length rows) u)) else None

-- a transition to one of n states with a weight in range, whose cells are there
pub record IsMoveHere {V : Type 0} (R : WeightSet V) (w : Word) (n : ℕ) (f : Word) (at cells : ℕ) (u : Transition V) : Type 0 where
  pub to : at + u.to < cells
  pub weight : IsTrue (R.in_range u.weight)
  pub tapes : length u.label ≡ length f
  pub place : IsTrue (ends u.label f) → place_of w u.label ≤ cells
  pub back : IsTrue (ends u.label f) → place_of w u.label * n ≤ cells
  pub from : IsTrue (ends u.label f) → cell_of w n at cells u < cells
  pub row : IsTrue (ends u.label f) → earlier at (place_of w u.label * n) cells + n ≤ cells

-- each transition of an automaton is such a move
abbrev pub AreMovesHere : {V : Type 0} → WeightSet V → Word → Automaton V → Word → ℕ → ℕ → Type 0
AreMovesHere {V} R w A f at cells = (u : Transition V) → In u A.transitions → IsMoveHere R w A.states f at cells u

-- the product of a transition is added at its target in the row that begins at a cell
abbrev pub moved_once : {V : Type 0} → WeightSet V → ℕ → Option V → Transition V → List V → List V
moved_once R at None u rows = rows
moved_once R at (Some v) u rows = slice_set rows (at + u.to) (R.plus (entry R rows (at + u.to)) (R.times v u.weight))

-- the steps of that
abbrev pub once_steps : {V : Type 0} → WeightSet V → ℕ → Option V → Transition V → List V → List (Overflow V)
once_steps R at None u rows = []
once_steps R at (Some v) u rows = Mul v u.weight ∷ Add (entry R rows (at + u.to)) (R.times v u.weight) ∷ []

-- the rows after each of the transitions brought its product
abbrev pub moved : {V : Type 0} → WeightSet V → (List V → Transition V → Option V) → ℕ → List (Transition V) → List V → List V
moved R h at [] rows = rows
moved R h at (u ∷ us) rows = moved R h at us (moved_once R at (h rows u) u rows)

-- the steps of that
abbrev pub move_steps : {V : Type 0} → WeightSet V → (List V → Transition V → Option V) → ℕ → List (Transition V) → List V → List (Overflow V)
move_steps R h at [] rows = []
move_steps R h at (u ∷ us) rows = once_steps R at (h rows u) u rows ++ move_steps R h at us (moved_once R at (h rows u) u rows)

-- the row's entries with the final weights, by state
abbrev pub ends_of : {V : Type 0} → WeightSet V → Automaton V → List V → ℕ → List (V × V)
ends_of {V} R A rows at = map (λ (t : ℕ). (entry R rows (at + t), final_weight R A t)) (below A.states)

-- the steps where each product is made and added in turn, onto a
abbrev pub in_turn : {V : Type 0} → WeightSet V → V → List (V × V) → List (Overflow V)
in_turn R a [] = []
in_turn R a (p ∷ ps) = Mul p.0 p.1 ∷ Add a (R.times p.0 p.1) ∷ in_turn R (R.plus a (R.times p.0 p.1)) ps

-- the entries of the row of n states that begins at a cell are zero
abbrev pub cleared : {V : Type 0} → WeightSet V → ℕ → ℕ → List V → List V
cleared R at zero rows = rows
cleared R at (suc n) rows = slice_set (cleared R at n rows) (at + n) R.zero

-- where the row begins behind the one that begins at a cell, going around
abbrev pub next_row : ℕ → ℕ → ℕ → ℕ
next_row at n cells = if nat_lt n (cells - at) then at + n else 0
