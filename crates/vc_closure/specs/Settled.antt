-- Moves along which weights spread, and rows that are settled.
use Rattle.std.specs.Prelude.{◌≡◌, ◌<◌, ℕ, Bool, IsTrue, List, length, map}
use Rattle.std.specs.Global.{Vec}
use Rattle.std.specs.List.{filter}
use Rattle.vc_closure.specs.Rows.{entries_at}
use Rattle.vc_closure.specs.Searches.{moves_from}
use Rattle.vc_closure.specs.declared.rows.Entry.{Entry}
use Rattle.vc_model.specs.Automata.{Automaton, Transition}
use Rattle.vc_model.specs.Lists.{In}
use Rattle.vc_model.specs.WeightSet.{WeightSet}
use Rattle.vc_model.specs.Words.{is_empty}

-- a transition as a move: its target and its weight
abbrev pub move_of : {S V : Type 0} → Transition V → Entry S V
move_of t = record { state = t.to; weight = t.weight }

-- the empty ones of the transitions, as moves
abbrev pub moves_of : {S V : Type 0} → List (Transition V) → List (Entry S V)
moves_of ts = map move_of (filter (λ t. is_empty t.label) ts)

-- moves to n states, with weights in range
pub record AreAmong {S V : Type 0} (R : WeightSet V) (n : ℕ) (row : List (Entry S V)) : Type 0 where
  pub inside : (e : Entry S V) → In e row → e.state < n
  pub in_range : (e : Entry S V) → In e row → IsTrue (R.in_range e.weight)

-- moves from n states to n states
pub record AreMoves {S V : Type 0} (R : WeightSet V) (n : ℕ) (moves : List (Vec (Entry S V))) : Type 0 where
  pub count : length moves ≡ n
  pub each : (p : ℕ) → AreAmong R n (entries_at moves p)

-- the moves are the empty transitions
abbrev pub AreMovesOf : {S V : Type 0} → Automaton V → List (Vec (Entry S V)) → Type 0
AreMovesOf A moves = (p : ℕ) → p < A.states → entries_at moves p ≡ moves_of (moves_from A p)

-- x takes in what it has behind each move
abbrev pub TakesIn : {S V : Type 0} → WeightSet V → List (Vec (Entry S V)) → (ℕ → V) → Type 0
TakesIn {S} {V} R moves x = (p : ℕ) (e : Entry S V) → In e (entries_at moves p) → R.plus (x p) (R.times e.weight (x e.state)) ≡ x p

-- the weights are no more than those of all walks from s: an x that takes in what it has behind each move has, at s, what they bring of it
abbrev pub AreFrom : {S V : Type 0} → WeightSet V → List (Vec (Entry S V)) → ℕ → (ℕ → V) → Type 0
AreFrom {S} {V} R moves s weights = (x : ℕ → V) → TakesIn R moves x → (q : ℕ) → R.plus (x s) (R.times (weights q) (x q)) ≡ x s

-- a weight times the moves of a row adds nothing to the weights
abbrev pub AddsNothing : {S V : Type 0} → WeightSet V → (ℕ → V) → V → List (Entry S V) → Type 0
AddsNothing {S} {V} R weights w row = (e : Entry S V) → In e row → R.plus (weights e.state) (R.times w e.weight) ≡ weights e.state

-- the weights are settled: they are those of walks from s, one at s, and no move adds to them
pub record IsSettled {S V : Type 0} (R : WeightSet V) (moves : List (Vec (Entry S V))) (s : ℕ) (weights : ℕ → V) : Type 0 where
  pub from : AreFrom R moves s weights
  pub one : weights s ≡ R.one
  pub settled : (p : ℕ) → AddsNothing R weights (weights p) (entries_at moves p)

-- states that wait are among n, of which each has a mark
pub record AreWaiting (n : ℕ) (queue : List ℕ) (marks : List Bool) : Type 0 where
  pub count : length marks ≡ n
  pub inside : (q : ℕ) → In q queue → q < n
