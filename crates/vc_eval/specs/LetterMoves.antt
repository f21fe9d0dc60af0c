-- How transitions whose labels are single letters lead from one row to the next.
use Rattle.std.specs.Prelude.{◌≡◌, ◌≢◌, ℕ, ◌<◌, ◌≤◌, ◌+◌, IsTrue, List, Option, None, Some, length, ◌==◌, if◌then◌else◌}
use Rattle.vc_model.specs.WeightSet.{WeightSet}
use Rattle.vc_model.specs.Letters.{letter_of, HasLetters}
use Rattle.vc_model.specs.Words.{Word, size}
use Rattle.vc_model.specs.Automata.{Automaton, Transition}
use Rattle.vc_eval.specs.Moves.{entry, earlier}

-- a transition with a weight in range, whose target has a cell in the row that begins at a cell
pub record IsMoveInto {V : Type 0} (R : WeightSet V) (at cells : ℕ) (u : Transition V) : Type 0 where
  pub to : at + u.to < cells
  pub weight : IsTrue (R.in_range u.weight)

-- what a transition with the letter x multiplies: the entry at its source in the row that begins at a cell
abbrev pub by_letter : {V : Type 0} → WeightSet V → ℕ → ℕ → List V → Transition V → Option V
by_letter R x before rows u = if letter_of u == x then Some (entry R rows (before + u.from)) else None

-- the same where this entry is v
abbrev pub with_letter : {V : Type 0} → ℕ → V → List V → Transition V → Option V
with_letter x v rows u = if letter_of u == x then Some v else None

-- what each transition multiplies where this is v
abbrev pub carried : {V : Type 0} → V → List V → Transition V → Option V
carried v rows u = Some v

-- two rows of n entries that do not meet
pub record AreApart (n before at cells : ℕ) : Type 0 where
  pub before_inside : before + n ≤ cells
  pub inside : at + n ≤ cells
  pub apart : (s t : ℕ) → s < n → t < n → before + s ≢ at + t

-- all labels are single letters, f has a letter on its only tape, and the row one letter earlier stands apart
pub record AreLettersHere {V : Type 0} (A : Automaton V) (f : Word) (at cells : ℕ) : Type 0 where
  pub letters : HasLetters A
  pub tape : length f ≡ 1
  pub some : 1 ≤ size f
  pub apart : AreApart A.states (earlier at A.states cells) at cells
