-- What an evaluator keeps, and the room that rows need.
use Rattle.std.specs.Prelude.{◌≡◌, ℕ, Bool, false, IsTrue, ◌<◌, ◌≤◌, ◌*◌, List, Option, length}
use Rattle.vc_aut.specs.Labelled.{Labelled}
use Rattle.vc_model.specs.Automata.{Automaton, Transition}
use Rattle.vc_model.specs.Letters.{HasLetters}
use Rattle.vc_model.specs.Lists.{In}
use Rattle.vc_model.specs.WeightSet.{WeightSet, InRange}
use Rattle.vc_model.specs.Words.{Word}
use Rattle.vc_eval.specs.Cells.{cells}
use Rattle.vc_eval.specs.Forward.{by_source}
use Rattle.vc_eval.specs.Positions.{positions, place_of}
use Rattle.vc_eval.specs.Runs.{AreRunsOver, LabelRun, run_moves}

-- an automaton of one tape, whether each label is a single letter, else its runs and a place for each label's row, a row for each letter of the longest label and one more, and a mark for each 64 cells
pub record IsReady {V : Type 0} (R : WeightSet V) (a : Labelled V) (single : Bool) (words : List Word) (runs : List (LabelRun V)) (origins : List (Option ℕ)) (rows : List V) (marks : List Bool) : Type 0 where
  pub tapes : length a.sets ≡ 1
  pub letters : IsTrue single → HasLetters a.automaton
  pub over : single ≡ false → AreRunsOver a.automaton words runs
  pub all : single ≡ false → run_moves runs ≡ by_source a.automaton
  pub numbered : single ≡ false → length origins ≡ length words
  pub cells : length rows ≡ cells a.automaton
  pub in_range : InRange R rows
  pub marked : length rows ≤ 64 * length marks

-- so many cells are whole rows, and as many as a label leads back from a position
pub record HasRoom {V : Type 0} (A : Automaton V) (w : Word) (cells : ℕ) : Type 0 where
  pub count : ℕ
  pub some : 1 ≤ count
  pub whole : cells ≡ count * A.states
  pub window : (u : Transition V) → In u A.transitions → (p : ℕ) → p < positions w → place_of w u.label ≤ p → place_of w u.label < count
