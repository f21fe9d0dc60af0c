-- Transitions that are written.
use Rattle.std.specs.Prelude.{◌≡◌, ℕ, IsTrue, List, length, map}
use Rattle.std.specs.Borrow.{Bor}
use Rattle.vc_aut.specs.Stored.{transition_of}
use Rattle.vc_aut.specs.declared.transition.Transition.{Transition as Stored}
use Rattle.vc_model.specs.Automata.{Transition}
use Rattle.vc_model.specs.WeightSet.{WeightSet}
use Rattle.vc_model.specs.Words.{Word}

-- a transition with a weight that has a text and a label of so many tapes
pub record IsEntry {V : Type 0} (R : WeightSet V) (tapes : ℕ) (t : Transition V) : Type 0 where
  pub parts : length t.label ≡ tapes
  pub weight : IsTrue (R.in_range t.weight)

-- the transitions that lent ones stand for
abbrev pub lent : {L S B V : Type 0} → (B → Word) → List (Bor (Stored L S B V)) → List (Transition V)
lent parts entries = map (λ b. transition_of parts b.now) entries
