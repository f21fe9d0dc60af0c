-- Empty labels.
use Rattle.std.specs.Prelude.{IsTrue}
use Rattle.vc_model.specs.Automata.{Automaton, Transition}
use Rattle.vc_model.specs.Lists.{In}
use Rattle.vc_model.specs.Words.{is_empty}

-- some transition has a label that is empty on all tapes
pub record HasEmptyLabel {V : Type 0} (A : Automaton V) : Type 0 where
  pub transition : Transition V
  pub member : In transition A.transitions
  pub empty : IsTrue (is_empty transition.label)
