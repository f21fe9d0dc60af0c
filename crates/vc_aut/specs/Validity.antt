-- Which automata are over some sets of labels, with weights that values stand for.
use Rattle.std.specs.Prelude.{◌≡◌, ◌≢◌, ℕ, ◌<◌, ◌≤◌, ◌^◌, IsTrue, List, All, length}
use Rattle.vc_label.specs.Sets.{IsOverSets}
use Rattle.vc_label.specs.declared.tape_set.TapeSet.{TapeSet}
use Rattle.vc_model.specs.Automata.{Automaton, Transition}
use Rattle.vc_model.specs.WeightSet.{WeightSet, InRange}
use Rattle.vc_aut.specs.Order.{AreInOrder}
use Rattle.vc_aut.specs.Labelled.{Labelled}

-- a transition between two of n states, whose label is over the sets and whose weight is in range
pub record IsMove {V : Type 0} (R : WeightSet V) (sets : List TapeSet) (n : ℕ) (t : Transition V) : Type 0 where
  pub from : t.from < n
  pub to : t.to < n
  pub label : IsOverSets sets t.label
  pub weight : IsTrue (R.in_range t.weight)

-- each state has an initial and a final weight in range, and the transitions are moves in strict order
pub record IsDrawn {V : Type 0} (R : WeightSet V) (sets : List TapeSet) (a : Automaton V) : Type 0 where
  pub initial : length a.initial ≡ a.states
  pub final : length a.final ≡ a.states
  pub initial_in : InRange R a.initial
  pub final_in : InRange R a.final
  pub moves : All (IsMove R sets a.states) a.transitions
  pub order : AreInOrder a.transitions

-- all that is true of each automaton of the code: besides, the states have numbers of 32 bits, there are not too many of them nor of the transitions, and no transition has the weight zero
pub record IsLabelled {V : Type 0} (R : WeightSet V) (a : Labelled V) : Type 0 where
  pub drawn : IsDrawn R a.sets a.automaton
  pub states : a.automaton.states < 2 ^ 32
  pub few : a.automaton.states ≤ 1000000
  pub few_transitions : length a.automaton.transitions ≤ 4000000
  pub weight : All (λ t. t.weight ≢ R.zero) a.automaton.transitions
