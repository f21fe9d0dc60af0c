-- What pairs of states lead to where both move by the same label.
use Rattle.std.specs.Prelude.{◌≡◌, ◌⊎◌, List, map}
use Rattle.std.specs.List.{flat_map, filter}
use Rattle.vc_aut.specs.Order.{moves_from}
use Rattle.vc_model.specs.Automata.{Automaton, Transition}
use Rattle.vc_model.specs.Items.{Item}
use Rattle.vc_model.specs.Lists.{In}
use Rattle.vc_model.specs.WeightSet.{WeightSet}
use Rattle.vc_model.specs.Words.{same_word}
use Rattle.vc_ring.specs.declared.faults.Overflow.{Overflow}
use Rattle.vc_ring.specs.declared.faults.Overflow.TheVariants.{Mul}
use Rattle.vc_join.specs.Pairs.{Pair, IsEndStep}

-- two transitions as one of a pair
abbrev pub both_item : {V : Type 0} → WeightSet V → Transition V → Transition V → Item V Pair
both_item R t u = record { label = t.label; weight = R.times t.weight u.weight; to = (t.to, u.to) }

-- each two with equal labels as one
abbrev pub both_items : {V : Type 0} → WeightSet V → List (Transition V) → List (Transition V) → List (Item V Pair)
both_items R ts us = flat_map (λ t. map (both_item R t) (filter (λ u. same_word t.label u.label) us)) ts

-- what a pair leads to in a conjunction
abbrev pub conjunction_items : {V : Type 0} → WeightSet V → Automaton V → Automaton V → Pair → List (Item V Pair)
conjunction_items R A B k = both_items R (moves_from A.transitions k.0) (moves_from B.transitions k.1)

-- the product of the weights of two transitions with equal labels
pub record IsMeeting {V : Type 0} (ts us : List (Transition V)) (o : Overflow V) : Type 0 where
  pub left : Transition V
  pub right : Transition V
  pub left_in : In left ts
  pub right_in : In right us
  pub label : left.label ≡ right.label
  pub is : o ≡ Mul left.weight right.weight

-- a step of a pair in a conjunction: the product of both initial or of both final weights, or of two that meet
abbrev pub IsConjunctionStep : {V : Type 0} → WeightSet V → Automaton V → Automaton V → Pair → Overflow V → Type 0
IsConjunctionStep R A B k o = IsEndStep R A B k o ⊎ IsMeeting (moves_from A.transitions k.0) (moves_from B.transitions k.1) o
