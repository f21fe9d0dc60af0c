-- What pairs of states lead to where one of both moves and the other stays.
use Rattle.std.specs.Prelude.{◌≡◌, ◌<◌, ◌≤◌, ◌+◌, ◌⊎◌, ℕ, List, [], ◌∷◌, drop, length, map}
use Rattle.std.specs.Ordering.{match_ordering}
use Rattle.std.specs.declared.cmp.Ordering.{Ordering}
use Rattle.std.specs.declared.cmp.Ordering.TheVariants.{Greater, Less}
use Rattle.vc_aut.specs.Order.{moves_from}
use Rattle.vc_model.specs.Automata.{Automaton, Transition}
use Rattle.vc_model.specs.Items.{Item, item_key}
use Rattle.vc_model.specs.Lists.{In}
use Rattle.vc_model.specs.WeightSet.{WeightSet}
use Rattle.vc_ring.specs.declared.faults.Overflow.{Overflow}
use Rattle.vc_ring.specs.declared.faults.Overflow.TheVariants.{Add}
use Rattle.vc_search.specs.Courses.{Course, led_all}
use Rattle.vc_join.specs.Orders.{item_order}
use Rattle.vc_join.specs.Pairs.{Pair, IsEndStep, same_states}

-- the first state moves, and the second stays in q
abbrev pub left_item : {V : Type 0} → ℕ → Transition V → Item V Pair
left_item q t = record { label = t.label; weight = t.weight; to = (t.to, q) }

-- the second state moves, and the first stays in p
abbrev pub right_item : {V : Type 0} → ℕ → Transition V → Item V Pair
right_item p u = record { label = u.label; weight = u.weight; to = (p, u.to) }

-- whether the next move is one of the first state or of the second, or one of each that lead to one pair by one label; past the end of one list it is one of the other
abbrev pub first_order : {V : Type 0} → Pair → List (Transition V) → List (Transition V) → Ordering
first_order k [] us = Greater
first_order k (t ∷ ts) [] = Less
first_order k (t ∷ ts) (u ∷ us) = item_order (left_item k.1 t) (right_item k.0 u)

-- the items with e in its place in the order; where one of the same label and pair stands, its weight becomes old plus new
abbrev pub insert_item : {V : Type 0} → WeightSet V → List (Item V Pair) → Item V Pair → List (Item V Pair)
insert_item R [] e = e ∷ []
insert_item R (d ∷ ds) e = match_ordering (item_order e d) (e ∷ d ∷ ds) (record d { weight = R.plus d.weight e.weight } ∷ ds) (d ∷ insert_item R ds e)

-- the items with the others inserted one after the other
abbrev pub insert_items : {V : Type 0} → WeightSet V → List (Item V Pair) → List (Item V Pair) → List (Item V Pair)
insert_items R ds [] = ds
insert_items R ds (e ∷ es) = insert_items R (insert_item R ds e) es

-- moves of the first state of a pair, and those of the second added to them
abbrev pub mixed_items : {V : Type 0} → WeightSet V → Pair → List (Transition V) → List (Transition V) → List (Item V Pair)
mixed_items R k ts us = insert_items R (map (left_item k.1) ts) (map (right_item k.0) us)

-- what a pair leads to in a shuffle
abbrev pub shuffle_items : {V : Type 0} → WeightSet V → Automaton V → Automaton V → Pair → List (Item V Pair)
shuffle_items R A B k = mixed_items R k (moves_from A.transitions k.0) (moves_from B.transitions k.1)

-- the sum of the weights of a move of each state of a pair, where they lead to one pair by one label
pub record IsMixing {V : Type 0} (k : Pair) (ts us : List (Transition V)) (o : Overflow V) : Type 0 where
  pub left : Transition V
  pub right : Transition V
  pub left_in : In left ts
  pub right_in : In right us
  pub same : item_key (left_item k.1 left) ≡ item_key (right_item k.0 right)
  pub is : o ≡ Add left.weight right.weight

-- a step of a pair in a shuffle: the product of both initial or of both final weights, or the sum of a move of the first and one of the second
abbrev pub IsShuffleStep : {V : Type 0} → WeightSet V → Automaton V → Automaton V → Pair → Overflow V → Type 0
IsShuffleStep R A B k o = IsEndStep R A B k o ⊎ IsMixing k (moves_from A.transitions k.0) (moves_from B.transitions k.1) o

-- from c, so many moves of each were led on by: what is left makes of d what all make of c
pub record IsNextMixed {V : Type 0} (R : WeightSet V) (k : Pair) (ts us : List (Transition V)) (from : ℕ) (c : Course V Pair) (taken : ℕ × ℕ) (d : Course V Pair) : Type 0 where
  pub rest : led_all same_states from d (mixed_items R k (drop taken.0 ts) (drop taken.1 us)) ≡ led_all same_states from c (mixed_items R k ts us)
  pub left : taken.0 ≤ length ts
  pub right : taken.1 ≤ length us
  pub some : 0 < taken.0 + taken.1
  pub sets : d.sets ≡ c.sets
  pub within : from < length d.members
