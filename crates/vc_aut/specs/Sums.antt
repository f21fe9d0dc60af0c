-- Transitions that are added up: those of equal triples become one.
use Rattle.std.specs.Prelude.{List, [], ◌∷◌, Option, None, Some, if◌then◌else◌}
use Rattle.std.specs.Ordering.{match_ordering, is_eq}
use Rattle.vc_model.specs.Automata.{Transition}
use Rattle.vc_model.specs.WeightSet.{WeightSet}
use Rattle.vc_aut.specs.Order.{triple_order}

-- the transitions with t in its place in the order; where an equal triple stands, its weight becomes old plus new
abbrev pub insert_transition : {V : Type 0} → WeightSet V → List (Transition V) → Transition V → List (Transition V)
insert_transition R [] t = t ∷ []
insert_transition R (u ∷ us) t = match_ordering (triple_order t u) (t ∷ u ∷ us) (record u { weight = R.plus u.weight t.weight } ∷ us) (u ∷ insert_transition R us t)

-- the transitions with the others inserted one after the other
abbrev pub insert_all : {V : Type 0} → WeightSet V → List (Transition V) → List (Transition V) → List (Transition V)
insert_all R ts [] = ts
insert_all R ts (t ∷ added) = insert_all R (insert_transition R ts t) added

-- the weight that stands at the triple of t, none where no transition has it
abbrev pub standing : {V : Type 0} → List (Transition V) → Transition V → Option V
standing [] t = None
standing (u ∷ us) t = if is_eq (triple_order t u) then Some u.weight else standing us t
