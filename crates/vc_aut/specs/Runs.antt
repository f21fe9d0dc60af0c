-- Neighbours of equal triples, which are added up.
use Rattle.std.specs.Prelude.{◌≡◌, ◌<◌, ◌≤◌, List, [], ◌∷◌, length, Result, Ok, Err, if◌then◌else◌}
use Rattle.std.specs.Ordering.{is_eq}
use Rattle.vc_model.specs.Automata.{Transition}
use Rattle.vc_model.specs.WeightSet.{WeightSet}
use Rattle.vc_ring.specs.Steps.{outcome}
use Rattle.vc_ring.specs.declared.faults.MakeFault.{MakeFault}
use Rattle.vc_ring.specs.declared.faults.MakeFault.TheVariants.{Overflow as Unfit, Limit as PastLimit, Memory}
use Rattle.vc_ring.specs.declared.faults.Measure.TheVariants.{Transitions}
use Rattle.vc_ring.specs.declared.faults.Overflow.{Overflow}
use Rattle.vc_ring.specs.declared.faults.Overflow.TheVariants.{Add}
use Rattle.vc_aut.specs.Order.{triple_order}

-- t with the weight of u added to its own
abbrev pub with_weight_of : {V : Type 0} → WeightSet V → Transition V → Transition V → Transition V
with_weight_of R t u = record t { weight = R.plus t.weight u.weight }

-- t and those after it, of which each that has the triple of the one before it is added to that one
abbrev pub runs_from : {V : Type 0} → WeightSet V → Transition V → List (Transition V) → List (Transition V)
runs_from R t [] = t ∷ []
runs_from R t (u ∷ us) = if is_eq (triple_order u t) then runs_from R (with_weight_of R t u) us else t ∷ runs_from R u us

abbrev pub runs : {V : Type 0} → WeightSet V → List (Transition V) → List (Transition V)
runs R [] = []
runs R (t ∷ ts) = runs_from R t ts

-- the additions that this takes
abbrev pub run_additions_from : {V : Type 0} → WeightSet V → Transition V → List (Transition V) → List (Overflow V)
run_additions_from R t [] = []
run_additions_from R t (u ∷ us) = if is_eq (triple_order u t) then Add t.weight u.weight ∷ run_additions_from R (with_weight_of R t u) us else run_additions_from R u us

abbrev pub run_additions : {V : Type 0} → WeightSet V → List (Transition V) → List (Overflow V)
run_additions R [] = []
run_additions R (t ∷ ts) = run_additions_from R t ts

-- Ok where all additions fit and at most 4,000,000 triples are left, and else one of the causes; want of memory is free
abbrev pub IsRunAnswer : {V T : Type 0} → WeightSet V → List (Transition V) → Result T (MakeFault V) → Type 0
IsRunAnswer R ts (Ok v) = (outcome R (run_additions R ts) (tt {0}) ≡ Ok (tt {0})) × (length (runs R ts) ≤ 4000000)
IsRunAnswer R ts (Err (Unfit o)) = outcome R (run_additions R ts) (tt {0}) ≡ Err o
IsRunAnswer R ts (Err (PastLimit l)) = (l ≡ record { what = Transitions; most = 4000000 }) × (4000000 < length (runs R ts))
IsRunAnswer R ts (Err (Memory e)) = Unit {0}
