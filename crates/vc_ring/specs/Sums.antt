-- The steps of a sum.
use Rattle.std.specs.Prelude.{List, [], ◌∷◌}
use Rattle.vc_model.specs.WeightSet.{WeightSet}
use Rattle.vc_ring.specs.declared.faults.Overflow.{Overflow}
use Rattle.vc_ring.specs.declared.faults.Overflow.TheVariants.{Add}

-- the additions of the list from left to right, onto a
abbrev pub sum_steps : {V : Type 0} → WeightSet V → V → List V → List (Overflow V)
sum_steps R a [] = []
sum_steps R a (x ∷ xs) = Add a x ∷ sum_steps R (R.plus a x) xs
