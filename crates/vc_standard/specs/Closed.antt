-- Positions that nothing follows.
use Rattle.std.specs.Prelude.{◌≡◌, List, [], ◌∷◌, Bool, true, ◌&&◌}
use Rattle.vc_model.specs.WeightSet.{WeightSet}
use Rattle.vc_standard.specs.Structures.{Position}

-- the final weight of each is zero
abbrev pub AreClosed : {V : Type 0} → WeightSet V → List (Position V) → Type 0
AreClosed R [] = Unit {0}
AreClosed R (p ∷ ps) = (p.final ≡ R.zero) × AreClosed R ps

-- the same as a test
abbrev pub are_closed : {V : Type 0} → WeightSet V → (V → V → Bool) → List (Position V) → Bool
are_closed R equal [] = true
are_closed R equal (p ∷ ps) = equal p.final R.zero && are_closed R equal ps
