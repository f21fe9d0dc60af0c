-- How many transitions there are.
use Rattle.std.specs.Prelude.{ℕ, ◌+◌, List, [], ◌∷◌, length}
use Rattle.vc_standard.specs.Structures.{Position}

-- those of all the states together
abbrev pub moves_in : {V : Type 0} → List (Position V) → ℕ
moves_in [] = 0
moves_in (p ∷ ps) = length p.moves + moves_in ps
