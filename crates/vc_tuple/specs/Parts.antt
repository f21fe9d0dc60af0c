-- The parts of a label, from one list of bytes in which a zero stands between two parts.
use Rattle.std.specs.Prelude.{ℕ, List, [], ◌∷◌, ◌==◌, if◌then◌else◌}
use Rattle.vc_model.specs.Words.{Word}

-- x before the first part
abbrev pub before_first : ℕ → Word → Word
before_first x [] = (x ∷ []) ∷ []
before_first x (a ∷ w) = (x ∷ a) ∷ w

-- the parts between the zeros
abbrev pub parts_of : List ℕ → Word
parts_of [] = [] ∷ []
parts_of (x ∷ xs) = if x == 0 then [] ∷ parts_of xs else before_first x (parts_of xs)
