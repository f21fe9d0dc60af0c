-- Lists that are cut at some of their members.
use Rattle.std.specs.Prelude.{Bool, List, [], ◌∷◌, if◌then◌else◌}

-- the pieces with x in front of the first of them
abbrev pub onto_first : {X : Type 0} → X → List (List X) → List (List X)
onto_first x [] = (x ∷ []) ∷ []
onto_first x (piece ∷ rest) = (x ∷ piece) ∷ rest

-- the pieces between the members that are marks: one more than there are marks
abbrev pub pieces : {X : Type 0} → (X → Bool) → List X → List (List X)
pieces is_mark [] = [] ∷ []
pieces is_mark (x ∷ xs) = if is_mark x then [] ∷ pieces is_mark xs else onto_first x (pieces is_mark xs)
