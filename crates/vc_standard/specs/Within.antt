-- What is true of each transition of a structure.
use Rattle.std.specs.Prelude.{ℕ, ◌<◌, ◌≤◌, List, [], ◌∷◌}
use Rattle.vc_model.specs.Words.{Word}
use Rattle.vc_standard.specs.Structures.{Moves, Position, Standard, size_of}

-- of each of the transitions, by its label and the place that it leads to
abbrev pub Are : {V : Type 0} → (Word → ℕ → Type 0) → Moves V → Type 0
Are K [] = Unit {0}
Are K (e ∷ es) = K e.label e.to × Are K es

-- of those of each of the positions
abbrev pub AreAll : {V : Type 0} → (Word → ℕ → Type 0) → List (Position V) → Type 0
AreAll K [] = Unit {0}
AreAll K (p ∷ ps) = Are K p.moves × AreAll K ps

-- the label is such, and the place is one of n
abbrev pub IsTo : (Word → Type 0) → ℕ → Word → ℕ → Type 0
IsTo Q n a i = Q a × (i < n)

-- of each transition of the structure: the label is such, and it leads to one of the positions
abbrev pub IsWithin : {V : Type 0} → (Word → Type 0) → Standard V → Type 0
IsWithin Q A = Are (IsTo Q (size_of A)) A.start.moves × AreAll (IsTo Q (size_of A)) A.positions

-- the place is one of so many as an automaton may have states
abbrev pub IsFew : Word → ℕ → Type 0
IsFew a i = i < 1000000

-- the place is not past the place n
abbrev pub IsUpTo : ℕ → Word → ℕ → Type 0
IsUpTo n a i = i ≤ n
