-- Sets of names, and what the reader knows of the numbers among them.
use Rattle.std.specs.Prelude.{◌≡◌, ℕ, ◌+◌, Bool, true, false, slice_index_or, List, [], ◌∷◌, map, ⊤}
use Rattle.std.specs.Borrow.{Bor}
use Rattle.std.specs.HashSet.{HashSet}
use Rattle.std.specs.List.{list_any}
use Rattle.std.specs.Str.{bytes_eq}
use Rattle.vc_lines.specs.Names.{is_number, value_of}

-- the names that a set has, in its order
abbrev pub names_seen : {S : Type 0} → HashSet (Bor (List ℕ)) S → List (List ℕ)
names_seen set = map (λ b. b.now) set.keys

-- each name is the number of its place, where the first one has the place n
abbrev pub AreNumbers : ℕ → List (List ℕ) → Type 0
AreNumbers n [] = ⊤
AreNumbers n (a ∷ names) = (value_of a ≡ n) × AreNumbers (n + 1) names

-- a number is among the names where the place of its value is marked
abbrev pub AreMarked : List Bool → List (List ℕ) → Type 0
AreMarked marks names = (a : List ℕ) → is_number a ≡ true → slice_index_or marks (value_of a) false ≡ true → list_any (bytes_eq a) names ≡ true
