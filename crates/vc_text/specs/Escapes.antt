-- Texts with backslashes in them, and texts between two bytes.
use Rattle.std.specs.Prelude.{ℕ, ◌-◌, List, [], ◌∷◌, length, take, drop, if◌then◌else◌, ◌==◌}

-- the bytes of a text: one with a backslash before it stands for itself
abbrev pub unescaped : List ℕ → List ℕ
unescaped [] = []
unescaped (x ∷ []) = x ∷ []
unescaped (x ∷ y ∷ s) = if x == 92 then y ∷ unescaped s else x ∷ unescaped (y ∷ s)

-- what stands between the first and the last byte of a text
abbrev pub inside : List ℕ → List ℕ
inside text = take (length text - 2) (drop 1 text)
