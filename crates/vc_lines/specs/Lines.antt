-- The lines of a text.
use Rattle.std.specs.Prelude.{ℕ, Bool, List, [], ◌∷◌, map, if◌then◌else◌, ◌==◌}
use Rattle.vc_lines.specs.Pieces.{pieces}

abbrev pub is_line_feed : ℕ → Bool
is_line_feed x = x == 10

-- a line without the carriage return at its end
abbrev pub without_return : List ℕ → List ℕ
without_return [] = []
without_return (x ∷ []) = if x == 13 then [] else x ∷ []
without_return (x ∷ y ∷ s) = x ∷ without_return (y ∷ s)

-- lines that stand after another one: a last line that is empty is not counted
abbrev pub counted : List (List ℕ) → List (List ℕ)
counted [] = []
counted ([] ∷ []) = []
counted ((x ∷ s) ∷ []) = (x ∷ s) ∷ []
counted (line ∷ next ∷ lines) = line ∷ counted (next ∷ lines)

abbrev pub with_first : List (List ℕ) → List (List ℕ)
with_first [] = []
with_first (line ∷ lines) = line ∷ counted lines

-- a text is cut at its line feeds
abbrev pub lines_of : List ℕ → List (List ℕ)
lines_of text = with_first (map without_return (pieces is_line_feed text))

-- the lines of a text after another line; an empty text has none
abbrev pub more_lines : List ℕ → List (List ℕ)
more_lines [] = []
more_lines (x ∷ s) = lines_of (x ∷ s)

-- the text after a line feed, or nothing where no line is counted in it
abbrev pub without_end : List ℕ → List ℕ
without_end [] = []
without_end (x ∷ []) = if x == 13 then [] else x ∷ []
without_end (x ∷ y ∷ s) = x ∷ y ∷ s
