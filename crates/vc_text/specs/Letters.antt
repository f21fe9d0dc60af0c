-- Letters of texts, plain and escaped.
use Rattle.std.specs.Prelude.{◌≡◌, ◌⊎◌, ℕ, ◌+◌, Bool, true, ◌||◌, ◌&&◌, not, nat_le, ◌==◌, List, [], ◌∷◌, Option, Some, None, if◌then◌else◌}
use Rattle.vc_text.specs.declared.letters.LetterAt.{LetterAt}

-- a plain letter: a letter of the English alphabet, a digit or `_`
unfoldable pub is_plain : ℕ → Bool
is_plain x = (nat_le 97 x && nat_le x 122) || (nat_le 65 x && nat_le x 90) || (nat_le 48 x && nat_le x 57) || x == 95

-- any other byte from 0x21 to 0x7E: it is written as a letter by a backslash before it
unfoldable pub is_escaped : ℕ → Bool
is_escaped x = nat_le 0x21 x && nat_le x 0x7e && not (is_plain x)

-- the text is this letter: a plain letter itself, another one with a backslash before it
abbrev pub SpellsLetter : List ℕ → ℕ → Type 0
SpellsLetter text x = ((is_plain x ≡ true) × (text ≡ x ∷ [])) ⊎ ((is_escaped x ≡ true) × (text ≡ 92 ∷ x ∷ []))

-- the text of a letter, with a backslash before it where it is not plain
abbrev pub letter_text : ℕ → List ℕ
letter_text x = if is_plain x then x ∷ [] else 92 ∷ x ∷ []

-- the letter that a text begins with, where its first byte stands at this place
abbrev pub letter_in : ℕ → List ℕ → Option LetterAt
letter_in at [] = None
letter_in at (x ∷ []) = if is_plain x then Some (record { letter = x; after = at + 1 }) else None
letter_in at (x ∷ y ∷ s) =
    if is_plain x then Some (record { letter = x; after = at + 1 })
    else (if x == 92 && is_escaped y then Some (record { letter = y; after = at + 2 }) else None)
