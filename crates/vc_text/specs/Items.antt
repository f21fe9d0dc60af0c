-- The texts of items.
use Rattle.std.specs.Prelude.{◌≡◌, ℕ, ◌≤◌, List, [], ◌∷◌, ◌++◌}
use Rattle.vc_text.specs.Classes.{ClassItem, single, range}
use Rattle.vc_text.specs.Letters.{SpellsLetter}

-- an item is a letter, or two letters with `-` between them, the first not above the last
abbrev pub SpellsItem : List ℕ → ClassItem → Type 0
SpellsItem text (single x) = SpellsLetter text x
SpellsItem text (range x y) = (first last : List ℕ) × (text ≡ first ++ 45 ∷ last) × SpellsLetter first x × SpellsLetter last y × (x ≤ y)

-- any number of items, one after another
abbrev pub SpellsItems : List ℕ → List ClassItem → Type 0
SpellsItems text [] = text ≡ []
SpellsItems text (i ∷ items) = (item rest : List ℕ) × (text ≡ item ++ rest) × SpellsItem item i × SpellsItems rest items
