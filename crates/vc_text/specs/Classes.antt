-- The letters of a class. Its body is what stands between its brackets.
use Rattle.std.specs.Prelude.{◌≡◌, ◌⊎◌, ℕ, Bool, true, false, not, ◌&&◌, ◌||◌, nat_le, List, [], ◌∷◌, filter, drop, if◌then◌else◌, ◌==◌, Option, None, Some}
use Rattle.vc_label.specs.Alphabets.{has_letter, letters_of}
use Rattle.vc_label.specs.declared.alphabet.Alphabet.{Alphabet}

-- what stands in a class: letters, and dashes that have no backslash
pub data Symbol : Type 0 where
  letter : ℕ → Symbol
  dash : Symbol

abbrev pub symbols : List ℕ → List Symbol
symbols [] = []
symbols (x ∷ []) = if x == 45 then dash ∷ [] else letter x ∷ []
symbols (x ∷ y ∷ s) = if x == 92 then letter y ∷ symbols s else (if x == 45 then dash ∷ symbols (y ∷ s) else letter x ∷ symbols (y ∷ s))

-- the text is empty, or begins with a dash that has no backslash
abbrev pub begins_no_letter : List ℕ → Type 0
begins_no_letter text = (symbols text ≡ []) ⊎ ((rest : List Symbol) × (symbols text ≡ dash ∷ rest))

-- an item of a class: a letter, or a range of letters
pub data ClassItem : Type 0 where
  single : ℕ → ClassItem
  range : ℕ → ℕ → ClassItem

abbrev pub items_of : List Symbol → List ClassItem
items_of (letter x ∷ dash ∷ letter y ∷ s) = range x y ∷ items_of s
items_of (letter x ∷ s) = single x ∷ items_of s
items_of s = []

-- the items name the letter
abbrev pub names_letter : List ClassItem → ℕ → Bool
names_letter [] x = false
names_letter (single y ∷ items) x = x == y || names_letter items x
names_letter (range a b ∷ items) x = (nat_le a x && nat_le x b) || names_letter items x

-- each letter that stands alone is in the alphabet
abbrev pub has_singles : Alphabet → List ClassItem → Bool
has_singles alphabet [] = true
has_singles alphabet (single y ∷ items) = has_letter alphabet y && has_singles alphabet items
has_singles alphabet (range a b ∷ items) = has_singles alphabet items

-- a class begins with `^` and then its items, or has its items alone
abbrev pub is_negated : List ℕ → Bool
is_negated [] = false
is_negated (x ∷ s) = x == 94

abbrev pub body_items : List ℕ → List ℕ
body_items body = if is_negated body then drop 1 body else body

abbrev pub class_items : List ℕ → List ClassItem
class_items body = items_of (symbols (body_items body))

-- a class has the letters of the alphabet that its items name, and with `^` those that they do not name
abbrev pub has_in_class : List ℕ → ℕ → Bool
has_in_class body x = if is_negated body then not (names_letter (class_items body) x) else names_letter (class_items body) x

-- the letters of a class, ascending
abbrev pub class_letters : Alphabet → List ℕ → List ℕ
class_letters alphabet body = filter (has_in_class body) (letters_of alphabet)

-- the letters of the class; none where a letter that stands alone in it is not in the alphabet
abbrev pub IsClassOf : Alphabet → List ℕ → Option Alphabet → Type 0
IsClassOf alphabet body None = has_singles alphabet (class_items body) ≡ false
IsClassOf alphabet body (Some letters) = (has_singles alphabet (class_items body) ≡ true) × (letters_of letters ≡ class_letters alphabet body)
