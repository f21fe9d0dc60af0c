-- Texts of words.
use Rattle.std.specs.Prelude.{◌≡◌, ◌≢◌, ◌⊎◌, List, [], ◌∷◌, ◌++◌, ℕ, codes, true, IsTrue, All, ⊤}
use Rattle.std.specs.List.{flat_map}
use Rattle.vc_label.specs.Alphabets.{has_letter}
use Rattle.vc_label.specs.Letters.{are_letters}
use Rattle.vc_label.specs.declared.tape_set.TapeSet.{TapeSet}
use Rattle.vc_model.specs.Words.{Word, Tape}
use Rattle.vc_text.specs.Blanks.{AreBlanks}
use Rattle.vc_text.specs.Letters.{letter_text}

-- letters, one behind another; those that are not plain have a backslash before them
abbrev pub letters_text : Tape → List ℕ
letters_text a = flat_map letter_text a

-- the text of a part has its letters, one or more, or its letters in single quotes; `\e` has none
abbrev pub IsPartText : List ℕ → Tape → Type 0
IsPartText text a = ((a ≡ []) × (text ≡ codes "\\e")) ⊎ (((a ≢ []) × (text ≡ letters_text a)) ⊎ (text ≡ 39 ∷ (letters_text a ++ 39 ∷ [])))

-- a text begins with a part, around which blanks may stand, and then has this rest
pub record BeginsPart (text : List ℕ) (a : Tape) (rest : List ℕ) : Type 0 where
  pub before : List ℕ
  pub part : List ℕ
  pub behind : List ℕ
  pub is : text ≡ before ++ (part ++ (behind ++ rest))
  pub blank_before : AreBlanks before
  pub blank_behind : AreBlanks behind
  pub spells : IsPartText part a
  pub letters : IsTrue (are_letters a)

-- a text spells a word: it has a part for each tape, one or more, with bars between them
abbrev pub SpellsWord : List ℕ → Word → Type 0
SpellsWord text [] = ⊥
SpellsWord text (a ∷ []) = BeginsPart text a []
SpellsWord text (a ∷ b ∷ w) = (rest : List ℕ) × BeginsPart text a (124 ∷ rest) × SpellsWord rest (b ∷ w)

-- the word has as many tapes as the label set, and each of its letters is in the alphabet of its tape
abbrev pub IsOverAlphabets : List TapeSet → Word → Type 0
IsOverAlphabets [] [] = ⊤
IsOverAlphabets [] (a ∷ w) = ⊥
IsOverAlphabets (s ∷ sets) [] = ⊥
IsOverAlphabets (s ∷ sets) (a ∷ w) = All (λ x. has_letter s.alphabet x ≡ true) a × IsOverAlphabets sets w

-- the canonical text of a part: `\e` where it is empty, else its letters
abbrev pub part_text : Tape → List ℕ
part_text [] = codes "\\e"
part_text (x ∷ a) = letters_text (x ∷ a)

-- the canonical text of a word: that of its first part, and then that of each further one with a bar before it
abbrev pub word_text : Word → List ℕ
word_text [] = []
word_text (a ∷ w) = part_text a ++ flat_map (λ b. 124 ∷ part_text b) w
