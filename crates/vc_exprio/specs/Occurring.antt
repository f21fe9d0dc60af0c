-- Which labels and classes of a text are labels of a context.
use Rattle.std.specs.Prelude.{◌≡◌, ◌⊎◌, ℕ, true, List, [], ◌∷◌, length, map, ⊤}
use Rattle.vc_label.specs.Sets.{IsOverSets}
use Rattle.vc_label.specs.declared.tape_set.TapeSet.{TapeSet}
use Rattle.vc_lex.specs.Labels.{IsClassOver}
use Rattle.vc_lex.specs.Marks.{Mark}
use Rattle.vc_lex.specs.Parts.{tape_of}
use Rattle.vc_lex.specs.declared.token.TokenKind.TheVariants.{One}
use Rattle.vc_model.specs.Words.{Word, is_empty}
use Rattle.vc_text.specs.Classes.{class_letters}
use Rattle.vc_text.specs.Escapes.{inside}
use Rattle.vc_exprio.specs.Meaning.{Occurrence, parts, letters, place_of}

-- `\e` that stands alone
abbrev pub IsOneAlone : Mark → List Mark → Type 0
IsOneAlone m [] = m.kind ≡ One
IsOneAlone m (n ∷ ms) = ⊥

-- a word without letters that has as many parts as there are tapes
abbrev pub IsEmptyOver : List TapeSet → Word → Type 0
IsEmptyOver sets w = (is_empty w ≡ true) × (length w ≡ length sets)

-- a label of the context: over the sets, or empty with as many parts as there are tapes, or `\e` alone; a class over one tape, with each letter that stands alone in it in the alphabet
abbrev pub IsOccurrenceOver : List TapeSet → Occurrence → Type 0
IsOccurrenceOver sets (parts m ms) = IsOverSets sets (map tape_of (m ∷ ms)) ⊎ (IsEmptyOver sets (map tape_of (m ∷ ms)) ⊎ IsOneAlone m ms)
IsOccurrenceOver sets (letters m) = IsClassOver sets (inside m.text)

-- each of them is a label of the context
abbrev pub AreOccurrencesOver : List TapeSet → List Occurrence → Type 0
AreOccurrencesOver sets [] = ⊤
AreOccurrencesOver sets (o ∷ os) = IsOccurrenceOver sets o × AreOccurrencesOver sets os

-- the first of them that is no label of the context begins at this place
abbrev pub IsFirstOutside : List TapeSet → List Occurrence → ℕ → Type 0
IsFirstOutside sets [] at = ⊥
IsFirstOutside sets (o ∷ os) at = ((IsOccurrenceOver sets o → ⊥) × (at ≡ place_of o)) ⊎ (IsOccurrenceOver sets o × IsFirstOutside sets os at)

-- the letters of a class, ascending; none where there is not one tape
abbrev pub letters_over : List TapeSet → Mark → List ℕ
letters_over [] m = []
letters_over (s ∷ []) m = class_letters s.alphabet (inside m.text)
letters_over (s ∷ t ∷ sets) m = []
