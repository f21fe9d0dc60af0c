-- Labels over label sets.
use Rattle.std.specs.Prelude.{◌≡◌, ℕ, true, List, [], ◌∷◌, map, if◌then◌else◌, MatchBool, Option, None, Some}
use Rattle.vc_label.specs.Sets.{IsOverSets}
use Rattle.vc_label.specs.declared.tape_set.TapeSet.{TapeSet}
use Rattle.vc_model.specs.Words.{Word}
use Rattle.vc_text.specs.Classes.{class_items, class_letters, has_singles}
use Rattle.vc_lex.specs.Marks.{Mark}
use Rattle.vc_lex.specs.Parts.{class_body, is_class, parts_word}

-- a class is a label of one tape, where each letter that stands alone in it is in the alphabet
abbrev pub IsClassOver : List TapeSet → List ℕ → Type 0
IsClassOver [] body = ⊥
IsClassOver (s ∷ []) body = has_singles s.alphabet (class_items body) ≡ true
IsClassOver (s ∷ t ∷ sets) body = ⊥

-- the label is in the sets
abbrev pub IsLabelOver : List TapeSet → List Mark → Type 0
IsLabelOver sets ms = MatchBool (is_class ms) (IsClassOver sets (class_body ms)) (IsOverSets sets (parts_word ms))

-- a word for each letter of a class
abbrev pub class_words : List TapeSet → List ℕ → List Word
class_words [] body = []
class_words (s ∷ sets) body = map (λ x. (x ∷ []) ∷ []) (class_letters s.alphabet body)

-- the words of a label: those of the letters of a class, or one
abbrev pub label_words : List TapeSet → List Mark → List Word
label_words sets ms = if is_class ms then class_words sets (class_body ms) else parts_word ms ∷ []

-- the word, where it is over the sets, and none where it is not
abbrev pub IsLabelAnswer : List TapeSet → Word → Option Word → Type 0
IsLabelAnswer sets w None = IsOverSets sets w → ⊥
IsLabelAnswer sets w (Some v) = (v ≡ w) × IsOverSets sets w
