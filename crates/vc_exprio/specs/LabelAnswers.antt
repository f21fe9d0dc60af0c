-- What is found of the labels of a text.
use Rattle.std.specs.Prelude.{◌≡◌, ℕ, Bool, true, false, List, ◌∷◌, Option, Some, None}
use Rattle.vc_label.specs.Alphabets.{letters_of}
use Rattle.vc_label.specs.declared.alphabet.Alphabet.{Alphabet}
use Rattle.vc_label.specs.declared.tape_set.TapeSet.{TapeSet}
use Rattle.vc_lex.specs.Labels.{IsClassOver}
use Rattle.vc_lex.specs.Marks.{Mark}
use Rattle.vc_model.specs.Words.{Word, is_empty}
use Rattle.vc_text.specs.Escapes.{inside}
use Rattle.vc_exprio.specs.Meaning.{Occurrence}
use Rattle.vc_exprio.specs.Making.{occurrences_in}
use Rattle.vc_exprio.specs.Occurring.{IsOccurrenceOver, AreOccurrencesOver, IsFirstOutside, letters_over}
use Rattle.vc_exprio.specs.Steps.{Op}

-- whether it is a label of the context
abbrev pub IsToldOver : List TapeSet → Occurrence → Bool → Type 0
IsToldOver sets o true = IsOccurrenceOver sets o
IsToldOver sets o false = IsOccurrenceOver sets o → ⊥

-- a label with this word; none for one without letters
abbrev pub IsLabelMade : {B : Type 0} → (B → Word) → Word → Option B → Type 0
IsLabelMade word_of w None = is_empty w ≡ true
IsLabelMade word_of w (Some l) = word_of l ≡ w

-- the letters of a class, where it is a label of the context
abbrev pub IsClassFound : List TapeSet → Mark → Option Alphabet → Type 0
IsClassFound sets m None = IsClassOver sets (inside m.text) → ⊥
IsClassFound sets m (Some letters) = IsClassOver sets (inside m.text) × (letters_of letters ≡ letters_over sets m)

-- the place of the first of them that is no label of the context; none where each is one
abbrev pub IsOutsideAt : List TapeSet → List Occurrence → Option ℕ → Type 0
IsOutsideAt sets os None = AreOccurrencesOver sets os
IsOutsideAt sets os (Some at) = IsFirstOutside sets os at

-- the place of the label that a step is, where it is no label of the context; none where what is first outside among the steps after it is first among all
abbrev pub IsStepOutside : List TapeSet → Op → List Op → Option ℕ → Type 0
IsStepOutside sets op ops None = (place : Option ℕ) → IsOutsideAt sets (occurrences_in ops) place → IsOutsideAt sets (occurrences_in (op ∷ ops)) place
IsStepOutside sets op ops (Some at) = IsFirstOutside sets (occurrences_in (op ∷ ops)) at
