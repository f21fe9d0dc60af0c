-- What the reader of words answers.
use Rattle.std.specs.Prelude.{◌≡◌, ℕ, Bool, true, false, List, Result, Ok, Err, Option, Some, None, All, ⊤}
use Rattle.std.specs.Borrow.{Bor}
use Rattle.vc_exprio.specs.WordParts.{tapes_of}
use Rattle.vc_label.specs.Alphabets.{has_letter}
use Rattle.vc_label.specs.Growth.{grown}
use Rattle.vc_label.specs.declared.alphabet.Alphabet.{Alphabet}
use Rattle.vc_label.specs.declared.tape_set.TapeSet.{TapeSet}
use Rattle.vc_model.specs.Words.{Word, Tape}
use Rattle.vc_exprio.specs.Words.{SpellsWord, IsOverAlphabets}
use Rattle.vc_exprio.specs.declared.words.WordFault.{WordFault}
use Rattle.vc_exprio.specs.declared.words.WordFault.TheVariants.{NotAWord, NotALabel, Memory}

-- the word that the text spells, if it is over the label set; else why there is none
abbrev pub IsWordOf : List TapeSet → List ℕ → Result Word WordFault → Type 0
IsWordOf sets text (Ok w) = SpellsWord text w × IsOverAlphabets sets w
IsWordOf sets text (Err NotAWord) = (w : Word) → SpellsWord text w → ⊥
IsWordOf sets text (Err NotALabel) = (w : Word) × SpellsWord text w × (IsOverAlphabets sets w → ⊥)
IsWordOf sets text (Err (Memory fault)) = ⊤

-- the parts of the text, each by the text that begins with its letters; none where the text spells no word
abbrev pub AreParts : List ℕ → Option (List (Bor (List ℕ))) → Type 0
AreParts text None = (w : Word) → SpellsWord text w → ⊥
AreParts text (Some parts) = SpellsWord text (tapes_of parts)

-- the letters were appended to the tape, and are in the alphabet; or one of them is not
abbrev pub IsPushed : Alphabet → Word → ℕ → Tape → Bool → Word → Type 0
IsPushed alphabet old tape a true new = (new ≡ grown old tape a) × All (λ x. has_letter alphabet x ≡ true) a
IsPushed alphabet old tape a false new = All (λ x. has_letter alphabet x ≡ true) a → ⊥

-- the word, where it is over the label set
abbrev pub IsWritten : List TapeSet → Word → Option Word → Type 0
IsWritten sets w None = IsOverAlphabets sets w → ⊥
IsWritten sets w (Some v) = (v ≡ w) × IsOverAlphabets sets w
