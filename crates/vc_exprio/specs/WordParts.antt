-- How the parts of a word are read, from left to right.
use Rattle.std.specs.Prelude.{◌≡◌, ℕ, ◌-◌, length, take, ◌==◌, ◌&&◌, Bool, false, drop, List, [], ◌∷◌, ◌++◌, map, Option, Some, None, if◌then◌else◌}
use Rattle.std.specs.Borrow.{Bor}
use Rattle.vc_model.specs.Words.{Word, Tape}
use Rattle.vc_text.specs.Blanks.{after_blanks}
use Rattle.vc_text.specs.Escapes.{unescaped}
use Rattle.vc_text.specs.Letters.{is_plain, is_escaped}
use Rattle.vc_exprio.specs.Words.{SpellsWord}
use Rattle.vc_exprio.specs.declared.parts.Part.{Part}

-- the letters that a text begins with
abbrev pub front_letters : List ℕ → Tape
front_letters [] = []
front_letters (x ∷ []) = if is_plain x then x ∷ [] else []
front_letters (x ∷ y ∷ s) = if is_plain x then x ∷ front_letters (y ∷ s) else (if x == 92 && is_escaped y then y ∷ front_letters s else [])

-- the text behind them
abbrev pub after_letters : List ℕ → List ℕ
after_letters [] = []
after_letters (x ∷ []) = if is_plain x then [] else x ∷ []
after_letters (x ∷ y ∷ s) = if is_plain x then after_letters (y ∷ s) else (if x == 92 && is_escaped y then after_letters s else x ∷ y ∷ s)

-- the text of the letters in front of this rest of a text
abbrev pub text_before : List ℕ → List ℕ → List ℕ
text_before rest text = take (length text - length rest) text

-- a part: the text of its letters, and the text behind the part and the blanks that follow
pub record Found : Type 0 where
  pub letters : List ℕ
  pub after : List ℕ

-- letters up to a single quote, which closes them
abbrev pub closed : List ℕ → List ℕ → Option Found
closed text [] = None
closed text (x ∷ s) = if x == 39 then Some (record { letters = text_before (x ∷ s) text; after = after_blanks s }) else None

-- one or more letters
abbrev pub run : List ℕ → Tape → Option Found
run text [] = None
run text (x ∷ a) = Some (record { letters = text_before (after_letters text) text; after = after_blanks (after_letters text) })

abbrev pub begins_e : List ℕ → Bool
begins_e [] = false
begins_e (x ∷ s) = x == 101

-- the part that a text begins with, where no blank stands before it
abbrev pub part_in : List ℕ → Option Found
part_in [] = None
part_in (x ∷ s) =
    if x == 39 then closed s (after_letters s)
    else (if x == 92 && begins_e s then Some (record { letters = []; after = after_blanks (drop 1 s) })
    else run (x ∷ s) (front_letters (x ∷ s)))

abbrev pub part_at : List ℕ → Option Found
part_at text = part_in (after_blanks text)

-- the letters of each part
abbrev pub tapes_of : List (Bor (List ℕ)) → Word
tapes_of parts = map (λ p. unescaped p.now) parts

abbrev pub found : Part → Found
found p = record { letters = p.letters.now; after = p.after.now }

-- what is left of a text spells the tapes of a word behind these
pub record LeavesRest (text : List ℕ) (tapes : Word) (rest : List ℕ) : Type 0 where
  pub sound : (w : Word) → SpellsWord rest w → SpellsWord text (tapes ++ w)
  pub complete : (w : Word) → SpellsWord text w → (v : Word) × (w ≡ tapes ++ v) × SpellsWord rest v
