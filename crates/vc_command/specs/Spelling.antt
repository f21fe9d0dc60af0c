-- How the parts of a command line are spelled in words.
use Rattle.std.specs.Prelude.{◌≡◌, ◌⊎◌, Bool, false, List, [], ◌∷◌, ◌++◌, codes}
use Rattle.vc_command.specs.Lines.{Text, Name, limit, order, Line, is_dash, begins_with_dash, plain_line, with_plain, with_value}

-- a plain word, or an option with its value
pub data Part : Type 0 where
  plain_word : Text → Part
  given : Name → Text → Part

-- the word of an option, without its value
abbrev pub option_word : Name → Text
option_word limit = codes "--limit"
option_word order = codes "--order"

-- two or more characters of which the first is a dash
abbrev pub is_dashed : Text → Bool
is_dashed (x ∷ y ∷ text) = is_dash x
is_dashed text = false

-- an option stands as `--NAME=V`, or as `--NAME V` where V does not begin with a dash
abbrev pub SpellsPart : Part → List Text → Type 0
SpellsPart (plain_word word) words = (words ≡ word ∷ []) × (is_dashed word ≡ false)
SpellsPart (given name value) words =
    (words ≡ (option_word name ++ 61 ∷ value) ∷ [])
    ⊎ ((words ≡ option_word name ∷ value ∷ []) × (begins_with_dash value ≡ false))

-- the parts stand one behind another, and then nothing, or `--` and any words
abbrev pub SpellsParts : List Part → List Text → List Text → Type 0
SpellsParts [] back words = ((words ≡ []) × (back ≡ [])) ⊎ (words ≡ codes "--" ∷ back)
SpellsParts (part ∷ parts) back words =
    (own : List Text) × (rest : List Text) × (words ≡ own ++ rest) × SpellsPart part own × SpellsParts parts back rest

-- the parts and the words behind `--`, which are plain, as a line
abbrev pub with_part : Part → Line → Line
with_part (plain_word word) line = with_plain word line
with_part (given name value) line = with_value name value line

abbrev pub line_of_parts : List Part → List Text → Line
line_of_parts [] back = plain_line back
line_of_parts (part ∷ parts) back = with_part part (line_of_parts parts back)

-- the words spell the line
pub record SpellsLine (line : Line) (words : List Text) : Type 0 where
  pub parts : List Part
  pub back : List Text
  pub spells : SpellsParts parts back words
  pub is : line ≡ line_of_parts parts back
