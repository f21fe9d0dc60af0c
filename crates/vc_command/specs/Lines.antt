-- How words divide into plain words and options.
use Rattle.std.specs.Prelude.{◌==◌, ℕ, Bool, false, List, [], ◌∷◌, Option, Some, None, option_map, codes, if◌then◌else◌}
use Rattle.std.specs.List.{list_any, before_first, after_first}
use Rattle.std.specs.Str.{bytes_eq}

abbrev pub Text : Type 0
Text = List ℕ

-- the options
pub data Name : Type 0 where
  limit : Name
  order : Name

abbrev pub name_of : Text → Option Name
name_of text =
    if bytes_eq text (codes "limit") then Some limit
    else (if bytes_eq text (codes "order") then Some order else None)

-- what a word in front of `--` is: a plain word; an option, whose value is the next word; an option with its value; or
-- none of these
pub data Word : Type 0 where
  plain : Word
  option : Name → Word
  valued : Name → Text → Word
  other : Word

abbrev pub is_dash : ℕ → Bool
is_dash x = x == 45

abbrev pub is_equals : ℕ → Bool
is_equals x = x == 61

-- the option of this name, with what stands behind the first `=` of the text
abbrev pub with_text : Option Name → Text → Word
with_text None text = other
with_text (Some name) text = if list_any is_equals text then valued name (after_first is_equals text) else option name

-- `--NAME` or `--NAME=V`, where the text is what stands behind the two dashes
abbrev pub option_of : Text → Word
option_of text = with_text (name_of (before_first is_equals text)) text

-- a word of two or more characters that begins with a dash is an option or nothing; all others are plain
abbrev pub word_of : Text → Word
word_of (x ∷ y ∷ text) = if is_dash x then (if is_dash y then option_of text else other) else plain
word_of text = plain

abbrev pub begins_with_dash : Text → Bool
begins_with_dash [] = false
begins_with_dash (x ∷ text) = is_dash x

-- the word `--`
abbrev pub is_end : Text → Bool
is_end word = bytes_eq word (codes "--")

-- the plain words, and the values that are given for each option, in their order
pub record Line : Type 0 where
  pub plain : List Text
  pub limits : List Text
  pub orders : List Text

abbrev pub plain_line : List Text → Line
plain_line words = record { plain = words; limits = []; orders = [] }

abbrev pub with_plain : Text → Line → Line
with_plain word line = record line { plain = word ∷ line.plain }

abbrev pub with_value : Name → Text → Line → Line
with_value limit value line = record line { limits = value ∷ line.limits }
with_value order value line = record line { orders = value ∷ line.orders }

-- what a word adds to the line of the words behind it; `waits` is their line where the word is an option without a value
abbrev pub with_word : Word → Text → Option Line → (Name → Option Line) → Option Line
with_word plain word rest waits = option_map (with_plain word) rest
with_word (option name) word rest waits = waits name
with_word (valued name value) word rest waits = option_map (with_value name value) rest
with_word other word rest waits = None

-- the line of words, where an option that was met may wait for its value: a value of its own does not begin with a dash.
-- Behind `--` each word is plain
unfoldable pub line_from : Option Name → List Text → Option Line
line_from None [] = Some (plain_line [])
line_from (Some name) [] = None
line_from (Some name) (value ∷ words) =
    if begins_with_dash value then None else option_map (with_value name value) (line_from None words)
line_from None (word ∷ words) =
    if is_end word then Some (plain_line words)
    else with_word (word_of word) word (line_from None words) (λ name. line_from (Some name) words)

abbrev pub line_of : List Text → Option Line
line_of words = line_from None words
