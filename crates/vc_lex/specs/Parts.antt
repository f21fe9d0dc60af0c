-- Labels, by their tokens: parts with bars between them, and classes.
use Rattle.std.specs.Prelude.{ℕ, Bool, true, false, ◌&&◌, ◌||◌, List, [], ◌∷◌}
use Rattle.vc_model.specs.Words.{Word, Tape}
use Rattle.vc_text.specs.Escapes.{inside, unescaped}
use Rattle.vc_lex.specs.Marks.{Mark}
use Rattle.vc_lex.specs.declared.token.TokenKind.{TokenKind}
use Rattle.vc_lex.specs.declared.token.TokenKind.TheVariants.{One, Letter, Run, Quoted, Class, Bar}

-- a part: a letter or a run of letters, letters in quotes, or `\e`
abbrev pub is_part_kind : TokenKind → Bool
is_part_kind Letter = true
is_part_kind Run = true
is_part_kind Quoted = true
is_part_kind One = true
is_part_kind kind = false

abbrev pub is_bar_kind : TokenKind → Bool
is_bar_kind Bar = true
is_bar_kind kind = false

abbrev pub is_class_kind : TokenKind → Bool
is_class_kind Class = true
is_class_kind kind = false

-- one or more parts with bars between them
abbrev pub are_parts : List Mark → Bool
are_parts [] = false
are_parts (m ∷ []) = is_part_kind m.kind
are_parts (m ∷ b ∷ ms) = is_part_kind m.kind && is_bar_kind b.kind && are_parts ms

-- a class alone
abbrev pub is_class : List Mark → Bool
is_class [] = false
is_class (m ∷ []) = is_class_kind m.kind
is_class (m ∷ n ∷ ms) = false

-- a label is a class or parts
abbrev pub is_label : List Mark → Bool
is_label ms = is_class ms || are_parts ms

-- what stands in the brackets of a class
abbrev pub class_body : List Mark → List ℕ
class_body [] = []
class_body (m ∷ ms) = inside m.text

-- the letters of a part
abbrev pub tape_text : TokenKind → List ℕ → Tape
tape_text Letter text = unescaped text
tape_text Run text = unescaped text
tape_text Quoted text = unescaped (inside text)
tape_text kind text = []

abbrev pub tape_of : Mark → Tape
tape_of m = tape_text m.kind m.text

-- a tape for each part: every second token is a bar
abbrev pub parts_word : List Mark → Word
parts_word [] = []
parts_word (m ∷ []) = tape_of m ∷ []
parts_word (m ∷ b ∷ ms) = tape_of m ∷ parts_word ms
