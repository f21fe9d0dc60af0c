-- The texts of tokens, by cases.
use Rattle.std.specs.Prelude.{◌≡◌, ◌≢◌, ℕ, ◌≤◌, ◌⊎◌, Bool, true, ◌&&◌, not, nat_le, ◌==◌, List, [], ◌∷◌, ◌++◌, codes, length, take, drop}
use Rattle.std.specs.List.{list_all}
use Rattle.vc_text.specs.Letters.{SpellsLetter}
use Rattle.vc_lex.specs.declared.token.Mode.{Mode}
use Rattle.vc_lex.specs.declared.token.Mode.TheVariants.{Expression, Line}
use Rattle.vc_lex.specs.declared.token.TokenKind.{TokenKind}
use Rattle.vc_lex.specs.declared.token.TokenKind.TheVariants.{Zero, One, Letter, Run, Quoted, Class, Weight, Star, And, Shuffle, Plus, Left, Right, Bar, Arrow, Comma, Dollar, Equals, Name}

-- a plain or escaped letter
abbrev pub IsLetter : List ℕ → Type 0
IsLetter text = (x : ℕ) × SpellsLetter text x

-- the pieces, one behind another
abbrev pub joined : List (List ℕ) → List ℕ
joined [] = []
joined (piece ∷ pieces) = piece ++ joined pieces

-- this holds of each piece
abbrev pub Each : (List ℕ → Type 0) → List (List ℕ) → Type 0
Each P [] = Unit {0}
Each P (piece ∷ pieces) = P piece × Each P pieces

-- any number of pieces, one behind another
abbrev pub Several : (List ℕ → Type 0) → List ℕ → Type 0
Several P text = (pieces : List (List ℕ)) × (text ≡ joined pieces) × Each P pieces

-- a text with one byte before it and one behind it
abbrev pub Between : ℕ → (List ℕ → Type 0) → ℕ → List ℕ → Type 0
Between first P last text = (inside : List ℕ) × (text ≡ first ∷ (inside ++ last ∷ [])) × P inside

-- an item of a class: a letter, or two letters with `-` between them, the first not above the second
abbrev pub IsItem : List ℕ → Type 0
IsItem text = IsLetter text ⊎ ((first last : List ℕ) × (x y : ℕ) × (text ≡ first ++ 45 ∷ last) × SpellsLetter first x × SpellsLetter last y × (x ≤ y))

-- items, one or more, or `^` and any number of items
abbrev pub IsClassBody : List ℕ → Type 0
IsClassBody text = (Several IsItem text × (text ≢ [])) ⊎ ((items : List ℕ) × (text ≡ 94 ∷ items) × Several IsItem items)

-- a byte other than `<`, `>` and line feed
abbrev pub is_weight_byte : ℕ → Bool
is_weight_byte x = not (x == 60) && (not (x == 62) && not (x == 10))

-- one or more bytes of a weight
abbrev pub IsWeightBody : List ℕ → Type 0
IsWeightBody text = (list_all is_weight_byte text ≡ true) × (text ≢ [])

-- a byte from 0x20 to 0x7E that stands by itself in a name
abbrev pub is_name_byte : ℕ → Bool
is_name_byte x = (nat_le 0x20 x && nat_le x 0x7e) && (not (x == 34) && not (x == 92))

-- a byte of a name, with a backslash before it where it is a double quote or a backslash
abbrev pub IsNamePart : List ℕ → Type 0
IsNamePart text = ((x : ℕ) × (is_name_byte x ≡ true) × (text ≡ x ∷ [])) ⊎ ((text ≡ 92 ∷ 34 ∷ []) ⊎ (text ≡ 92 ∷ 92 ∷ []))

-- the texts of the tokens of each kind
abbrev pub IsTokenText : TokenKind → Mode → List ℕ → Type 0
IsTokenText Zero Expression text = text ≡ codes "\\z"
IsTokenText One mode text = text ≡ codes "\\e"
IsTokenText Letter Expression text = IsLetter text
IsTokenText Run Line text = Several IsLetter text × (text ≢ [])
IsTokenText Quoted mode text = Between 39 (Several IsLetter) 39 text
IsTokenText Class mode text = Between 91 IsClassBody 93 text
IsTokenText Weight mode text = Between 60 IsWeightBody 62 text
IsTokenText Star Expression text = text ≡ codes "*"
IsTokenText And Expression text = text ≡ codes "&"
IsTokenText Shuffle Expression text = text ≡ codes ":"
IsTokenText Plus Expression text = text ≡ codes "+"
IsTokenText Left Expression text = text ≡ codes "("
IsTokenText Right Expression text = text ≡ codes ")"
IsTokenText Bar mode text = text ≡ codes "|"
IsTokenText Arrow Line text = text ≡ codes "->"
IsTokenText Comma Line text = text ≡ codes ","
IsTokenText Dollar Line text = text ≡ codes "$"
IsTokenText Equals Line text = text ≡ codes "="
IsTokenText Name Line text = Between 34 (Several IsNamePart) 34 text
IsTokenText kind mode text = ⊥

-- no token goes on behind this one: behind a run no letter begins
abbrev pub EndsBefore : TokenKind → List ℕ → Type 0
EndsBefore Run rest = (front back : List ℕ) → rest ≡ front ++ back → IsLetter front → ⊥
EndsBefore kind rest = Unit {0}

-- a comment begins here
abbrev pub IsComment : Mode → List ℕ → Type 0
IsComment Line text = (rest : List ℕ) × ((text ≡ codes "#" ++ rest) ⊎ (text ≡ codes "//" ++ rest))
IsComment Expression text = ⊥

-- a token of this kind and width begins a text
pub record BeginsToken (mode : Mode) (text : List ℕ) (kind : TokenKind) (width : ℕ) : Type 0 where
  pub within : width ≤ length text
  pub is_token : IsTokenText kind mode (take width text)
  pub ends : EndsBefore kind (drop width text)
