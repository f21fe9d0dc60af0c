-- The grammar of a context line.
use Rattle.std.specs.Prelude.{◌≡◌, ◌⊎◌, ℕ, true, ⊤, List, [], ◌∷◌, ◌++◌, codes}
use Rattle.vc_lex.specs.Grammar.{IsComment, joined}
use Rattle.vc_text.specs.Letters.{is_escaped}
use Rattle.vc_text.specs.Blanks.{AreBlanks, is_blank}
use Rattle.vc_lex.specs.declared.token.Mode.TheVariants.{Line}

-- a space or a tab begins the text
abbrev pub BeginsBlank : List ℕ → Type 0
BeginsBlank text = (x : ℕ) × (rest : List ℕ) × (is_blank x ≡ true) × (text ≡ x ∷ rest)

-- a double quote begins the text
abbrev pub BeginsQuote : List ℕ → Type 0
BeginsQuote text = (rest : List ℕ) × (text ≡ codes "\"" ++ rest)

-- a comment begins the text: `#`, or `//`
abbrev pub BeginsComment : List ℕ → Type 0
BeginsComment text = IsComment Line text

-- an escaped letter: a backslash and the letter, which is written with one
abbrev pub IsEscapedLetter : List ℕ → Type 0
IsEscapedLetter text = (x : ℕ) × (is_escaped x ≡ true) × (text ≡ 92 ∷ x ∷ [])

-- an escaped letter begins the text
abbrev pub BeginsEscapedLetter : List ℕ → Type 0
BeginsEscapedLetter text = (letter rest : List ℕ) × IsEscapedLetter letter × (text ≡ letter ++ rest)

-- an escaped letter, or one byte at which none begins, where this text stands after it
abbrev pub IsPiece : List ℕ → List ℕ → Type 0
IsPiece piece after = IsEscapedLetter piece ⊎ ((x : ℕ) × (piece ≡ x ∷ []) × (BeginsEscapedLetter (x ∷ after) → ⊥))

-- the pieces of a text that this text stands after; at none of them what stops it begins
abbrev pub ArePieces : (List ℕ → Type 0) → List (List ℕ) → List ℕ → Type 0
ArePieces Stops [] after = ⊤
ArePieces Stops (piece ∷ pieces) after =
    IsPiece piece (joined pieces ++ after) × (Stops (piece ++ (joined pieces ++ after)) → ⊥) × ArePieces Stops pieces after

-- what stops the text begins at no byte of it and at no escaped letter, where this text stands after it
abbrev pub Passes : (List ℕ → Type 0) → List ℕ → List ℕ → Type 0
Passes Stops text after = (pieces : List (List ℕ)) × (text ≡ joined pieces) × ArePieces Stops pieces after

-- nothing, or a comment
abbrev pub IsEnd : List ℕ → Type 0
IsEnd text = (text ≡ []) ⊎ BeginsComment text

-- blanks, and after them nothing or a comment
pub record IsRest (text : List ℕ) : Type 0 where
  pub blanks : List ℕ
  pub end : List ℕ
  pub text_is : text ≡ blanks ++ end
  pub are_blanks : AreBlanks blanks
  pub is_end : IsEnd end

-- a context text in double quotes: it goes up to the closing quote, and after that stand blanks, and nothing or a comment
pub record IsQuoted (value text : List ℕ) : Type 0 where
  pub after : List ℕ
  pub value_is : value ≡ codes "\"" ++ (text ++ (codes "\"" ++ after))
  pub passes : Passes BeginsQuote text (codes "\"" ++ after)
  pub rest : IsRest after

-- a context text alone: it goes up to a comment or to the end of the line, and begins with no blank and no double quote
pub record IsAlone (value text : List ℕ) : Type 0 where
  pub after : List ℕ
  pub value_is : value ≡ text ++ after
  pub no_blank : BeginsBlank value → ⊥
  pub no_quote : BeginsQuote value → ⊥
  pub passes : Passes BeginsComment text after
  pub is_end : IsEnd after

-- the line is a context line, and this is its context text: `context`, `=`, and the text in double quotes or alone, with blanks before each
pub record IsContextLine (line text : List ℕ) : Type 0 where
  pub before_word : List ℕ
  pub before_equals : List ℕ
  pub before_value : List ℕ
  pub value : List ℕ
  pub line_is : line ≡ before_word ++ (codes "context" ++ (before_equals ++ (codes "=" ++ (before_value ++ value))))
  pub blanks_before_word : AreBlanks before_word
  pub blanks_before_equals : AreBlanks before_equals
  pub blanks_before_value : AreBlanks before_value
  pub is_value : IsQuoted value text ⊎ IsAlone value text
