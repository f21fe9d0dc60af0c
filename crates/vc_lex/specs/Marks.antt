-- The tokens of a text, by the grammar and as a function.
use Rattle.std.specs.Prelude.{◌≡◌, ◌≢◌, ◌⊎◌, ℕ, zero, suc, ◌+◌, List, [], ◌∷◌, ◌++◌, length, drop, slice_range, Option, Some, None, Result, Ok, Err}
use Rattle.std.specs.List.{prefix_len}
use Rattle.vc_text.specs.Blanks.{is_blank}
use Rattle.vc_lex.specs.Grammar.{BeginsToken, IsComment}
use Rattle.vc_lex.specs.Scans.{token_at}
use Rattle.vc_lex.specs.declared.scan.Scan.{Scan}
use Rattle.vc_lex.specs.declared.scan.Scan.TheVariants.{End, Bad, Found}
use Rattle.vc_lex.specs.declared.token.BadByte.{BadByte}
use Rattle.vc_lex.specs.declared.token.Mode.{Mode}
use Rattle.vc_lex.specs.declared.token.TokenKind.{TokenKind}

-- a token, with its place in its text
pub record Mark : Type 0 where
  pub kind : TokenKind
  pub text : List ℕ
  pub at : ℕ

-- the place of the next byte of a text that is no blank
abbrev pub next_at : List ℕ → ℕ → ℕ
next_at text at = at + prefix_len is_blank (drop at text)

-- the next token of a text from a place on: before it stand blanks alone
pub record IsNext (mode : Mode) (text : List ℕ) (at : ℕ) (m : Mark) : Type 0 where
  pub place : m.at ≡ next_at text at
  pub begins : BeginsToken mode (drop (next_at text at) text) m.kind (length m.text)
  pub slice : m.text ≡ slice_range text m.at (m.at + length m.text)

-- the tokens of a text from a place on; after the last one stand blanks, and nothing more or a comment
abbrev pub HasMarks : Mode → List ℕ → ℕ → List Mark → Type 0
HasMarks mode text at [] = (drop (next_at text at) text ≡ []) ⊎ IsComment mode (drop (next_at text at) text)
HasMarks mode text at (m ∷ ms) = IsNext mode text at m × HasMarks mode text (m.at + length m.text) ms

-- a byte at which no token begins and no comment
pub record IsBadByte (mode : Mode) (text : List ℕ) (at : ℕ) : Type 0 where
  pub some : drop at text ≢ []
  pub no_comment : IsComment mode (drop at text) → ⊥
  pub no_token : (kind : TokenKind) (width : ℕ) → BeginsToken mode (drop at text) kind width → ⊥

-- the tokens of a text from a place on; after the last one stand blanks, and at this place a bad byte
abbrev pub BreaksAt : Mode → List ℕ → ℕ → List Mark → ℕ → Type 0
BreaksAt mode text at [] bad = (bad ≡ next_at text at) × IsBadByte mode text bad
BreaksAt mode text at (m ∷ ms) bad = IsNext mode text at m × BreaksAt mode text (m.at + length m.text) ms bad

-- the token that was found at a place
abbrev pub mark_at : List ℕ → ℕ → TokenKind → ℕ → Mark
mark_at text at kind width = record { kind = kind; text = slice_range text at (at + width); at = at }

-- the tokens with these in front of them, or the place of the bad byte
abbrev pub with_front : List Mark → Result (List Mark) ℕ → Result (List Mark) ℕ
with_front front (Ok ms) = Ok (front ++ ms)
with_front front (Err bad) = Err bad

-- what was found at a place, and the tokens after it
abbrev pub marks_from : (ℕ → Result (List Mark) ℕ) → List ℕ → ℕ → Scan → Result (List Mark) ℕ
marks_from more text at End = Ok []
marks_from more text at Bad = Err at
marks_from more text at (Found kind width) = with_front (mark_at text at kind width ∷ []) (more (at + width))

-- the tokens from a place on, of which there are fewer than n, or the place of the first bad byte
abbrev pub marks_by : ℕ → Mode → List ℕ → ℕ → Result (List Mark) ℕ
marks_by zero mode text at = Err at
marks_by (suc n) mode text at = marks_from (marks_by n mode text) text (next_at text at) (token_at mode (drop (next_at text at) text))

-- the tokens of a text, or the place of the first bad byte
abbrev pub marks_of : Mode → List ℕ → Result (List Mark) ℕ
marks_of mode text = marks_by (length text + 1) mode text 0

-- a text was cut into these tokens, or this is the first bad byte
abbrev pub IsCut : Mode → List ℕ → List Mark → Option BadByte → Type 0
IsCut mode text ms None = marks_of mode text ≡ Ok ms
IsCut mode text ms (Some bad) = marks_of mode text ≡ Err bad.at

-- the place after the last of the tokens, where m is the first
abbrev pub end_of : Mark → List Mark → ℕ
end_of m [] = m.at + length m.text
end_of m (n ∷ ms) = end_of n ms

-- from where to where tokens stand in their text
abbrev pub span_of : List Mark → ℕ × ℕ
span_of [] = (0, 0)
span_of (m ∷ ms) = (m.at, end_of m ms)
