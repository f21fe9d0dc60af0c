-- The first line of a file that is not blank.
use Rattle.std.specs.Prelude.{◌≡◌, ℕ, ◌+◌, ◌<◌, ◌^◌, Bool, true, false, List, [], ◌∷◌, drop, length, Option, None, Some, if◌then◌else◌}
use Rattle.vc_lex.specs.Scans.{token_at}
use Rattle.vc_lex.specs.declared.scan.Scan.{Scan}
use Rattle.vc_lex.specs.declared.scan.Scan.TheVariants.{End, Bad, Found}
use Rattle.vc_lex.specs.declared.token.Mode.TheVariants.{Line}
use Rattle.vc_lines.specs.declared.head.Head.{Head}
use Rattle.vc_lines.specs.declared.head.Head.TheVariants as code
use Rattle.vc_lines.specs.Lines.{more_lines}
use Rattle.vc_lex.specs.Marks.{next_at}

abbrev pub is_end : Scan → Bool
is_end End = true
is_end Bad = false
is_end (Found kind width) = false

-- a line is blank where it has blanks alone, or blanks and a comment
abbrev pub is_blank_line : List ℕ → Bool
is_blank_line line = is_end (token_at Line (drop (next_at line 0) line))

-- a line with its number, and the lines after it
pub record HeadLine : Type 0 where
  pub number : ℕ
  pub line : List ℕ
  pub after : List (List ℕ)

-- the first of the lines that is not blank, where the first line has this number
abbrev pub head_line : ℕ → List (List ℕ) → Option HeadLine
head_line n [] = None
head_line n (line ∷ lines) = if is_blank_line line then head_line (n + 1) lines else Some (record { number = n; line = line; after = lines })

-- the first line that is not blank; or none is, and so many lines there are
abbrev pub IsHead : List (List ℕ) → Head → Type 0
IsHead lines (code.Blank n) = (head_line 1 lines ≡ None) × (n ≡ length lines)
IsHead lines (code.Line n line text) = (head_line 1 lines ≡ Some (record { number = n; line = line.now; after = more_lines text.now })) × (n + 1 + length text.now < 2 ^ 64)
