-- The state of a lexer, and one step of it.
use Rattle.std.specs.Prelude.{◌≡◌, ℕ, ◌+◌, Bool, true, List, drop, slice_range, Option, Some, None, Result, Ok, Err}
use Rattle.std.specs.List.{prefix_len}
use Rattle.vc_lex.specs.Scans.{token_at}
use Rattle.vc_text.specs.Blanks.{is_blank}
use Rattle.vc_lex.specs.declared.token.Mode.{Mode}
use Rattle.vc_lex.specs.declared.token.Token.{Token}
use Rattle.vc_lex.specs.declared.token.BadByte.{BadByte}
use Rattle.vc_lex.specs.declared.scan.Scan.{Scan}
use Rattle.vc_lex.specs.declared.scan.Scan.TheVariants.{End, Bad, Found}

-- what is read, how, the place of the next byte, and whether a bad byte was met
pub record State : Type 0 where
  pub source : List ℕ
  pub mode : Mode
  pub place : ℕ
  pub failed : Bool

-- the place of the next byte that is no blank
abbrev pub next_place : State → ℕ
next_place s = s.place + prefix_len is_blank (drop s.place s.source)

-- what begins at the next byte that is no blank
abbrev pub next_scan : State → Scan
next_scan s = token_at s.mode (drop (next_place s) s.source)

-- the answer and the state after it, where this begins at the next byte that is no blank
abbrev pub IsStepBy : Scan → State → Option (Result Token BadByte) → State → Type 0
IsStepBy End before (Some r) after = ⊥
IsStepBy End before None after = after ≡ record before { place = next_place before }
IsStepBy Bad before None after = ⊥
IsStepBy Bad before (Some (Ok token)) after = ⊥
IsStepBy Bad before (Some (Err fault)) after =
    (fault.at ≡ next_place before) × (after ≡ record before { place = next_place before; failed = true })
IsStepBy (Found kind width) before None after = ⊥
IsStepBy (Found kind width) before (Some (Err fault)) after = ⊥
IsStepBy (Found kind width) before (Some (Ok token)) after =
    (token.kind ≡ kind) × (token.at ≡ next_place before) ×
    (token.text.now ≡ slice_range before.source token.at (token.at + width)) ×
    (after ≡ record before { place = token.at + width })
