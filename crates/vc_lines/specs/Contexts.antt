-- The context line of a file.
use Rattle.std.specs.Prelude.{◌≡◌, ℕ, ◌+◌, Bool, false, ◌&&◌, ◌||◌, List, [], ◌∷◌, codes, length, take, drop, nat_lt, Option, None, Some, Result, Ok, Err, if◌then◌else◌, ◌==◌}
use Rattle.std.specs.Option.{option_and_then}
use Rattle.std.specs.Str.{bytes_eq}
use Rattle.vc_context.specs.Sets.{tapes_of}
use Rattle.vc_context.specs.Spelling.{SpellsContext}
use Rattle.vc_context.specs.declared.context.AnyContext.{AnyContext}
use Rattle.vc_context.specs.declared.context.Weights.{Weights}
use Rattle.vc_label.specs.declared.tape_set.TapeSet.{TapeSet}
use Rattle.vc_text.specs.Letters.{is_escaped}
use Rattle.vc_lex.specs.Scans.{begins_with}
use Rattle.vc_lines.specs.declared.fault.HeadFault.{HeadFault}
use Rattle.vc_lines.specs.declared.fault.HeadFault.TheVariants.{Syntax}
use Rattle.vc_lines.specs.ContextLines.{IsContextLine}
use Rattle.vc_text.specs.Blanks.{after_blanks}
use Rattle.vc_lines.specs.Heads.{HeadLine, is_blank_line}

-- the text after a front that it begins with
abbrev pub after_front : List ℕ → List ℕ → Option (List ℕ)
after_front front text = if bytes_eq (take (length front) text) front then Some (drop (length front) text) else None

-- how many bytes stand before the first place, outside of escaped letters, at which the test holds of the text from there on
abbrev pub before : (List ℕ → Bool) → List ℕ → ℕ
before stops [] = 0
before stops (x ∷ []) = if stops (x ∷ []) then 0 else 1
before stops (x ∷ y ∷ s) = if stops (x ∷ y ∷ s) then 0 else (if x == 92 && is_escaped y then 2 + before stops s else 1 + before stops (y ∷ s))

-- the text after its first letter or byte, where a letter may be escaped
abbrev pub after_one : List ℕ → List ℕ
after_one [] = []
after_one (x ∷ []) = []
after_one (x ∷ y ∷ s) = if x == 92 && is_escaped y then s else y ∷ s

abbrev pub begins_quote : List ℕ → Bool
begins_quote text = begins_with 34 text

-- `#`, or `//`
abbrev pub begins_comment : List ℕ → Bool
begins_comment [] = false
begins_comment (x ∷ s) = x == 35 || (x == 47 && begins_with 47 s)

-- in double quotes: after the closing quote stand blanks alone, or blanks and a comment
abbrev pub quoted : List ℕ → Option (List ℕ)
quoted text = if nat_lt (before begins_quote text) (length text) && is_blank_line (drop (before begins_quote text + 1) text) then Some (take (before begins_quote text) text) else None

-- what stands after `=`: a text in double quotes, or a text up to a comment
abbrev pub value_text : List ℕ → Option (List ℕ)
value_text [] = Some []
value_text (x ∷ s) = if x == 34 then quoted s else Some (take (before begins_comment (x ∷ s)) (x ∷ s))

-- the context text of a line: `context`, `=`, and the text, with blanks before each
abbrev pub context_in_line : List ℕ → Option (List ℕ)
context_in_line line =
    option_and_then (λ s. option_and_then (λ t. value_text (after_blanks t)) (after_front (codes "=") (after_blanks s)))
    (after_front (codes "context") (after_blanks line))

-- the answer of the reader of the head: the context that the first line that is not blank spells; or that line's number where it spells none, and the last line's where all are blank
abbrev pub IsContextOf : ℕ → Option HeadLine → Result AnyContext HeadFault → Type 0
IsContextOf last None (Ok c) = ⊥
IsContextOf last None (Err (Syntax n)) = n ≡ last
IsContextOf last (Some h) (Ok c) = (text : List ℕ) × IsContextLine h.line text × SpellsContext text (tapes_of c.labels) c.weights
IsContextOf last (Some h) (Err (Syntax n)) = (n ≡ h.number) × ((text : List ℕ) (sets : List TapeSet) (weights : Weights) → IsContextLine h.line text → SpellsContext text sets weights → ⊥)
