-- The lines of a file after its context line, by their tokens.
use Rattle.std.specs.Prelude.{ℕ, Bool, true, false, ◌&&◌, List, [], ◌∷◌, Option, Some, None, if◌then◌else◌}
use Rattle.std.specs.Option.{is_some, option_and_then}
use Rattle.std.specs.Result.{result_ok}
use Rattle.std.specs.List.{list_all}
use Rattle.vc_text.specs.Letters.{is_plain}
use Rattle.vc_lex.specs.declared.token.TokenKind.{TokenKind}
use Rattle.vc_lex.specs.declared.token.Mode.TheVariants as mode
use Rattle.vc_lex.specs.declared.token.TokenKind.TheVariants.{Run, Weight, Arrow, Comma, Dollar, Name}
use Rattle.vc_text.specs.Escapes.{inside}
use Rattle.vc_lex.specs.Parts.{is_label}
use Rattle.vc_lines.specs.Pieces.{pieces}
use Rattle.vc_lex.specs.Marks.{Mark, marks_of}

-- the kinds of tokens that lines have
abbrev pub is_comma_kind : TokenKind → Bool
is_comma_kind Comma = true
is_comma_kind kind = false

abbrev pub is_arrow_kind : TokenKind → Bool
is_arrow_kind Arrow = true
is_arrow_kind kind = false

abbrev pub is_dollar_kind : TokenKind → Bool
is_dollar_kind Dollar = true
is_dollar_kind kind = false

abbrev pub is_weight_kind : TokenKind → Bool
is_weight_kind Weight = true
is_weight_kind kind = false

-- a state is a run of plain letters, or a name in double quotes
abbrev pub is_state_text : TokenKind → List ℕ → Bool
is_state_text Run text = list_all is_plain text
is_state_text Name text = true
is_state_text kind text = false

abbrev pub is_state : Mark → Bool
is_state m = is_state_text m.kind m.text

-- the name of a state as it stands in double quotes: `"` and `\` have a backslash before them
abbrev pub written_name : TokenKind → List ℕ → List ℕ
written_name Name text = inside text
written_name kind text = text

abbrev pub name_of : Mark → List ℕ
name_of m = written_name m.kind m.text

-- a line: nothing; an initial or a final weight; transitions; the name of a state. Weights and entries are the tokens that stand there
pub data Line : Type 0 where
  blank : Line
  initial_at : Mark → List Mark → Line
  final_at : Mark → List Mark → Line
  moves : Mark → Mark → List Mark → Line
  state : Mark → Line

abbrev pub is_comma : Mark → Bool
is_comma m = is_comma_kind m.kind

-- entries have commas between them
abbrev pub entries_of : List Mark → List (List Mark)
entries_of ms = pieces is_comma ms

-- the weight that an entry begins with, if any, and the label after it
abbrev pub entry_weight : List Mark → Option Mark
entry_weight [] = None
entry_weight (m ∷ ms) = if is_weight_kind m.kind then Some m else None

abbrev pub entry_label : List Mark → List Mark
entry_label [] = []
entry_label (m ∷ ms) = if is_weight_kind m.kind then ms else m ∷ ms

-- each entry has a label
abbrev pub have_labels : List (List Mark) → Bool
have_labels [] = true
have_labels (e ∷ es) = is_label (entry_label e) && have_labels es

abbrev pub has_labels : Line → Bool
has_labels blank = true
has_labels (initial_at s w) = true
has_labels (final_at s w) = true
has_labels (moves s t es) = have_labels (entries_of es)
has_labels (state s) = true

module _ {V : Type 0} (spelled : List ℕ → Option V) where
  -- the weight is a text of the weight set
  abbrev pub is_weight : Mark → Bool
  is_weight m = is_some (spelled (inside m.text))

  abbrev pub is_weight_or_none : Option Mark → Bool
  is_weight_or_none None = true
  is_weight_or_none (Some m) = is_weight m

  -- nothing, or a weight
  abbrev pub is_end : List Mark → Bool
  is_end [] = true
  is_end (m ∷ []) = is_weight_kind m.kind && is_weight m
  is_end (m ∷ n ∷ ms) = false

  -- a label, and before it a weight or nothing
  abbrev pub is_entry : List Mark → Bool
  is_entry ms = is_weight_or_none (entry_weight ms) && is_label (entry_label ms)

  -- one entry or more
  abbrev pub are_entries : List Mark → Bool
  are_entries ms = list_all is_entry (entries_of ms)

  -- a line of a token, an arrow, a token and the rest
  abbrev pub arrow_line : Mark → Mark → List Mark → Option Line
  arrow_line m n rest =
      if is_dollar_kind m.kind && is_state n then (if is_end rest then Some (initial_at n rest) else None)
      else (if is_state m && is_dollar_kind n.kind then (if is_end rest then Some (final_at m rest) else None)
      else (if is_state m && is_state n then (if are_entries rest then Some (moves m n rest) else None)
      else None))

  -- the line that tokens are; none where they are outside the grammar
  abbrev pub line_of : List Mark → Option Line
  line_of [] = Some blank
  line_of (m ∷ []) = if is_state m then Some (state m) else None
  line_of (m ∷ a ∷ []) = None
  line_of (m ∷ a ∷ n ∷ rest) = if is_arrow_kind a.kind then arrow_line m n rest else None

  -- the line that a text is
  abbrev pub line_at : List ℕ → Option Line
  line_at text = option_and_then line_of (result_ok (marks_of mode.Line text))
