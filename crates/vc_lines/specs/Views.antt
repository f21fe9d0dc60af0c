-- What lines of the code stand for.
use Rattle.std.specs.Prelude.{ℕ, ◌+◌, ⊤, List, [], length, map, Option, None, Some}
use Rattle.std.specs.Borrow.{Bor}
use Rattle.vc_lex.specs.declared.token.Token.{Token}
use Rattle.vc_lines.specs.declared.line.Line.{Line}
use Rattle.vc_lines.specs.declared.line.Line.TheVariants as code
use Rattle.vc_lex.specs.Marks.{Mark}
use Rattle.vc_lex.specs.Views.{AreFit, seen}
use Rattle.vc_lines.specs.Grammar as grammar

abbrev pub line_seen : Line → grammar.Line
line_seen code.Blank = grammar.blank
line_seen (code.Initial s w) = grammar.initial_at (seen s) (map seen w.now)
line_seen (code.Final s w) = grammar.final_at (seen s) (map seen w.now)
line_seen (code.Moves s t es) = grammar.moves (seen s) (seen t) (map seen es.now)
line_seen (code.State s) = grammar.state (seen s)

-- the entries after a comma, none where there is no comma
abbrev pub more_entries : Option (Bor (List Token)) → List (List Mark)
more_entries None = []
more_entries (Some ts) = grammar.entries_of (map seen ts.now)

-- how much is left after a comma, one more than there are tokens
abbrev pub tokens_left : Option (Bor (List Token)) → ℕ
tokens_left None = 0
tokens_left (Some ts) = length ts.now + 1

abbrev pub AreFitAfter : Option (Bor (List Token)) → Type 0
AreFitAfter None = ⊤
AreFitAfter (Some ts) = AreFit ts.now

abbrev pub IsFitLine : Line → Type 0
IsFitLine code.Blank = ⊤
IsFitLine (code.Initial s w) = ⊤
IsFitLine (code.Final s w) = ⊤
IsFitLine (code.Moves s t es) = AreFit es.now
IsFitLine (code.State s) = ⊤
