-- What the code answers, by the bytes of its texts.
use Rattle.std.specs.Prelude.{List, Option, option_map, map, string_bytes}
use Rattle.std.specs.Borrow.{Bor}
use Rattle.std.specs.Option.{option_to_list}
use Rattle.vc_command.specs.Lines.{Text}
use Rattle.vc_command.specs.Lines as lines
use Rattle.vc_command.specs.Requests as requests
use Rattle.vc_command.specs.declared.line.Line.{Line}
use Rattle.vc_command.specs.declared.request.Request.{Request}
use Rattle.vc_command.specs.declared.request.Request.TheVariants as code

-- the texts behind references
abbrev pub texts : List (Bor Text) → List Text
texts = map (λ s. s.now)

abbrev pub values : Option (Bor Text) → List Text
values value = option_to_list (option_map (λ s. s.now) value)

abbrev pub line : Line → lines.Line
line l = record { plain = texts l.plain.items; limits = values l.limit; orders = values l.order }

-- the plain form of a request
abbrev pub asked : Request → requests.Asked
asked (code.Context text) = requests.context (string_bytes text)
asked (code.Expr context text) = requests.expr (string_bytes context) (string_bytes text)
asked (code.Cat file) = requests.cat (string_bytes file)
asked (code.EvalFile file word) = requests.eval_file (string_bytes file) (string_bytes word)
asked (code.EvalExpr context text word) = requests.eval_expr (string_bytes context) (string_bytes text) (string_bytes word)
asked (code.Standard context text limit) = requests.standard (string_bytes context) (string_bytes text) limit
asked (code.Derived context text limit) = requests.derived (string_bytes context) (string_bytes text) limit
asked (code.Proper file) = requests.proper (string_bytes file)
asked (code.Trim file) = requests.trim (string_bytes file)
asked (code.Conjunction first second limit) = requests.conjunction (string_bytes first) (string_bytes second) limit
asked (code.Shuffle first second limit) = requests.shuffle (string_bytes first) (string_bytes second) limit
asked (code.Compose first second limit) = requests.compose (string_bytes first) (string_bytes second) limit
asked (code.Determinize file limit) = requests.determinize (string_bytes file) limit
asked (code.Quotient file) = requests.quotient (string_bytes file)
asked (code.ToExpression file order) = requests.to_expression (string_bytes file) (option_map (λ v. v.items) order)
asked (code.Reduce file) = requests.reduce (string_bytes file)
asked (code.Generate n) = requests.generate n
