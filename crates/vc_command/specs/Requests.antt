-- The requests, and the one that words give.
use Rattle.std.specs.Prelude.{◌==◌, ◌&&◌, ◌≤◌, ℕ, List, [], ◌∷◌, Option, Some, None, option_map, option_and_then, codes, nat_le, if◌then◌else◌, ⊤}
use Rattle.std.specs.List.{slice_split}
use Rattle.std.specs.Str.{bytes_eq}
use Rattle.vc_num.specs.Decimals.{is_numeral, number_of_digits}
use Rattle.vc_command.specs.Lines.{Text, Line, line_of}
use Rattle.vc_command.specs.declared.command.Command.{Command}
use Rattle.vc_command.specs.declared.command.Command.TheVariants as command
use Rattle.vc_command.specs.declared.command.Fixed.{Fixed}
use Rattle.vc_command.specs.declared.command.Fixed.TheVariants as fixed
use Rattle.vc_command.specs.declared.command.Limited.{Limited}
use Rattle.vc_command.specs.declared.command.Limited.TheVariants as limited

-- what words ask for: a request of the code by the bytes of its texts
pub data Asked : Type 0 where
  context : Text → Asked
  expr : Text → Text → Asked
  cat : Text → Asked
  eval_file : Text → Text → Asked
  eval_expr : Text → Text → Text → Asked
  standard : Text → Text → ℕ → Asked
  derived : Text → Text → ℕ → Asked
  proper : Text → Asked
  trim : Text → Asked
  conjunction : Text → Text → ℕ → Asked
  shuffle : Text → Text → ℕ → Asked
  compose : Text → Text → ℕ → Asked
  determinize : Text → ℕ → Asked
  quotient : Text → Asked
  to_expression : Text → Option (List ℕ) → Asked
  reduce : Text → Asked
  generate : ℕ → Asked

-- ---- numbers

-- a decimal number from least to most; it has no sign, and leading zeros are accepted
abbrev pub number_within : ℕ → ℕ → Text → Option ℕ
number_within least most text =
    if is_numeral text && (nat_le least (number_of_digits text) && nat_le (number_of_digits text) most)
    then Some (number_of_digits text) else None

abbrev pub limit_of : Text → Option ℕ
limit_of = number_within 1 1000000

abbrev pub default_limit : ℕ
default_limit = 100000

abbrev pub state_of : Text → Option ℕ
state_of = number_within 0 4294967295

-- the number of each text, where each has one
abbrev pub states_of : List Text → Option (List ℕ)
states_of [] = Some []
states_of (text ∷ texts) = option_and_then (λ n. option_map (λ ns. n ∷ ns) (states_of texts)) (state_of text)

-- one or more numbers below 2^32, with single commas between them
abbrev pub order_of : Text → Option (List ℕ)
order_of text = states_of (slice_split (λ b. b == 44) text)

-- ---- commands

abbrev pub command_of : Text → Option Command
command_of name =
    if bytes_eq name (codes "context") then Some (command.Fixed fixed.Context)
    else (if bytes_eq name (codes "expr") then Some (command.Fixed fixed.Expr)
    else (if bytes_eq name (codes "cat") then Some (command.Fixed fixed.Cat)
    else (if bytes_eq name (codes "eval") then Some (command.Fixed fixed.Eval)
    else (if bytes_eq name (codes "proper") then Some (command.Fixed fixed.Proper)
    else (if bytes_eq name (codes "trim") then Some (command.Fixed fixed.Trim)
    else (if bytes_eq name (codes "quotient") then Some (command.Fixed fixed.Quotient)
    else (if bytes_eq name (codes "reduce") then Some (command.Fixed fixed.Reduce)
    else (if bytes_eq name (codes "generate") then Some (command.Fixed fixed.Generate)
    else (if bytes_eq name (codes "standard") then Some (command.Limited limited.Standard)
    else (if bytes_eq name (codes "derived") then Some (command.Limited limited.Derived)
    else (if bytes_eq name (codes "conjunction") then Some (command.Limited limited.Conjunction)
    else (if bytes_eq name (codes "shuffle") then Some (command.Limited limited.Shuffle)
    else (if bytes_eq name (codes "compose") then Some (command.Limited limited.Compose)
    else (if bytes_eq name (codes "determinize") then Some (command.Limited limited.Determinize)
    else (if bytes_eq name (codes "to-expression") then Some command.ToExpression
    else None)))))))))))))))

-- the commands that name no option, with the plain words behind their name
abbrev pub fixed_request : Fixed → List Text → Option Asked
fixed_request fixed.Context (text ∷ []) = Some (context text)
fixed_request fixed.Expr (over ∷ text ∷ []) = Some (expr over text)
fixed_request fixed.Cat (file ∷ []) = Some (cat file)
fixed_request fixed.Eval (file ∷ word ∷ []) = Some (eval_file file word)
fixed_request fixed.Eval (over ∷ text ∷ word ∷ []) = Some (eval_expr over text word)
fixed_request fixed.Proper (file ∷ []) = Some (proper file)
fixed_request fixed.Trim (file ∷ []) = Some (trim file)
fixed_request fixed.Quotient (file ∷ []) = Some (quotient file)
fixed_request fixed.Reduce (file ∷ []) = Some (reduce file)
fixed_request fixed.Generate (n ∷ []) = option_map generate (number_within 1 1000 n)
fixed_request command words = None

-- those that name `--limit`, with the limit
abbrev pub limited_request : Limited → List Text → ℕ → Option Asked
limited_request limited.Standard (over ∷ text ∷ []) n = Some (standard over text n)
limited_request limited.Derived (over ∷ text ∷ []) n = Some (derived over text n)
limited_request limited.Conjunction (first ∷ second ∷ []) n = Some (conjunction first second n)
limited_request limited.Shuffle (first ∷ second ∷ []) n = Some (shuffle first second n)
limited_request limited.Compose (first ∷ second ∷ []) n = Some (compose first second n)
limited_request limited.Determinize (file ∷ []) n = Some (determinize file n)
limited_request command words n = None

-- the one that names `--order`
abbrev pub expression_request : List Text → Option (List ℕ) → Option Asked
expression_request (file ∷ []) order = Some (to_expression file order)
expression_request words order = None

-- a command takes the option that it names, once, and no other
abbrev pub command_request : Command → List Text → List Text → List Text → Option Asked
command_request (command.Fixed c) words [] [] = fixed_request c words
command_request (command.Limited c) words [] [] = limited_request c words default_limit
command_request (command.Limited c) words (value ∷ []) [] = option_and_then (limited_request c words) (limit_of value)
command_request command.ToExpression words [] [] = expression_request words None
command_request command.ToExpression words [] (value ∷ []) =
    option_and_then (λ order. expression_request words (Some order)) (order_of value)
command_request c words limits orders = None

-- the first plain word is the command
abbrev pub words_request : List Text → List Text → List Text → Option Asked
words_request [] limits orders = None
words_request (name ∷ words) limits orders =
    option_and_then (λ c. command_request c words limits orders) (command_of name)

abbrev pub line_request : Line → Option Asked
line_request line = words_request line.plain line.limits line.orders

-- the request of the words
unfoldable pub request_of : List Text → Option Asked
request_of words = option_and_then line_request (line_of words)

-- ---- limits

-- a limit of states
abbrev pub IsLimit : ℕ → Type 0
IsLimit n = (1 ≤ n) × (n ≤ 1000000)

-- the request has such a limit, where its command names one
abbrev pub HasLimit : Asked → Type 0
HasLimit (standard over text n) = IsLimit n
HasLimit (derived over text n) = IsLimit n
HasLimit (conjunction first second n) = IsLimit n
HasLimit (shuffle first second n) = IsLimit n
HasLimit (compose first second n) = IsLimit n
HasLimit (determinize file n) = IsLimit n
HasLimit other = ⊤
