-- What one use of an option, or of the plain words, makes of the rows of a parse.
use Rattle.std.proofs.Common.{◌≡◌, ◌∙◌, ◌≤◌, ℕ, Bool, true, false, refl, sym, ap, subst, arith, List, [], ◌∷◌, ◌++◌, length, Option, Some, None, ◌⊎◌, inl, inr, length-append}
use Rattle.std.specs.Prelude.{codes}
use Rattle.std.proofs.lemmas.Bool.Decides.{nat_tests}
use Rattle.clap.specs.Lexer.{usize_max}
use Rattle.clap.specs.Walk.{Held, Row, Rule, Text, has_row, settled_rows, used, with_values}
use Rattle.clap.specs.Simple.{App, Shape, built, new_rule}
use Rattle.clap.specs.Kinds.{Kinds, or_else, range_kinds, values_kinds}
use Rattle.clap.specs.Faults.{settle_fault, use_fault}
use Rattle.clap.specs.declared.builder.action.ArgAction.TheVariants.{Set, Append}
use Rattle.clap.specs.declared.builder.value_parser.ValueParser.TheVariants as parser
use Rattle.clap.specs.declared.builder.value_parser.Reading.TheVariants.{AsWritten}
use Rattle.clap.specs.declared.parser.matches.ValueSource.TheVariants.{CommandLine}
use Rattle.vc_command.specs.Lines.{Line, Name, limit, order}
use Rattle.vc_command.specs.Parsers.{app, shape}
use Rattle.vc_command.proofs.Rows.{values_at, values_at-with_values, has_row-with_values, values_at-with_others, has_row-with_others, without-none}

abbrev pub id_of : Name → Text
id_of limit = codes "limit"
id_of order = codes "order"

abbrev pub words_id : Text
words_id = codes "words"

-- ---- the command as it is built

abbrev pub option_arg : Text → Rule
option_arg id = record (new_rule id) {
  long = Some id;
  action = Some Set;
  range = Some (record { start_inclusive = 1; end_inclusive = 1 });
  parser = Some parser.String;
}

abbrev pub words_arg : Rule
words_arg = record (new_rule words_id) {
  index = Some 1;
  action = Some Append;
  range = Some (record { start_inclusive = 1; end_inclusive = usize_max });
  parser = Some parser.String;
}

abbrev pub rules : List Rule
rules = option_arg (codes "limit") ∷ option_arg (codes "order") ∷ words_arg ∷ []

abbrev pub top : Shape
top = record shape { rules = rules; disable_help_subcommand = true; is_built = true }

abbrev pub built_app : App
built_app = record { top = top; subs = [] }

pub built-app : built app ≡ built_app
built-app = refl

-- ---- lines

abbrev pub more_plain : List Text → Line → Line
more_plain words l = record l { plain = l.plain ++ words }

abbrev pub more_value : Name → Text → Line → Line
more_value limit v l = record l { limits = l.limits ++ v ∷ [] }
more_value order v l = record l { orders = l.orders ++ v ∷ [] }

abbrev pub is_given : List Text → Bool
is_given [] = false
is_given (v ∷ vs) = true

is_given-more : (vs : List Text) (v : Text) → is_given (vs ++ v ∷ []) ≡ true
is_given-more [] v = refl
is_given-more (x ∷ xs) v = refl

-- no option is given twice
pub record IsSingle (l : Line) : Type 0 where
  pub limits : length l.limits ≤ 1
  pub orders : length l.orders ≤ 1

-- the rows have what the line has
pub record HasRows (rows : List Row) (l : Line) : Type 0 where
  pub plain : values_at words_id rows ≡ l.plain
  pub limits : values_at (codes "limit") rows ≡ l.limits
  pub orders : values_at (codes "order") rows ≡ l.orders
  pub has_limit : has_row (codes "limit") rows ≡ is_given l.limits
  pub has_order : has_row (codes "order") rows ≡ is_given l.orders
  pub single : IsSingle l

-- a step does not fail, and then the rows have the line; or it fails, and then the line has an option twice
abbrev pub Becomes : Kinds → List Row → Line → Type 0
Becomes fault rows l = ((fault ≡ []) × HasRows rows l) ⊎ ((fault ≡ [] → ⊥) × (IsSingle l → ⊥))

-- ---- uses

one_value : (vs : List Text) (v : Text) → is_given vs ≡ false → length (vs ++ v ∷ []) ≤ 1
one_value [] v e = omega arith
one_value (x ∷ xs) v e = cc

two_values : (vs : List Text) (v : Text) → is_given vs ≡ true → length (vs ++ v ∷ []) ≤ 1 → ⊥
two_values [] v e h = cc
two_values (x ∷ xs) v e h = omega (arith, length-append xs (v ∷ []))

abbrev with_value_row : Name → Text → List Row → List Row
with_value_row name v rows = with_values (id_of name) AsWritten CommandLine (v ∷ []) rows

first_limit : (v : Text) (rows : List Row) (l : Line) → HasRows rows l → is_given l.limits ≡ false → HasRows (with_value_row limit v rows) (more_value limit v l)
first_limit v rows l h e = record {
  plain = values_at-with_others _ AsWritten CommandLine (v ∷ []) words_id refl rows ∙ h.plain;
  limits = values_at-with_values _ AsWritten CommandLine (v ∷ []) rows ∙ ap (λ xs. xs ++ v ∷ []) h.limits;
  orders = values_at-with_others _ AsWritten CommandLine (v ∷ []) (codes "order") refl rows ∙ h.orders;
  has_limit = has_row-with_values _ AsWritten CommandLine (v ∷ []) rows ∙ sym (is_given-more l.limits v);
  has_order = has_row-with_others _ AsWritten CommandLine (v ∷ []) (codes "order") refl rows ∙ h.has_order;
  single = record { limits = one_value l.limits v e; orders = h.single.orders };
}

first_order : (v : Text) (rows : List Row) (l : Line) → HasRows rows l → is_given l.orders ≡ false → HasRows (with_value_row order v rows) (more_value order v l)
first_order v rows l h e = record {
  plain = values_at-with_others _ AsWritten CommandLine (v ∷ []) words_id refl rows ∙ h.plain;
  limits = values_at-with_others _ AsWritten CommandLine (v ∷ []) (codes "limit") refl rows ∙ h.limits;
  orders = values_at-with_values _ AsWritten CommandLine (v ∷ []) rows ∙ ap (λ xs. xs ++ v ∷ []) h.orders;
  has_limit = has_row-with_others _ AsWritten CommandLine (v ∷ []) (codes "limit") refl rows ∙ h.has_limit;
  has_order = has_row-with_values _ AsWritten CommandLine (v ∷ []) rows ∙ sym (is_given-more l.orders v);
  single = record { limits = h.single.limits; orders = one_value l.orders v e };
}

abbrev pub value_fault : Name → Text → List Row → Kinds
value_fault name v rows = use_fault false (option_arg (id_of name)) (v ∷ []) rows

-- an option is given a value
pub value_used : (name : Name) (v : Text) (rows : List Row) (l : Line) → HasRows rows l
    → Becomes (value_fault name v rows) (used (option_arg (id_of name)) (v ∷ []) rows) (more_value name v l)
value_used limit v rows l h = go (is_given l.limits) refl
  where
    go : (b : Bool) → is_given l.limits ≡ b → Becomes (value_fault limit v rows) (used (option_arg (codes "limit")) (v ∷ []) rows) (more_value limit v l)
    go false e =
        let none : has_row (codes "limit") rows ≡ false = h.has_limit ∙ e in
        inl (rw none refl, subst (λ rs. HasRows (with_value_row limit v rs) (more_value limit v l)) (sym (without-none _ rows none)) (first_limit v rows l h e))
    go true e =
        let some : has_row (codes "limit") rows ≡ true = h.has_limit ∙ e in
        inr (λ none. let bad = rw some at none in cc, λ single. two_values l.limits v e single.limits)
value_used order v rows l h = go (is_given l.orders) refl
  where
    go : (b : Bool) → is_given l.orders ≡ b → Becomes (value_fault order v rows) (used (option_arg (codes "order")) (v ∷ []) rows) (more_value order v l)
    go false e =
        let none : has_row (codes "order") rows ≡ false = h.has_order ∙ e in
        inl (rw none refl, subst (λ rs. HasRows (with_value_row order v rs) (more_value order v l)) (sym (without-none _ rows none)) (first_order v rows l h e))
    go true e =
        let some : has_row (codes "order") rows ≡ true = h.has_order ∙ e in
        inr (λ none. let bad = rw some at none in cc, λ single. two_values l.orders v e single.orders)

string_values : (ignore_case : Bool) (vs : List Text) → values_kinds ignore_case parser.String vs ≡ []
string_values ignore_case [] = refl
string_values ignore_case (v ∷ vs) = string_values ignore_case vs

fits_range : (n : ℕ) → 1 ≤ n → n ≤ usize_max → range_kinds 1 usize_max n ≡ []
fits_range n some most = grind (arith, nat_tests)

-- plain words are used
pub words_used : (v : Text) (vs : List Text) (rows : List Row) (l : Line) → HasRows rows l → length (v ∷ vs) ≤ usize_max
    → (use_fault false words_arg (v ∷ vs) rows ≡ []) × HasRows (used words_arg (v ∷ vs) rows) (more_plain (v ∷ vs) l)
words_used v vs rows l h most = (
  ap (λ k. or_else k (values_kinds false parser.String (v ∷ vs))) (fits_range (length (v ∷ vs)) (omega arith) most) ∙ string_values false (v ∷ vs),
  record {
    plain = values_at-with_values words_id AsWritten CommandLine (v ∷ vs) rows ∙ ap (λ xs. xs ++ v ∷ vs) h.plain;
    limits = values_at-with_others words_id AsWritten CommandLine (v ∷ vs) (codes "limit") refl rows ∙ h.limits;
    orders = values_at-with_others words_id AsWritten CommandLine (v ∷ vs) (codes "order") refl rows ∙ h.orders;
    has_limit = has_row-with_others words_id AsWritten CommandLine (v ∷ vs) (codes "limit") refl rows ∙ h.has_limit;
    has_order = has_row-with_others words_id AsWritten CommandLine (v ∷ vs) (codes "order") refl rows ∙ h.has_order;
    single = record { limits = h.single.limits; orders = h.single.orders };
  },
)

-- ---- what waits to be used

-- the rows and the argument that waits to be used have together what the line has
pub data Holds (rows : List Row) (pending : Option (Text × List Text)) (l : Line) : Type 0 where
  all : pending ≡ None → HasRows rows l → Holds rows pending l
  words : (before : Line) (v : Text) (vs : List Text) → pending ≡ Some (words_id, v ∷ vs) → HasRows rows before
      → l ≡ more_plain (v ∷ vs) before → Holds rows pending l
  value : (before : Line) (name : Name) (v : Text) → pending ≡ Some (id_of name, v ∷ []) → HasRows rows before
      → l ≡ more_value name v before → Holds rows pending l

abbrev pub held : List Row → Option (Text × List Text) → Held
held rows pending = record { rows = rows; pending = pending; skip = 0 }

abbrev pub pending_fault : List Row → Option (Text × List Text) → Kinds
pending_fault rows pending = settle_fault rules false (held rows pending)

abbrev Settles : List Row → Option (Text × List Text) → Line → Type 0
Settles rows pending l = Becomes (pending_fault rows pending) (settled_rows rules pending rows) l

settles_value : (name : Name) (v : Text) (rows : List Row) (before : Line) → HasRows rows before → Settles rows (Some (id_of name, v ∷ [])) (more_value name v before)
settles_value limit v rows before h = value_used limit v rows before h
settles_value order v rows before h = value_used order v rows before h

-- what waits is used
pub settles : (rows : List Row) (pending : Option (Text × List Text)) (l : Line) → Holds rows pending l → length l.plain ≤ usize_max
    → Settles rows pending l
settles rows pending l (all none h) most = subst (λ p. Settles rows p l) (sym none) (inl (refl, h))
settles rows pending l (words before v vs is h lines) most =
    let count : length (v ∷ vs) ≤ usize_max = omega (arith, ap (λ (k : Line). length k.plain) lines, length-append before.plain (v ∷ vs)) in
    subst (λ p. Settles rows p l) (sym is) (subst (Settles rows (Some (words_id, v ∷ vs))) (sym lines) (inl (words_used v vs rows before h count)))
settles rows pending l (value before name v is h lines) most =
    subst (λ p. Settles rows p l) (sym is) (subst (Settles rows (Some (id_of name, v ∷ []))) (sym lines) (settles_value name v rows before h))
