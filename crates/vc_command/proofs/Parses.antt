-- What the parser's clauses say of the line of the words.
use Rattle.std.proofs.Common.{◌≡◌, ◌∙◌, ◌≤◌, Bool, true, false, refl, sym, ap, ap₂, subst, arith, List, [], ◌∷◌, map, length, Option, Some, None, inl, inr, string_bytes}
use Rattle.std.specs.Prelude.{codes, option_map, option_and_then, fold, slice_get, is_some, String}
use Rattle.std.specs.Option.{option_to_list}
use Rattle.std.proofs.lemmas.Str.{IsUtf8-string_bytes}
use Rattle.clap.specs.Lexer.{usize_max}
use Rattle.clap.specs.Matches.{first_value, matched_of, raw_values}
use Rattle.clap.specs.Walk.{Held, Row, Rule, Text, Walk, finished, has_row, idle, is_empty, rows_of, settled, walked, with_default}
use Rattle.clap.specs.Simple.{entered, is_simple, matches_of}
use Rattle.clap.specs.Kinds.{Kinds, or_else, HasKind}
use Rattle.clap.specs.Faults.{check_fault, default_fault, defaults_fault, entered_fault, fault_of, is_simple_and_free, settle_fault, walk_fault}
use Rattle.clap.specs.Values.{kind_of}
use Rattle.clap.specs.declared.error.Error.{Error}
use Rattle.clap.specs.declared.error.kind.ErrorKind.TheVariants.{OutOfMemory}
use Rattle.clap.specs.declared.parser.matches.Found.{Found}
use Rattle.clap.proofs.WalkLemmas.{first_value-rows, raw_values-rows}
use Rattle.vc_command.specs.Lines.{Line, plain_line}
use Rattle.vc_command.specs.Parsers.{app}
use Rattle.vc_command.specs.Requests.{line_request, request_of}
use Rattle.vc_command.proofs.Rows.{listed, first_of-values_at, all_of-values_at}
use Rattle.vc_command.proofs.Uses.{top, rules, built_app, words_id, HasRows, all}
use Rattle.vc_command.proofs.Loose.{loose_from, request_of-loose, none_of_line, none_of_twice}
use Rattle.vc_command.proofs.Turns.{at}
use Rattle.vc_command.proofs.Walks.{AreTexts, Ends, both_end, fault_from, rows_from, or_else-nil}

pub app_is_simple : is_simple app ≡ true
app_is_simple = refl

pub app_is_free : is_simple_and_free app ≡ true
app_is_free = refl

abbrev start : Walk
start = at [] None idle false

-- ---- defaults, of which there are none

default_none : (rows : List Row) (a : Rule) → is_empty a.defaults ≡ true → default_fault rows a ≡ []
default_none rows a e = go (has_row a.id rows) refl
  where
    go : (b : Bool) → has_row a.id rows ≡ b → default_fault rows a ≡ []
    go true f = rw f refl
    go false f = rw (f, e) refl

no_default : (rows : List Row) (a : Rule) → a.defaults ≡ [] → with_default rows a ≡ rows
no_default rows a e = go (has_row a.id rows) refl
  where
    go : (b : Bool) → has_row a.id rows ≡ b → with_default rows a ≡ rows
    go true f = rw f refl
    go false f = rw (f, e) refl

abbrev NoDefaults : List Rule → Type 0
NoDefaults [] = Unit {0}
NoDefaults (a ∷ rest) = (a.defaults ≡ []) × NoDefaults rest

defaults_none : (rows : List Row) (c : List Rule) → NoDefaults c → defaults_fault rows c ≡ []
unfolding defaults_fault
defaults_none rows [] h = refl
defaults_none rows (a ∷ rest) h =
    ap (λ k. or_else k (defaults_fault (with_default rows a) rest)) (default_none rows a (ap is_empty h.0)) ∙ defaults_none (with_default rows a) rest h.1

rows_stay : (rows : List Row) (c : List Rule) → NoDefaults c → fold with_default rows c ≡ rows
rows_stay rows [] h = refl
rows_stay rows (a ∷ rest) h = rows_stay (with_default rows a) rest h.1 ∙ no_default rows a h.0

-- ---- the whole parse

abbrev Stop : Type 0
Stop = Option (Text × List Text)

none_entered : (stop : Stop) → is_some (entered built_app stop) ≡ false
none_entered None = refl
none_entered (Some p) = refl

none_below : (stop : Stop) → entered_fault built_app stop ≡ []
none_below None = refl
none_below (Some p) = refl

abbrev walk_kinds : List Text → Kinds
walk_kinds words = walk_fault top [] start words

abbrev end_held : List Text → Held
end_held words = (fold (walked rules []) start words).held

abbrev settle_kinds : List Text → Kinds
settle_kinds words = settle_fault rules false (end_held words)

abbrev stop_at : List Text → Stop
stop_at words = (fold (walked rules []) start words).stopped

abbrev last_kinds : List Text → Kinds
last_kinds words = or_else (defaults_fault (settled rules (end_held words)).rows rules)
    (check_fault top (finished rules (end_held words)) (is_some (entered built_app (stop_at words))))

whole : (words : List Text) → fault_of app words
    ≡ or_else (walk_kinds words) (or_else (entered_fault built_app (stop_at words)) (or_else (settle_kinds words) (last_kinds words)))
whole words = refl

no_fault_from : (words : List Text) → fault_of app words ≡ [] → fault_from start words ≡ []
no_fault_from words h =
    let first = or_else-nil (walk_kinds words) _ (sym (whole words) ∙ h) in
    let second = or_else-nil (entered_fault built_app (stop_at words)) _ first.1 in
    let third = or_else-nil (settle_kinds words) (last_kinds words) second.1 in
    ap₂ or_else first.0 third.0

none_last : (words : List Text) → last_kinds words ≡ []
none_last words =
    ap₂ (λ (k : Kinds) (b : Bool). or_else k (check_fault top (finished rules (end_held words)) b))
    (defaults_none (settled rules (end_held words)).rows rules (refl, (refl, (refl, tt)))) (none_entered (stop_at words))

no_fault : (words : List Text) → fault_from start words ≡ [] → fault_of app words ≡ []
no_fault words h =
    let parts = or_else-nil (walk_kinds words) (settle_kinds words) h in
    whole words ∙ ap₂ or_else parts.0 (ap₂ or_else (none_below (stop_at words)) (ap₂ or_else parts.1 (none_last words)))

rows_are : (words : List Text) → matches_of app words ≡ rows_from start words
rows_are words = rows_stay (settled rules (end_held words)).rows rules (refl, (refl, (refl, tt)))

-- ---- the line of the words

no_rows : HasRows [] (plain_line [])
no_rows = record {
  plain = refl;
  limits = refl;
  orders = refl;
  has_limit = refl;
  has_order = refl;
  single = record { limits = omega arith; orders = omega arith };
}

ends : (words : List Text) → AreTexts words → length words ≤ usize_max → Ends (plain_line []) (loose_from None words) start words
ends words texts most = (both_end words texts).0 false [] None (plain_line []) (omega arith) (all refl no_rows)

-- a parse without a fault reads a line
pub record ReadsLine (words : List Text) (rows : List Row) : Type 0 where
  pub line : Line
  pub is : loose_from None words ≡ Some line
  pub has : HasRows rows line

pub reads_line : (words : List Text) → AreTexts words → length words ≤ usize_max → fault_of app words ≡ [] → ReadsLine words (matches_of app words)
reads_line words texts most h = go (loose_from None words) refl (ends words texts most)
  where
    go : (o : Option Line) → loose_from None words ≡ o → Ends (plain_line []) o start words → ReadsLine words (matches_of app words)
    go None e bad = absurd (bad (no_fault_from words h))
    go (Some l) e (inl p) = record { line = l; is = e; has = subst (λ rows. HasRows rows l) (sym (rows_are words)) p.1 }
    go (Some l) e (inr bad) = absurd (bad.0 (no_fault_from words h))

-- where a parse has a fault, there is no request
pub no_request : (words : List Text) → AreTexts words → length words ≤ usize_max → (fault_of app words ≡ [] → ⊥) → request_of words ≡ None
no_request words texts most bad = request_of-loose words ∙ go (loose_from None words) (ends words texts most)
  where
    go : (o : Option Line) → Ends (plain_line []) o start words → option_and_then line_request o ≡ None
    go None h = refl
    go (Some l) (inl p) = absurd (bad (no_fault words p.0))
    go (Some l) (inr twice) = none_of_line l (none_of_twice l twice.1)

-- ---- what the code reads of the matches

pub strings_are_texts : {Z : Type 0} (words : List (String Z)) → AreTexts (map string_bytes words)
strings_are_texts [] = tt
strings_are_texts (word ∷ words) = (IsUtf8-string_bytes word, strings_are_texts words)

at_most_one : (vs : List Text) → length vs ≤ 1 → option_to_list (slice_get vs 0) ≡ vs
at_most_one [] h = refl
at_most_one (v ∷ []) h = refl
at_most_one (a ∷ b ∷ rest) h = absurd (omega arith)

module _ (f : Found) (l : Line) (has : HasRows (rows_of f) l) where
  pub limits_are : (o : Option Text) → o ≡ first_value f (codes "limit") → option_to_list o ≡ l.limits
  limits_are o e =
      ap option_to_list (e ∙ first_value-rows f (codes "limit") ∙ first_of-values_at (codes "limit") (rows_of f) ∙ ap (λ vs. slice_get vs 0) has.limits)
      ∙ at_most_one l.limits has.single.limits

  pub orders_are : (o : Option Text) → o ≡ first_value f (codes "order") → option_to_list o ≡ l.orders
  orders_are o e =
      ap option_to_list (e ∙ first_value-rows f (codes "order") ∙ first_of-values_at (codes "order") (rows_of f) ∙ ap (λ vs. slice_get vs 0) has.orders)
      ∙ at_most_one l.orders has.single.orders

  pub plain_is : (o : Option (List Text)) → o ≡ option_map raw_values (matched_of f words_id) → listed o ≡ l.plain
  plain_is o e = ap listed (e ∙ raw_values-rows f words_id) ∙ all_of-values_at words_id (rows_of f) ∙ has.plain

-- an error of another kind than want of memory has a fault
pub has_fault : (kinds : Kinds) (e : Error) → HasKind kinds e → (kind_of e ≡ OutOfMemory → ⊥) → kinds ≡ [] → ⊥
has_fault [] e (inl memory) other none = other memory
has_fault [] e (inr among) other none = among
has_fault (k ∷ ks) e h other none = cc
