-- Words have a line exactly where they spell it.
use Rattle.std.proofs.Common.{◌≡◌, ◌∙◌, ◌+◌, ℕ, Bool, true, false, refl, sym, ap, ap₂, subst, arith, suc, List, [], ◌∷◌, ◌++◌, Option, Some, None, inl, inr, ◌||◌}
use Rattle.std.specs.Prelude.{codes, option_map, ◌==◌, if◌then◌else◌}
use Rattle.std.specs.List.{list_any, before_first, after_first, position_or_len}
use Rattle.std.specs.Str.{bytes_eq}
use Rattle.std.proofs.lemmas.Bool.{eqb-true}
use Rattle.std.proofs.lemmas.Slice.Eq.{bytes_eq-Decides}
use Rattle.vc_command.specs.Lines.{Text, Line, Name, limit, order, Word, plain, option, valued, other, word_of, option_of, with_text, is_equals, is_end, begins_with_dash, line_from, line_of, plain_line, with_plain, with_value, with_word}
use Rattle.vc_command.specs.Spelling.{Part, plain_word, given, option_word, is_dashed, SpellsPart, SpellsParts, with_part, line_of_parts, SpellsLine}

-- ---- each line that is spelled is read

record IsPlain (text : Text) : Type 0 where
  end : is_end text ≡ false
  word : word_of text ≡ plain

plain_of : (word : Text) → is_dashed word ≡ false → IsPlain word
plain_of [] e = record { end = refl; word = refl }
plain_of (x ∷ []) e = go (x == 45) refl
  where
    go : (b : Bool) → (x == 45) ≡ b → IsPlain (x ∷ [])
    go true f = record { end = rw f refl; word = refl }
    go false f = record { end = rw f refl; word = refl }
plain_of (x ∷ y ∷ text) e = record { end = rw e refl; word = rw e refl }

read_plain : (word : Text) (rest : List Text) (l : Line) → is_dashed word ≡ false → line_of rest ≡ Some l → line_of (word ∷ rest) ≡ Some (with_plain word l)
unfolding line_from
read_plain word rest l e h = let p = plain_of word e in rw (p.end, p.word, h) refl

read_valued : (name : Name) (value : Text) (rest : List Text) (l : Line) → line_of rest ≡ Some l
    → line_of ((option_word name ++ 61 ∷ value) ∷ rest) ≡ Some (with_value name value l)
unfolding line_from
read_valued limit value rest l h = rw h refl
read_valued order value rest l h = rw h refl

read_option : (name : Name) (value : Text) (rest : List Text) (l : Line) → begins_with_dash value ≡ false → line_of rest ≡ Some l
    → line_of (option_word name ∷ value ∷ rest) ≡ Some (with_value name value l)
unfolding line_from
read_option limit value rest l e h = rw (e, h) refl
read_option order value rest l e h = rw (e, h) refl

read_part : (part : Part) (own rest : List Text) (l : Line) → SpellsPart part own → line_of rest ≡ Some l → line_of (own ++ rest) ≡ Some (with_part part l)
read_part (plain_word word) own rest l (is, e) h = rw is (read_plain word rest l e h)
read_part (given name value) own rest l (inl is) h = rw is (read_valued name value rest l h)
read_part (given name value) own rest l (inr (is, e)) h = rw is (read_option name value rest l e h)

read_parts : (parts : List Part) (back words : List Text) → SpellsParts parts back words → line_of words ≡ Some (line_of_parts parts back)
unfolding line_from
read_parts [] back words (inl (none, empty)) = rw (none, empty) refl
read_parts [] back words (inr is) = rw is refl
read_parts (part ∷ parts) back words (own, rest, is, spells, more) = rw is (read_part part own rest _ spells (read_parts parts back rest more))

pub read : (words : List Text) (line : Line) → SpellsLine line words → line_of words ≡ Some line
read words line s = read_parts s.parts s.back words s.spells ∙ ap Some (sym s.is)

-- ---- each line that is read is spelled

equals_is : (x : ℕ) → is_equals x ≡ true → x ≡ 61
equals_is x e = eqb-true x 61 e

first : (n : ℕ) → 1 + n ≡ suc n
first n = omega arith

behind : (n : ℕ) → suc n + 1 ≡ suc (n + 1)
behind n = omega arith

-- a text with `=`, and one without
has_equals : (text : Text) → list_any is_equals text ≡ true → text ≡ before_first is_equals text ++ 61 ∷ after_first is_equals text
has_equals [] e = cc
has_equals (x ∷ text) e = go (is_equals x) refl e (has_equals text)
  where
    go : (b : Bool) → is_equals x ≡ b → (b || list_any is_equals text) ≡ true
        → (list_any is_equals text ≡ true → text ≡ before_first is_equals text ++ 61 ∷ after_first is_equals text)
        → x ∷ text ≡ before_first is_equals (x ∷ text) ++ 61 ∷ after_first is_equals (x ∷ text)
    go true f h more = rw f (ap (λ y. y ∷ text) (equals_is x f))
    go false f h more = rw (f, first (position_or_len is_equals text), behind (position_or_len is_equals text)) (ap (λ t. x ∷ t) (more h))

no_equals : (text : Text) → list_any is_equals text ≡ false → before_first is_equals text ≡ text
no_equals [] e = refl
no_equals (x ∷ text) e = go (is_equals x) refl e (no_equals text)
  where
    go : (b : Bool) → is_equals x ≡ b → (b || list_any is_equals text) ≡ false → (list_any is_equals text ≡ false → before_first is_equals text ≡ text)
        → before_first is_equals (x ∷ text) ≡ x ∷ text
    go true f h more = cc
    go false f h more = rw (f, first (position_or_len is_equals text)) (ap (λ t. x ∷ t) (more h))

-- what a word is where it is so read
abbrev IsRead : Text → Word → Type 0
IsRead word plain = is_dashed word ≡ false
IsRead word (option name) = word ≡ option_word name
IsRead word (valued name value) = word ≡ option_word name ++ 61 ∷ value
IsRead word other = Unit {0}

abbrev name_text : Name → Text
name_text limit = codes "limit"
name_text order = codes "order"

dashes : (name : Name) (rest : Text) → 45 ∷ 45 ∷ (name_text name ++ rest) ≡ option_word name ++ rest
dashes limit rest = refl
dashes order rest = refl

dashes-nil : (name : Name) → 45 ∷ 45 ∷ name_text name ≡ option_word name
dashes-nil limit = refl
dashes-nil order = refl

named : (text : Text) (name : Name) → before_first is_equals text ≡ name_text name → IsRead (45 ∷ 45 ∷ text) (with_text (Some name) text)
named text name e = go (list_any is_equals text) refl
  where
    go : (b : Bool) → list_any is_equals text ≡ b → IsRead (45 ∷ 45 ∷ text) (with_text (Some name) text)
    go true f = rw f (ap (λ t. 45 ∷ 45 ∷ t) (has_equals text f ∙ ap (λ t. t ++ 61 ∷ after_first is_equals text) e) ∙ dashes name (61 ∷ after_first is_equals text))
    go false f = rw f (ap (λ t. 45 ∷ 45 ∷ t) (sym (no_equals text f) ∙ e) ∙ dashes-nil name)

dashed : (text : Text) → IsRead (45 ∷ 45 ∷ text) (option_of text)
dashed text = go (bytes_eq (before_first is_equals text) (codes "limit")) (bytes_eq (before_first is_equals text) (codes "order")) refl refl
  where
    go : (a b : Bool) → bytes_eq (before_first is_equals text) (codes "limit") ≡ a → bytes_eq (before_first is_equals text) (codes "order") ≡ b
        → IsRead (45 ∷ 45 ∷ text) (option_of text)
    go true b p q = rw p (named text limit ((bytes_eq-Decides (before_first is_equals text) (codes "limit")).0 p))
    go false true p q = rw (p, q) (named text order ((bytes_eq-Decides (before_first is_equals text) (codes "order")).0 q))
    go false false p q = rw (p, q) tt

word_is : (word : Text) → IsRead word (word_of word)
word_is [] = refl
word_is (x ∷ []) = refl
word_is (x ∷ y ∷ text) = go (x == 45) (y == 45) refl refl
  where
    go : (a b : Bool) → (x == 45) ≡ a → (y == 45) ≡ b → IsRead (x ∷ y ∷ text) (word_of (x ∷ y ∷ text))
    go false b e f = rw e e
    go true false e f = rw (e, f) tt
    go true true e f =
        let x_is = eqb-true x 45 e in
        let y_is = eqb-true y 45 f in
        rw (e, f) (subst (λ a. IsRead (a ∷ y ∷ text) (option_of text)) (sym x_is) (subst (λ a. IsRead (45 ∷ a ∷ text) (option_of text)) (sym y_is) (dashed text)))

-- one more part
more_part : (part : Part) (own rest : List Text) (l : Line) → SpellsPart part own → SpellsLine l rest → SpellsLine (with_part part l) (own ++ rest)
more_part part own rest l spells s = record {
  parts = part ∷ s.parts;
  back = s.back;
  spells = (own, rest, refl, spells, s.spells);
  is = ap (with_part part) s.is;
}

-- the line of the words behind an option that waits
record Waits (name : Name) (line : Line) (words : List Text) : Type 0 where
  value : Text
  rest : List Text
  behind : Line
  words_are : words ≡ value ∷ rest
  no_dash : begins_with_dash value ≡ false
  line_is : line ≡ with_value name value behind
  spells : SpellsLine behind rest

abbrev Spelled : List Text → Type 0
Spelled words = ((line : Line) → line_from None words ≡ Some line → SpellsLine line words)
    × ((name : Name) (line : Line) → line_from (Some name) words ≡ Some line → Waits name line words)

some_of : {X Y : Type 0} (f : X → Y) (o : Option X) (y : Y) → option_map f o ≡ Some y → (x : X) × (o ≡ Some x) × (y ≡ f x)
some_of f None y e = cc
some_of f (Some x) y e = (x, refl, cc)

waits_more : (word : Text) (words : List Text) → Spelled words → (name : Name) (line : Line) → line_from (Some name) (word ∷ words) ≡ Some line
    → Waits name line (word ∷ words)
unfolding line_from
waits_more word words more name line e = go (begins_with_dash word) refl e
  where
    go : (b : Bool) → begins_with_dash word ≡ b → (if b then None else option_map (with_value name word) (line_from None words)) ≡ Some line
        → Waits name line (word ∷ words)
    go true f h = cc
    go false f h =
        let some = some_of (with_value name word) (line_from None words) line h in
        record { value = word; rest = words; behind = some.0; words_are = refl; no_dash = f; line_is = some.2; spells = more.0 some.0 some.1 }

word_more : (word : Text) (words : List Text) → Spelled words → (w : Word) → IsRead word w → (line : Line)
    → with_word w word (line_from None words) (λ name. line_from (Some name) words) ≡ Some line → SpellsLine line (word ∷ words)
word_more word words more plain is line e =
    let some = some_of (with_plain word) (line_from None words) line e in
    subst (λ l. SpellsLine l (word ∷ words)) (sym some.2) (more_part (plain_word word) (word ∷ []) words some.0 (refl, is) (more.0 some.0 some.1))
word_more word words more (option name) is line e =
    let waits = more.1 name line e in
    subst (λ l. SpellsLine l (word ∷ words)) (sym waits.line_is)
    (subst (SpellsLine (with_value name waits.value waits.behind)) (sym (ap₂ (λ w ws. w ∷ ws) is waits.words_are))
    (more_part (given name waits.value) (option_word name ∷ waits.value ∷ []) waits.rest waits.behind (inr (refl, waits.no_dash)) waits.spells))
word_more word words more (valued name value) is line e =
    let some = some_of (with_value name value) (line_from None words) line e in
    subst (λ l. SpellsLine l (word ∷ words)) (sym some.2)
    (subst (λ w. SpellsLine (with_value name value some.0) (w ∷ words)) (sym is)
    (more_part (given name value) ((option_word name ++ 61 ∷ value) ∷ []) words some.0 (inl refl) (more.0 some.0 some.1)))
word_more word words more other is line e = cc

open_more : (word : Text) (words : List Text) → Spelled words → (line : Line) → line_from None (word ∷ words) ≡ Some line → SpellsLine line (word ∷ words)
unfolding line_from
open_more word words more line e = go (is_end word) refl e
  where
    go : (b : Bool) → is_end word ≡ b → (if b then Some (plain_line words) else with_word (word_of word) word (line_from None words) (λ name. line_from (Some name) words)) ≡ Some line
        → SpellsLine line (word ∷ words)
    go true f h = record { parts = []; back = words; spells = inr (ap (λ w. w ∷ words) ((bytes_eq-Decides word (codes "--")).0 f)); is = cc }
    go false f h = word_more word words more (word_of word) (word_is word) line h

all_spelled : (words : List Text) → Spelled words
unfolding line_from
all_spelled [] = (λ line e. record { parts = []; back = []; spells = inl (refl, refl); is = cc }, λ name line e. cc)
all_spelled (word ∷ words) = let more = all_spelled words in (open_more word words more, waits_more word words more)

pub spelled : (words : List Text) (line : Line) → line_of words ≡ Some line → SpellsLine line words
spelled words = (all_spelled words).0
