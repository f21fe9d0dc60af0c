-- Lines where the value of an option may be a lone dash, as the parser takes it: they have the same requests.
use Rattle.std.proofs.Common.{◌≡◌, ◌∙◌, ◌≤◌, Bool, true, false, ◌||◌, refl, sym, ap, subst, arith, List, [], ◌∷◌, length, Option, Some, None, ◌⊎◌, inl, inr}
use Rattle.std.specs.Prelude.{◌==◌, option_map, option_and_then, if◌then◌else◌}
use Rattle.std.specs.List.{list_any, before_first}
use Rattle.std.specs.Str.{bytes_eq}
use Rattle.std.proofs.lemmas.Slice.Eq.{bytes_eq-Decides}
use Rattle.vc_command.specs.Lines.{Text, Line, Name, limit, order, Word, plain, option, valued, other, word_of, is_end, is_equals, name_of, with_text, begins_with_dash, line_from, plain_line, with_plain, with_value, with_word}
use Rattle.vc_command.specs.Requests.{command_of, command_request, line_request, words_request, request_of}
use Rattle.vc_command.proofs.Uses.{IsSingle}
use Rattle.vc_command.specs.declared.command.Command.{Command}
use Rattle.vc_command.specs.declared.command.Command.TheVariants as command

abbrev pub own_value : Word → Option Line → Option Line
own_value plain rest = rest
own_value word rest = None

unfoldable pub loose_from : Option Name → List Text → Option Line
loose_from None [] = Some (plain_line [])
loose_from (Some name) [] = None
loose_from (Some name) (value ∷ words) = option_map (with_value name value) (own_value (word_of value) (loose_from None words))
loose_from None (word ∷ words) =
    if is_end word then Some (plain_line words)
    else with_word (word_of word) word (loose_from None words) (λ name. loose_from (Some name) words)

-- ---- a lone dash as a value

abbrev pub lone_dash : Text
lone_dash = 45 ∷ []

abbrev pub has_dash : List Text → Bool
has_dash = list_any (λ v. bytes_eq v lone_dash)

abbrev pub dashed : Line → Bool
dashed l = has_dash l.limits || has_dash l.orders

or_true : (a b : Bool) → b ≡ true → (a || b) ≡ true
or_true true b e = refl
or_true false b e = e

dashed-with_value : (name : Name) (v : Text) (l : Line) → dashed l ≡ true → dashed (with_value name v l) ≡ true
dashed-with_value limit v l e = go (bytes_eq v lone_dash) refl
  where
    go : (b : Bool) → bytes_eq v lone_dash ≡ b → dashed (with_value limit v l) ≡ true
    go true t = rw t refl
    go false t = rw t e
dashed-with_value order v l e = go (bytes_eq v lone_dash) (has_dash l.limits) refl refl
  where
    go : (b c : Bool) → bytes_eq v lone_dash ≡ b → has_dash l.limits ≡ c → dashed (with_value order v l) ≡ true
    go b true t s = rw s refl
    go true false t s = rw (s, t) refl
    go false false t s = let rest = rw s at e in rw (s, t) rest

dashed-new : (name : Name) (v : Text) (l : Line) → bytes_eq v lone_dash ≡ true → dashed (with_value name v l) ≡ true
dashed-new limit v l e = rw e refl
dashed-new order v l e = or_true (has_dash l.limits) _ (rw e refl)

-- what stands behind two dashes is no plain word
never_plain : (o : Option Name) (text : Text) (r : Option Line) → own_value (with_text o text) r ≡ None
never_plain None text r = refl
never_plain (Some name) text r = go (list_any is_equals text) refl
  where
    go : (b : Bool) → list_any is_equals text ≡ b → own_value (with_text (Some name) text) r ≡ None
    go true e = rw e refl
    go false e = rw e refl

-- the two readings agree; or the rule refuses, and any line of the other has a lone dash
abbrev pub IsDashed : Option Line → Type 0
IsDashed None = Unit {0}
IsDashed (Some l) = dashed l ≡ true

abbrev pub Agree : Option Line → Option Line → Type 0
Agree strict loose = (strict ≡ loose) ⊎ ((strict ≡ None) × IsDashed loose)

agree_plain : (word : Text) (a b : Option Line) → Agree a b → Agree (option_map (with_plain word) a) (option_map (with_plain word) b)
agree_plain word a b (inl e) = inl (ap (option_map (with_plain word)) e)
agree_plain word a None (inr (e, d)) = inr (ap (option_map (with_plain word)) e, tt)
agree_plain word a (Some l) (inr (e, d)) = inr (ap (option_map (with_plain word)) e, d)

agree_value : (name : Name) (v : Text) (a b : Option Line) → Agree a b → Agree (option_map (with_value name v) a) (option_map (with_value name v) b)
agree_value name v a b (inl e) = inl (ap (option_map (with_value name v)) e)
agree_value name v a None (inr (e, d)) = inr (ap (option_map (with_value name v)) e, tt)
agree_value name v a (Some l) (inr (e, d)) = inr (ap (option_map (with_value name v)) e, dashed-with_value name v l d)

agree_dash : (name : Name) (v : Text) (b : Option Line) → bytes_eq v lone_dash ≡ true → IsDashed (option_map (with_value name v) b)
agree_dash name v None e = tt
agree_dash name v (Some l) e = dashed-new name v l e

-- a value of its own
no_value : (name : Name) (v : Text) (a b : Option Line) → begins_with_dash v ≡ true → IsDashed (option_map (with_value name v) (own_value (word_of v) b))
    → Agree (if begins_with_dash v then None else option_map (with_value name v) a) (option_map (with_value name v) (own_value (word_of v) b))
no_value name v a b e d = inr (rw e refl, d)

some_value : (name : Name) (v : Text) (a b : Option Line) → begins_with_dash v ≡ false → word_of v ≡ plain → Agree a b
    → Agree (if begins_with_dash v then None else option_map (with_value name v) a) (option_map (with_value name v) (own_value (word_of v) b))
some_value name v a b e f h = rw (e, f) (agree_value name v a b h)

agree_own : (name : Name) (v : Text) (a b : Option Line) → Agree a b
    → Agree (if begins_with_dash v then None else option_map (with_value name v) a) (option_map (with_value name v) (own_value (word_of v) b))
agree_own name [] a b h = agree_value name [] a b h
agree_own name (x ∷ []) a b h = go (x == 45) refl
  where
    go : (t : Bool) → (x == 45) ≡ t
        → Agree (if begins_with_dash (x ∷ []) then None else option_map (with_value name (x ∷ [])) a) (option_map (with_value name (x ∷ [])) (own_value (word_of (x ∷ [])) b))
    go true e = no_value name (x ∷ []) a b e (agree_dash name (x ∷ []) b (rw e refl))
    go false e = some_value name (x ∷ []) a b e refl h
agree_own name (x ∷ y ∷ v) a b h = go (x == 45) (y == 45) refl refl
  where
    go : (s t : Bool) → (x == 45) ≡ s → (y == 45) ≡ t
        → Agree (if begins_with_dash (x ∷ y ∷ v) then None else option_map (with_value name (x ∷ y ∷ v)) a) (option_map (with_value name (x ∷ y ∷ v)) (own_value (word_of (x ∷ y ∷ v)) b))
    go false t e f = some_value name (x ∷ y ∷ v) a b e (rw e refl) h
    go true false e f = no_value name (x ∷ y ∷ v) a b e (rw (e, f) tt)
    go true true e f = no_value name (x ∷ y ∷ v) a b e (rw (e, f, never_plain (name_of (before_first is_equals v)) v b) tt)

pub agree : (waiting : Option Name) (ws : List Text) → Agree (line_from waiting ws) (loose_from waiting ws)
unfolding line_from loose_from
agree None [] = inl refl
agree (Some name) [] = inl refl
agree (Some name) (value ∷ words) = agree_own name value _ _ (agree None words)
agree None (word ∷ words) = go (is_end word) (word_of word) refl refl (agree None words) (λ name. agree (Some name) words)
  where
    go : (b : Bool) (w : Word) → is_end word ≡ b → word_of word ≡ w → Agree (line_from None words) (loose_from None words)
        → ((name : Name) → Agree (line_from (Some name) words) (loose_from (Some name) words)) → Agree (line_from None (word ∷ words)) (loose_from None (word ∷ words))
    go true w e f h n = rw e (inl refl)
    go false plain e f h n = rw (e, f) (agree_plain word _ _ h)
    go false (option name) e f h n = rw (e, f) (n name)
    go false (valued name v) e f h n = rw (e, f) (agree_value name v _ _ h)
    go false other e f h n = rw (e, f) (inl refl)

-- ---- no request

-- a line with an option twice, or with a lone dash as a value, has no request
pub data HasNone (limits orders : List Text) : Type 0 where
  limit_twice : (a b : Text) (rest : List Text) → limits ≡ a ∷ b ∷ rest → HasNone limits orders
  order_twice : (a b : Text) (rest : List Text) → orders ≡ a ∷ b ∷ rest → HasNone limits orders
  limit_dash : limits ≡ lone_dash ∷ [] → HasNone limits orders
  order_dash : orders ≡ lone_dash ∷ [] → HasNone limits orders

twice_limit : (c : Command) (words : List Text) (a b : Text) (rest orders : List Text) → command_request c words (a ∷ b ∷ rest) orders ≡ None
twice_limit (command.Fixed f) words a b rest orders = refl
twice_limit (command.Limited f) words a b rest orders = refl
twice_limit command.ToExpression words a b rest orders = refl

twice_order : (c : Command) (words limits : List Text) (a b : Text) (rest : List Text) → command_request c words limits (a ∷ b ∷ rest) ≡ None
twice_order (command.Fixed f) words [] a b rest = refl
twice_order (command.Fixed f) words (x ∷ xs) a b rest = refl
twice_order (command.Limited f) words [] a b rest = refl
twice_order (command.Limited f) words (x ∷ []) a b rest = refl
twice_order (command.Limited f) words (x ∷ y ∷ xs) a b rest = refl
twice_order command.ToExpression words [] a b rest = refl
twice_order command.ToExpression words (x ∷ xs) a b rest = refl

dash_limit : (c : Command) (words orders : List Text) → command_request c words (lone_dash ∷ []) orders ≡ None
dash_limit (command.Fixed f) words orders = refl
dash_limit (command.Limited f) words [] = refl
dash_limit (command.Limited f) words (x ∷ xs) = refl
dash_limit command.ToExpression words orders = refl

dash_order : (c : Command) (words limits : List Text) → command_request c words limits (lone_dash ∷ []) ≡ None
dash_order (command.Fixed f) words [] = refl
dash_order (command.Fixed f) words (x ∷ xs) = refl
dash_order (command.Limited f) words [] = refl
dash_order (command.Limited f) words (x ∷ []) = refl
dash_order (command.Limited f) words (x ∷ y ∷ xs) = refl
dash_order command.ToExpression words [] = refl
dash_order command.ToExpression words (x ∷ xs) = refl

none_of_command : (c : Command) (words limits orders : List Text) → HasNone limits orders → command_request c words limits orders ≡ None
none_of_command c words limits orders (limit_twice a b rest e) = subst (λ xs. command_request c words xs orders ≡ None) (sym e) (twice_limit c words a b rest orders)
none_of_command c words limits orders (order_twice a b rest e) = subst (λ xs. command_request c words limits xs ≡ None) (sym e) (twice_order c words limits a b rest)
none_of_command c words limits orders (limit_dash e) = subst (λ xs. command_request c words xs orders ≡ None) (sym e) (dash_limit c words orders)
none_of_command c words limits orders (order_dash e) = subst (λ xs. command_request c words limits xs ≡ None) (sym e) (dash_order c words limits)

pub none_of_line : (l : Line) → HasNone l.limits l.orders → line_request l ≡ None
none_of_line l h = go l.plain
  where
    go : (words : List Text) → words_request words l.limits l.orders ≡ None
    go [] = refl
    go (name ∷ words) = at_command (command_of name)
      where
        at_command : (o : Option Command) → option_and_then (λ c. command_request c words l.limits l.orders) o ≡ None
        at_command None = refl
        at_command (Some c) = none_of_command c words l.limits l.orders h

dash_of : (v : Text) → (bytes_eq v lone_dash || false) ≡ true → v ∷ [] ≡ lone_dash ∷ []
dash_of v e = go (bytes_eq v lone_dash) refl e
  where
    go : (b : Bool) → bytes_eq v lone_dash ≡ b → (b || false) ≡ true → v ∷ [] ≡ lone_dash ∷ []
    go true f h = ap (λ x. x ∷ []) ((bytes_eq-Decides v lone_dash).0 f)
    go false f h = cc

none_of_limits : (limits orders : List Text) → has_dash limits ≡ true → HasNone limits orders
none_of_limits [] orders e = cc
none_of_limits (v ∷ []) orders e = limit_dash (dash_of v e)
none_of_limits (a ∷ b ∷ rest) orders e = limit_twice a b rest refl

none_of_orders : (limits orders : List Text) → has_dash orders ≡ true → HasNone limits orders
none_of_orders limits [] e = cc
none_of_orders limits (v ∷ []) e = order_dash (dash_of v e)
none_of_orders limits (a ∷ b ∷ rest) e = order_twice a b rest refl

pub none_of_dashed : (l : Line) → dashed l ≡ true → HasNone l.limits l.orders
none_of_dashed l e = go (has_dash l.limits) refl e
  where
    go : (b : Bool) → has_dash l.limits ≡ b → (b || has_dash l.orders) ≡ true → HasNone l.limits l.orders
    go true f h = none_of_limits l.limits l.orders f
    go false f h = none_of_orders l.limits l.orders h

none_of_lists : (limits orders : List Text) → (length limits ≤ 1 → length orders ≤ 1 → ⊥) → HasNone limits orders
none_of_lists (a ∷ b ∷ rest) orders h = limit_twice a b rest refl
none_of_lists limits (a ∷ b ∷ rest) h = order_twice a b rest refl
none_of_lists [] [] h = absurd (h (omega arith) (omega arith))
none_of_lists [] (o ∷ []) h = absurd (h (omega arith) (omega arith))
none_of_lists (l ∷ []) [] h = absurd (h (omega arith) (omega arith))
none_of_lists (l ∷ []) (o ∷ []) h = absurd (h (omega arith) (omega arith))

pub none_of_twice : (l : Line) → (IsSingle l → ⊥) → HasNone l.limits l.orders
none_of_twice l h = none_of_lists l.limits l.orders (λ a b. h (record { limits = a; orders = b }))

-- the request of words, by the parser's reading of them
pub request_of-loose : (words : List Text) → request_of words ≡ option_and_then line_request (loose_from None words)
unfolding request_of
request_of-loose words = go (line_from None words) (loose_from None words) (agree None words)
  where
    go : (a b : Option Line) → Agree a b → option_and_then line_request a ≡ option_and_then line_request b
    go a b (inl e) = ap (option_and_then line_request) e
    go a None (inr (e, d)) = ap (option_and_then line_request) e
    go a (Some l) (inr (e, d)) = ap (option_and_then line_request) e ∙ sym (none_of_line l (none_of_dashed l d))
