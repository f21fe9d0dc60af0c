-- Items one behind another, their letters, and the mark that closes them.
use Rattle.std.proofs.Common.{◌≡◌, ℕ, zero, suc, ◌+◌, ◌<◌, ◌≤◌, Bool, true, false, ◌&&◌, ◌||◌, ◌⊎◌, ◌↔◌, List, [], ◌∷◌, ◌++◌, length, drop, Option, Some, None, refl, ap, sym, ◌∙◌, subst, append_assoc, length-append, inl, inr, arith, IsTrue}
use Rattle.std.proofs.lemmas.Bool.Decides.{nat_tests}
use Rattle.std.proofs.lemmas.Grind.{common_steps}
use Rattle.std.proofs.lemmas.List.Elements.{filter_agree}
use Rattle.std.specs.Option.{option_map, option_map_or}
use Rattle.std.specs.Prelude.{if◌then◌else◌, ◌==◌, nat_le}
use Rattle.vc_context.specs.Reading.{Front, ◌>>=◌, after, closed, item_behind, item_front, items_by, items_front, letters_in, letters_until}
use Rattle.vc_context.specs.Spelling.{SpellsAlphabet}
use Rattle.vc_context.specs.Spelling.{Range, SpellsItem, SpellsItems, is_between, is_named}
use Rattle.vc_text.specs.Blanks.{after_blanks, AreBlanks, is_blank}
use Rattle.vc_context.proofs.Fronts.{Begins, both_true, skip_blanks, skip_other, blanks_before, after_sound, after_read}
use Rattle.vc_context.proofs.Items.{NoDash, item_read, item_sound}
use Rattle.vc_text.specs.LetterLaws.{spelled_is_letter}
use Rattle.vc_context.proofs.Steps.{map_some, map_is, found, found_is}
use Rattle.vc_label.specs.Alphabets.{has_letter, letters_of}
use Rattle.vc_label.specs.Letters.{is_letter}
use Rattle.vc_label.specs.declared.alphabet.Alphabet.{Alphabet}
use Rattle.vc_text.specs.Letters.{SpellsLetter, is_plain, is_escaped, letter_in}
use Rattle.vc_text.specs.declared.letters.LetterAt.{LetterAt}
use Rattle.vc_model.specs.Lists.{In, up_from}
use Rattle.vc_model.specs.Members.{In-filter, In-filter_from, up_from-In}

-- ---- bytes that stop items

-- a byte that begins no item and goes on with none
pub record Stops (c : ℕ) : Type 0 where
  pub plain : is_plain c ≡ false
  pub slash : (c == 92) ≡ false
  pub dash : (c == 45) ≡ false

-- a byte that stops items and is no blank, as the marks are that close them
pub record Closes (c : ℕ) : Type 0 where
  pub stops : Stops c
  pub solid : is_blank c ≡ false

which_blank : (c : ℕ) → is_blank c ≡ true → (c ≡ 32) ⊎ (c ≡ 9)
which_blank c e = grind (arith, common_steps, nat_tests)

space_stops : Stops 32
unfolding is_plain
space_stops = record { plain = refl; slash = refl; dash = refl }

tab_stops : Stops 9
unfolding is_plain
tab_stops = record { plain = refl; slash = refl; dash = refl }

pub parenthesis_closes : Closes 41
unfolding is_plain
parenthesis_closes = record { stops = record { plain = refl; slash = refl; dash = refl }; solid = refl }

pub bracket_closes : Closes 93
unfolding is_plain
bracket_closes = record { stops = record { plain = refl; slash = refl; dash = refl }; solid = refl }

pub blank_stops : (c : ℕ) → is_blank c ≡ true → Stops c
blank_stops c e = one (which_blank c e)
  where
    one : (c ≡ 32) ⊎ (c ≡ 9) → Stops c
    one (inl same) = subst Stops (sym same) space_stops
    one (inr same) = subst Stops (sym same) tab_stops

-- a letter that was read from a text
abbrev seen : List ℕ → LetterAt → ℕ × List ℕ
seen s l = (l.letter, drop l.after s)

no_letter : (c : ℕ) (t : List ℕ) → Stops c → letter_in 0 (c ∷ t) ≡ None
no_letter c [] stops = ap (λ b. if b then Some (record { letter = c; after = 0 + 1 }) else None) stops.plain
no_letter c (y ∷ t) stops =
    ap (λ b. if b then Some (record { letter = c; after = 0 + 1 }) else (if c == 92 && is_escaped y then Some (record { letter = y; after = 0 + 2 }) else None)) stops.plain
    ∙ ap (λ b. if b && is_escaped y then Some (record { letter = y; after = 0 + 2 }) else None) stops.slash

-- whether a text begins with a byte that stops items
abbrev pub Stopped : List ℕ → Type 0
Stopped [] = ⊥
Stopped (c ∷ t) = Stops c

no_item : (t : List ℕ) → Stopped t → item_front t ≡ None
no_item [] stops = absurd stops
no_item (c ∷ t) stops =
    ap (λ (o : Option LetterAt). option_map (seen (c ∷ t)) o >>= (λ l. item_behind l.0 l.1)) (no_letter c t stops)

no_dash : (t : List ℕ) → Stopped t → NoDash t
no_dash [] stops = tt
no_dash (c ∷ t) stops = stops.dash

-- ---- items one behind another

plain_is_solid : (x : ℕ) → is_plain x ≡ true → is_blank x ≡ false
unfolding is_plain
plain_is_solid x e = grind (arith, common_steps, nat_tests)

plain_is_no_dash : (x : ℕ) → is_plain x ≡ true → (x == 45) ≡ false
unfolding is_plain
plain_is_no_dash x e = grind (arith, common_steps, nat_tests)

-- the text begins with a byte that is no blank and no `-`
abbrev Solid : List ℕ → Type 0
Solid text = (c : ℕ) × (tail : List ℕ) × (text ≡ c ∷ tail) × (is_blank c ≡ false) × ((c == 45) ≡ false)

letter_solid : (text : List ℕ) (x : ℕ) → SpellsLetter text x → Solid text
letter_solid text x (inl spelled) = (x, [], spelled.1, plain_is_solid x spelled.0, plain_is_no_dash x spelled.0)
letter_solid text x (inr spelled) = (92, x ∷ [], spelled.1, refl, refl)

solid_more : (first behind : List ℕ) → Solid first → Solid (first ++ behind)
solid_more first behind (c, tail, text, solid, dash) = (c, tail ++ behind, ap (λ t. t ++ behind) text, solid, dash)

item_solid : (text : List ℕ) (r : Range) → SpellsItem text r → Solid text
item_solid text r (inl spelled) = letter_solid text r.first spelled.0
item_solid text r (inr (first, last, e, is_first, is_last, below)) = subst Solid (sym e) (solid_more first (45 ∷ last) (letter_solid first r.first is_first))

solid_no_dash : (text rest : List ℕ) → Solid text → NoDash (text ++ rest)
solid_no_dash text rest (c, tail, e, solid, dash) = subst (λ (t : List ℕ). NoDash (t ++ rest)) (sym e) dash

solid_skip : (text rest : List ℕ) → Solid text → after_blanks (text ++ rest) ≡ text ++ rest
solid_skip text rest (c, tail, e, solid, dash) = subst (λ (t : List ℕ). after_blanks (t ++ rest) ≡ t ++ rest) (sym e) (skip_other c (tail ++ rest) solid)

solid_long : (text : List ℕ) → Solid text → 1 ≤ length text
solid_long text (c, tail, e, solid, dash) = subst (λ (t : List ℕ). 1 ≤ length t) (sym e) (omega arith)

pub item_long : (text : List ℕ) (r : Range) → SpellsItem text r → 1 ≤ length text
item_long text r is = solid_long text (item_solid text r is)

items_no_dash : (ranges : List Range) (text rest : List ℕ) → SpellsItems text ranges → NoDash rest → NoDash (text ++ rest)
items_no_dash [] text rest e free = subst (λ (t : List ℕ). NoDash (t ++ rest)) (sym e) free
items_no_dash (r ∷ ranges) text rest (item, tail, e, is, more) free =
    subst (λ (t : List ℕ). NoDash (t ++ rest)) (sym e) (solid_no_dash (item ++ tail) rest (solid_more item tail (item_solid item r is)))

-- ranges, and what stands behind them
abbrev pub Items : Type 0
Items = List Range × List ℕ

abbrev pub items_and : List Range → List ℕ → Items
items_and ranges rest = (ranges, rest)

-- one more item in front
abbrev pub item_and : ℕ → Range × List ℕ → Items
item_and n i = (i.0 ∷ (items_by n i.1).0, (items_by n i.1).1)

pub stop_here : (n : ℕ) (rest : List ℕ) → item_front rest ≡ None → items_by n rest ≡ items_and [] rest
stop_here zero rest e = refl
stop_here (suc n) rest e = ap (λ o. option_map_or (item_and n) o (items_and [] rest)) e

-- items are read whole
pub items_read : (ranges : List Range) (n : ℕ) (text rest : List ℕ) → SpellsItems text ranges → length text ≤ n → Stopped rest
    → items_by n (text ++ rest) ≡ items_and ranges rest
items_read [] n text rest e long stops = ap (λ (t : List ℕ). items_by n (t ++ rest)) e ∙ stop_here n rest (no_item rest stops)
items_read (r ∷ ranges) zero text rest (item, tail, e, is, more) long stops =
    let some = solid_long item (item_solid item r is) in
    let same : length text ≡ length item + length tail = ap length e ∙ length-append item tail in
    absurd (omega arith)
items_read (r ∷ ranges) (suc n) text rest (item, tail, e, is, more) long stops =
    let some = solid_long item (item_solid item r is) in
    let same : length text ≡ length item + length tail = ap length e ∙ length-append item tail in
    let within : length tail ≤ n = omega arith in
    let free : NoDash (tail ++ rest) = items_no_dash ranges tail rest more (no_dash rest stops) in
    let first : item_front (item ++ (tail ++ rest)) ≡ found r (tail ++ rest) = item_read r item (tail ++ rest) is free in
    ap (λ (t : List ℕ). items_by (suc n) (t ++ rest)) e ∙ ap (items_by (suc n)) (append_assoc item tail rest)
    ∙ ap (λ o. option_map_or (item_and n) o (items_and [] (item ++ (tail ++ rest)))) first
    ∙ ap (λ (p : Items). items_and (r ∷ p.0) p.1) (items_read ranges n tail rest more within stops)

-- what was read is items
abbrev AreItems : List ℕ → Items → Type 0
AreItems s p = (text : List ℕ) × (s ≡ text ++ p.1) × SpellsItems text p.0

pub items_sound : (n : ℕ) (s : List ℕ) → AreItems s (items_by n s)
items_sound zero s = ([], refl, refl)
items_sound (suc n) s = more (item_front s) refl (items_sound n)
  where
    more : (o : Front Range) → item_front s ≡ o → ((t : List ℕ) → AreItems t (items_by n t)) → AreItems s (option_map_or (item_and n) o (items_and [] s))
    more None e next = ([], refl, refl)
    more (Some (r, rest)) e next =
        let first = item_sound s r rest e in
        let behind = next rest in (
          first.0 ++ behind.0,
          first.1 ∙ ap (λ t. first.0 ++ t) behind.1 ∙ sym (append_assoc first.0 behind.0 (items_by n rest).1),
          (first.0, behind.0, refl, first.2, behind.2),
        )

-- ---- items behind blanks, and the mark that closes them

closed_now : (ranges : List Range) (c : ℕ) (blanks rest : List ℕ) → Closes c → AreBlanks blanks
    → closed (c ∷ []) (letters_in ranges, blanks ++ (c ∷ rest)) ≡ found (letters_in ranges) rest
closed_now ranges c blanks rest closes are =
    map_is (λ t. (letters_in ranges, t)) (after (c ∷ []) (blanks ++ (c ∷ rest))) rest (after_read (c ∷ []) blanks rest (skip_other c rest closes.solid) are)

blanks_stopped : (c : ℕ) (blanks rest : List ℕ) → Closes c → AreBlanks blanks → Stopped (blanks ++ (c ∷ rest))
blanks_stopped c [] rest closes are = closes.stops
blanks_stopped c (b ∷ blanks) rest closes are = blank_stops b (both_true (is_blank b) _ are).0

-- letters that were found from a text on
abbrev letters_from : List ℕ → List ℕ × List ℕ
letters_from t = (letters_in (items_front t).0, (items_front t).1)

pub until_read : (c : ℕ) (s rest text : List ℕ) (ranges : List Range) → Closes c → SpellsItems text ranges → Begins (text ∷ (c ∷ []) ∷ []) s rest
    → letters_until (c ∷ []) s ≡ found (letters_in ranges) rest
until_read c s rest text [] closes e (before, next, at, are, (blanks, last, behind, spaced, end)) =
    let empty : next ≡ blanks ++ (c ∷ rest) = behind ∙ ap (λ t. blanks ++ (c ∷ t)) end in
    let whole : s ≡ before ++ (blanks ++ (c ∷ rest)) = at ∙ ap (λ t. before ++ (t ++ next)) e ∙ ap (λ t. before ++ t) empty in
    let skipped : after_blanks s ≡ c ∷ rest = ap after_blanks whole ∙ skip_blanks before (blanks ++ (c ∷ rest)) are ∙ skip_blanks blanks (c ∷ rest) spaced ∙ skip_other c rest closes.solid in
    ap (λ t. closed (c ∷ []) (letters_from t)) skipped
    ∙ ap (λ (p : Items). closed (c ∷ []) (letters_in p.0, p.1)) (stop_here (length (c ∷ rest)) (c ∷ rest) (no_item (c ∷ rest) closes.stops))
    ∙ closed_now [] c [] rest closes refl
until_read c s rest text (r ∷ ranges) closes items (before, next, at, are, (blanks, last, behind, spaced, end)) =
    let empty : next ≡ blanks ++ (c ∷ rest) = behind ∙ ap (λ t. blanks ++ (c ∷ t)) end in
    let solid : Solid text = subst Solid (sym items.2) (solid_more items.0 items.1 (item_solid items.0 r items.3)) in
    let skipped : after_blanks s ≡ text ++ (blanks ++ (c ∷ rest)) =
    ap after_blanks at ∙ skip_blanks before (text ++ next) are ∙ solid_skip text next solid ∙ ap (λ t. text ++ t) empty in
    let whole : length text ≤ length (text ++ (blanks ++ (c ∷ rest))) = omega (arith, length-append text (blanks ++ (c ∷ rest))) in
    ap (λ t. closed (c ∷ []) (letters_from t)) skipped
    ∙ ap (λ (p : Items). closed (c ∷ []) (letters_in p.0, p.1))
    (items_read (r ∷ ranges) (length (text ++ (blanks ++ (c ∷ rest)))) text (blanks ++ (c ∷ rest)) items whole (blanks_stopped c blanks rest closes spaced))
    ∙ closed_now (r ∷ ranges) c blanks rest closes spaced

pub until_sound : (close s letters rest : List ℕ) → letters_until close s ≡ found letters rest
    → (text : List ℕ) × (ranges : List Range) × Begins (text ∷ close ∷ []) s rest × SpellsItems text ranges × (letters_in ranges ≡ letters)
until_sound close s letters rest e =
    let ranges : List Range = (items_front (after_blanks s)).0 in
    let middle : List ℕ = (items_front (after_blanks s)).1 in
    let end = map_some (λ t. (letters_in ranges, t)) (after close middle) (letters, rest) e in
    let (same, last) = found_is (letters_in ranges) letters end.0 rest (ap Some end.2) in
    let items = items_sound (length (after_blanks s)) (after_blanks s) in
    let spaced = blanks_before s in
    let shut = after_sound close middle end.0 end.1 in (
      items.0,
      ranges,
      (spaced.0, middle, spaced.1 ∙ ap (λ t. spaced.0 ++ t) items.1, spaced.2, (shut.0, end.0, shut.1, shut.2, last)),
      items.2,
      same,
    )

-- ---- alphabets

pub letters_agree : (a : Alphabet) (ranges : List Range) → ((x : ℕ) → has_letter a x ≡ is_named ranges x) → letters_in ranges ≡ letters_of a
unfolding letters_in letters_of
letters_agree a ranges h = sym (filter_agree (has_letter a) (is_named ranges) h (up_from 0x21 94))

item_letters : (text : List ℕ) (r : Range) → SpellsItem text r → IsTrue (is_letter r.first) × IsTrue (is_letter r.last)
item_letters text r (inl (spelled, same)) =
    let first : IsTrue (is_letter r.first) = spelled_is_letter text r.first spelled in
    (first, subst (λ x. IsTrue (is_letter x)) (sym same) first)
item_letters text r (inr (first, last, e, is_first, is_last, below)) = (spelled_is_letter first r.first is_first, spelled_is_letter last r.last is_last)

between_letters : (x first last : ℕ) → IsTrue (is_letter first) → IsTrue (is_letter last) → (nat_le first x && nat_le x last) ≡ true → IsTrue (is_letter x)
between_letters x first last low high e = grind (arith, common_steps, nat_tests)

pub either : (b c : Bool) → (b || c) ≡ true → (b ≡ true) ⊎ (c ≡ true)
either true c e = inl refl
either false c e = inr e

named_letters : (ranges : List Range) (text : List ℕ) (x : ℕ) → SpellsItems text ranges → is_named ranges x ≡ true → IsTrue (is_letter x)
named_letters [] text x items e = absurd (cc)
named_letters (r ∷ ranges) text x (item, tail, at, is, more) e =
    let ends = item_letters item r is in
    which (either (is_between x r) (is_named ranges x) e) (between_letters x r.first r.last ends.0 ends.1) (named_letters ranges tail x more)
  where
    which : {P Q R : Type 0} → P ⊎ Q → (P → R) → (Q → R) → R
    which (inl p) f g = f p
    which (inr q) f g = g q

in_range : (x : ℕ) → IsTrue (is_letter x) → In x (up_from 0x21 94)
in_range x letter =
    let low : 0x21 ≤ x = grind (arith, common_steps) in
    let high : x < 0x21 + 94 = grind (arith, common_steps) in
    up_from-In x 0x21 94 low high

named_in : (ranges : List Range) (x : ℕ) → In x (letters_in ranges) → is_named ranges x ≡ true
unfolding letters_in
named_in ranges x member = (In-filter_from (is_named ranges) x (up_from 0x21 94) member).1

in_named : (ranges : List Range) (x : ℕ) → IsTrue (is_letter x) → is_named ranges x ≡ true → In x (letters_in ranges)
unfolding letters_in
in_named ranges x letter e = In-filter (is_named ranges) x (up_from 0x21 94) (in_range x letter) e

pub same_tests : (b c : Bool) → (b ≡ true → c ≡ true) → (c ≡ true → b ≡ true) → b ≡ c
same_tests true c f g = sym (f refl)
same_tests false true f g = g refl
same_tests false false f g = refl

-- that the letters of an alphabet are listed
abbrev pub AreListed : Type 0
AreListed = (s : Alphabet) (x : ℕ) → In x (letters_of s) ↔ (has_letter s x ≡ true)

pub alphabet_agrees : AreListed → (a : Alphabet) (text : List ℕ) (ranges : List Range) → SpellsItems text ranges → letters_in ranges ≡ letters_of a
    → (x : ℕ) → has_letter a x ≡ is_named ranges x
alphabet_agrees listed a text ranges items e x = same_tests (has_letter a x) (is_named ranges x)
    (λ h. named_in ranges x (subst (In x) (sym e) ((listed a x).1 h)))
    (λ h. (listed a x).0 (subst (In x) e (in_named ranges x (named_letters ranges text x items h) h)))

-- an alphabet, and the mark that closes it, are read
pub alphabet_read : (c : ℕ) (a : Alphabet) (s rest text : List ℕ) → Closes c → SpellsAlphabet text a → Begins (text ∷ (c ∷ []) ∷ []) s rest
    → letters_until (c ∷ []) s ≡ found (letters_of a) rest
alphabet_read c a s rest text closes (ranges, items, same) begins =
    until_read c s rest text ranges closes items begins ∙ ap (λ l. found l rest) (letters_agree a ranges same)

-- and what is read is one
pub alphabet_sound : AreListed → (close : List ℕ) (a : Alphabet) (s rest : List ℕ) → letters_until close s ≡ found (letters_of a) rest
    → (text : List ℕ) × SpellsAlphabet text a × Begins (text ∷ close ∷ []) s rest
alphabet_sound listed close a s rest e =
    let is = until_sound close s (letters_of a) rest e in
    (is.0, (is.1, is.3, alphabet_agrees listed a is.0 is.1 is.3 is.4), is.2)
