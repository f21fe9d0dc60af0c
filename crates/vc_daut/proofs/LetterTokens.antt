-- Digits and letters of the canonical text are tokens, and are read as what they say.
use Rattle.std.proofs.Common.{◌≡◌, ◌≢◌, ℕ, zero, suc, ◌+◌, ◌/◌, ◌%◌, ◌<◌, Bool, true, false, not, ◌&&◌, ◌||◌, ◌==◌, List, [], ◌∷◌, ◌++◌, map, refl, ap, sym, ◌∙◌, inl, inr, arith, mod-lt}
use Rattle.std.specs.Prelude.{nat_le, if◌then◌else◌}
use Rattle.std.specs.List.{list_all, flat_map}
use Rattle.std.specs.Fmt.{decimal, digits, digits_onto, digit_glyph}
use Rattle.std.proofs.lemmas.Bool.{and_parts, eqb-true, le-leb, lt-ltb}
use Rattle.vc_text.specs.Letters.{SpellsLetter, is_escaped, is_plain, letter_text}
use Rattle.vc_text.specs.Blanks.{is_blank}
use Rattle.vc_label.specs.Letters.{is_letter, are_letters}
use Rattle.vc_lex.specs.Grammar.{IsLetter, Several, Each, joined}
use Rattle.vc_model.specs.Words.{Tape}
use Rattle.vc_text.specs.Escapes.{unescaped}
use Rattle.vc_daut.proofs.TokenTexts.{IsInk, ink_at}

-- ---- plain letters

pub blank_is_not_plain : is_plain 32 ≡ false
unfolding is_plain
blank_is_not_plain = refl

tab_is_not_plain : is_plain 9 ≡ false
unfolding is_plain
tab_is_not_plain = refl

slash_is_not_plain : is_plain 92 ≡ false
unfolding is_plain
slash_is_not_plain = refl

-- a plain letter is another byte than one that is not plain
pub plain_differs : (x c : ℕ) → is_plain c ≡ false → is_plain x ≡ true → (x == c) ≡ false
plain_differs x c unlike plain = go (x == c) refl
  where
    go : (b : Bool) → (x == c) ≡ b → b ≡ false
    go true e = let same : true ≡ false = sym plain ∙ ap is_plain (eqb-true x c e) ∙ unlike in absurd (cc)
    go false e = refl

neither : (a b : Bool) → a ≡ false → b ≡ false → a || b ≡ false
neither true b e f = absurd (cc)
neither false b e f = f

pub plain_is_ink : (x : ℕ) → is_plain x ≡ true → is_blank x ≡ false
plain_is_ink x plain = neither (x == 32) (x == 9) (plain_differs x 32 blank_is_not_plain plain) (plain_differs x 9 tab_is_not_plain plain)

pub plain_no_slash : (x : ℕ) → is_plain x ≡ true → (x == 92) ≡ false
plain_no_slash x plain = plain_differs x 92 slash_is_not_plain plain

-- plain letters are letters of the grammar
each_one : (s : List ℕ) → list_all is_plain s ≡ true → Each IsLetter (map (λ x. x ∷ []) s)
each_one [] h = tt
each_one (x ∷ s) h = let b = and_parts (is_plain x) (list_all is_plain s) h in ((x, inl (b.0, refl)), each_one s b.1)

joined_ones : (s : List ℕ) → s ≡ joined (map (λ x. x ∷ []) s)
joined_ones [] = refl
joined_ones (x ∷ s) = ap (λ t. x ∷ t) (joined_ones s)

pub plain_letters : (s : List ℕ) → list_all is_plain s ≡ true → Several IsLetter s
plain_letters s h = (map (λ x. x ∷ []) s, joined_ones s, each_one s h)

pub plain_ink : (s : List ℕ) → list_all is_plain s ≡ true → s ≢ [] → IsInk s
plain_ink [] h some = absurd (some refl)
plain_ink (x ∷ s) h some = ink_at x s (plain_is_ink x (and_parts (is_plain x) (list_all is_plain s) h).0)

-- ---- numbers

third : (a b c d : Bool) → c ≡ true → a || b || c || d ≡ true
third true b c d e = refl
third false true c d e = refl
third false false true d e = refl
third false false false d e = absurd (cc)

digit_is_plain : (d : ℕ) → d < 10 → is_plain (digit_glyph false d) ≡ true
unfolding is_plain
digit_is_plain d h =
    let low : nat_le 48 (48 + d) ≡ true = le-leb 48 (48 + d) (omega arith) in
    let high : nat_le (48 + d) 57 ≡ true = le-leb (48 + d) 57 (omega arith) in
    let x : ℕ = 48 + d in
    ap (λ b. is_plain (if b then 48 + d else 87 + d)) (lt-ltb d 10 h)
    ∙ third (nat_le 97 x && nat_le x 122) (nat_le 65 x && nat_le x 90) (nat_le 48 x && nat_le x 57) (x == 95) (ap (λ b. b && nat_le x 57) low ∙ high)

onto_plain : (k n : ℕ) (acc : List ℕ) → list_all is_plain acc ≡ true → list_all is_plain (digits_onto k 10 false n acc) ≡ true
onto_plain zero n acc h = h
onto_plain (suc k) n acc h = go (n / 10 == 0) (onto_plain k (n / 10) (digit_glyph false (n % 10) ∷ acc) more)
  where
    more : list_all is_plain (digit_glyph false (n % 10) ∷ acc) ≡ true
    more = ap (λ b. b && list_all is_plain acc) (digit_is_plain (n % 10) (mod-lt n (omega arith))) ∙ h

    go : (b : Bool) → list_all is_plain (digits_onto k 10 false (n / 10) (digit_glyph false (n % 10) ∷ acc)) ≡ true
        → list_all is_plain (if b then digit_glyph false (n % 10) ∷ acc else digits_onto k 10 false (n / 10) (digit_glyph false (n % 10) ∷ acc)) ≡ true
    go true r = more
    go false r = r

onto_kept : (k n : ℕ) (acc : List ℕ) → acc ≢ [] → digits_onto k 10 false n acc ≢ []
onto_kept zero n acc h = h
onto_kept (suc k) n acc h = go (n / 10 == 0) (onto_kept k (n / 10) (digit_glyph false (n % 10) ∷ acc) (λ e. cc))
  where
    go : (b : Bool) → digits_onto k 10 false (n / 10) (digit_glyph false (n % 10) ∷ acc) ≢ []
        → (if b then digit_glyph false (n % 10) ∷ acc else digits_onto k 10 false (n / 10) (digit_glyph false (n % 10) ∷ acc)) ≢ []
    go true r e = cc
    go false r e = r e

onto_some : (k n : ℕ) (acc : List ℕ) → 0 < k → digits_onto k 10 false n acc ≢ []
onto_some zero n acc l = absurd (omega arith)
onto_some (suc k) n acc l = go (n / 10 == 0)
  where
    go : (b : Bool) → (if b then digit_glyph false (n % 10) ∷ acc else digits_onto k 10 false (n / 10) (digit_glyph false (n % 10) ∷ acc)) ≢ []
    go true e = cc
    go false e = onto_kept k (n / 10) (digit_glyph false (n % 10) ∷ acc) (λ f. cc) e

pub number_plain : (n : ℕ) → list_all is_plain (decimal n) ≡ true
unfolding digits
number_plain n = onto_plain 64 n [] refl

pub number_some : (n : ℕ) → decimal n ≢ []
unfolding digits
number_some n = onto_some 64 n [] (omega arith)

-- ---- letters, with a backslash before those that are not plain

of_three : (a b c : Bool) → a && b ≡ true → c ≡ false → a && b && not c ≡ true
of_three true true true h e = absurd (cc)
of_three true true false h e = refl
of_three true false c h e = absurd (cc)
of_three false b c h e = absurd (cc)

pub escaped : (x : ℕ) → is_letter x ≡ true → is_plain x ≡ false → is_escaped x ≡ true
unfolding is_escaped
escaped x h e = of_three (nat_le 0x21 x) (nat_le x 0x7e) (is_plain x) h e

letter_spelled : (x : ℕ) → is_letter x ≡ true → SpellsLetter (letter_text x) x
letter_spelled x h = go (is_plain x) refl
  where
    go : (b : Bool) → is_plain x ≡ b → SpellsLetter (if b then x ∷ [] else 92 ∷ x ∷ []) x
    go true e = inl (e, refl)
    go false e = inr (escaped x h e, refl)

each_letter : (a : Tape) → are_letters a ≡ true → Each IsLetter (map letter_text a)
each_letter [] h = tt
each_letter (x ∷ a) h = let b = and_parts (is_letter x) (are_letters a) h in ((x, letter_spelled x b.0), each_letter a b.1)

joined_letters : (a : Tape) → flat_map letter_text a ≡ joined (map letter_text a)
joined_letters [] = refl
joined_letters (x ∷ a) = ap (λ t. letter_text x ++ t) (joined_letters a)

pub letters_several : (a : Tape) → are_letters a ≡ true → Several IsLetter (flat_map letter_text a)
letters_several a h = (map letter_text a, joined_letters a, each_letter a h)

pub letters_some : (x : ℕ) (a : Tape) → flat_map letter_text (x ∷ a) ≢ []
letters_some x a = go (is_plain x)
  where
    go : (b : Bool) → (if b then x ∷ [] else 92 ∷ x ∷ []) ++ flat_map letter_text a ≢ []
    go true e = cc
    go false e = cc

pub letters_ink : (x : ℕ) (a : Tape) → IsInk (flat_map letter_text (x ∷ a))
letters_ink x a = go (is_plain x) refl
  where
    go : (b : Bool) → is_plain x ≡ b → IsInk ((if b then x ∷ [] else 92 ∷ x ∷ []) ++ flat_map letter_text a)
    go true e = ink_at x (flat_map letter_text a) (plain_is_ink x e)
    go false e = ink_at 92 (x ∷ flat_map letter_text a) refl

unescaped_plain : (x : ℕ) (s : List ℕ) → (x == 92) ≡ false → unescaped (x ∷ s) ≡ x ∷ unescaped s
unescaped_plain x [] e = refl
unescaped_plain x (y ∷ s) e = ap (λ b. if b then y ∷ unescaped s else x ∷ unescaped (y ∷ s)) e

-- the letters are read back
pub letters_read : (a : Tape) → unescaped (flat_map letter_text a) ≡ a
letters_read [] = refl
letters_read (x ∷ a) = go (is_plain x) refl (letters_read a)
  where
    go : (b : Bool) → is_plain x ≡ b → unescaped (flat_map letter_text a) ≡ a → unescaped ((if b then x ∷ [] else 92 ∷ x ∷ []) ++ flat_map letter_text a) ≡ x ∷ a
    go true e r = unescaped_plain x (flat_map letter_text a) (plain_no_slash x e) ∙ ap (λ t. x ∷ t) r
    go false e r = ap (λ t. x ∷ t) r
