-- What a word in front of `--` is, for the rule and for the parser.
use Rattle.std.proofs.Common.{◌≡◌, ◌∙◌, ◌<◌, ℕ, Bool, true, false, refl, sym, ap, arith, List, [], ◌∷◌, length, Option, Some, None}
use Rattle.std.specs.Prelude.{codes, ◌==◌, slice_get, if◌then◌else◌}
use Rattle.std.specs.List.{list_any, before_first, after_first}
use Rattle.std.specs.Str.{bytes_eq, chars, IsUtf8}
use Rattle.std.proofs.lemmas.Bool.{eqb-true}
use Rattle.std.proofs.lemmas.Slice.Eq.{bytes_eq-Decides}
use Rattle.std.proofs.lemmas.Str.{IsUtf8-drop, IsCharBoundary-after_ascii, chars_from_encodes}
use Rattle.clap.specs.Lexer.{long_of, short_of}
use Rattle.clap.specs.Walk.{Text, arg_by_long}
use Rattle.vc_command.specs.Lines.{Name, limit, order, plain, option, valued, other, word_of, option_of, name_of, is_equals, is_end}
use Rattle.vc_command.proofs.Uses.{id_of, rules}

-- the word is no option and not `--`
pub record IsPlainWord (word : Text) : Type 0 where
  pub end : is_end word ≡ false
  pub long : long_of word ≡ None
  pub short : short_of word ≡ None

pub data Kind (word : Text) : Type 0 where
  ends : is_end word ≡ true → word_of word ≡ other → Kind word
  is_plain : IsPlainWord word → word_of word ≡ plain → Kind word
  is_option : (name : Name) → is_end word ≡ false → long_of word ≡ Some (id_of name, None) → word_of word ≡ option name → Kind word
  is_valued : (name : Name) (v : Text) → is_end word ≡ false → long_of word ≡ Some (id_of name, Some v) → word_of word ≡ valued name v → Kind word
  is_long : (n : Text) (v : Option Text) → is_end word ≡ false → long_of word ≡ Some (n, v) → arg_by_long rules n ≡ None → word_of word ≡ other → Kind word
  is_short : (flags : Text) (x : ℕ) → is_end word ≡ false → long_of word ≡ None → short_of word ≡ Some flags → 0 < length flags
      → slice_get (chars flags) 0 ≡ Some x → word_of word ≡ other → Kind word

-- ---- characters

first_char : (y : ℕ) (text : Text) → IsUtf8 (y ∷ text) → (x : ℕ) × (slice_get (chars (y ∷ text)) 0 ≡ Some x)
first_char y text u = go u.0 u.1.1
  where
    go : (cs : List ℕ) → Rattle.std.specs.Str.encode_utf8_all cs ≡ y ∷ text → (x : ℕ) × (slice_get (chars (y ∷ text)) 0 ≡ Some x)
    go [] e = cc
    go (c ∷ cs) e = (c, ap (λ xs. slice_get xs 0) (sym (chars_from_encodes (c ∷ cs) (y ∷ text) u e)))

dash_is : (x : ℕ) → (x == 45) ≡ true → x ≡ 45
dash_is x e = eqb-true x 45 e

behind_dash : (x y : ℕ) (text : Text) → x ≡ 45 → IsUtf8 (x ∷ y ∷ text) → IsUtf8 (y ∷ text)
behind_dash x y text e u =
    IsUtf8-drop (x ∷ y ∷ text) 1 u (IsCharBoundary-after_ascii (x ∷ y ∷ text) 0 u (omega arith) (omega (arith, e)))

-- ---- names

other_way : (a b : Text) → bytes_eq a b ≡ false → bytes_eq b a ≡ false
other_way a b h = go (bytes_eq b a) refl
  where
    go : (t : Bool) → bytes_eq b a ≡ t → bytes_eq b a ≡ false
    go false e = e
    go true e = let same = (bytes_eq-Decides a b).1 (sym ((bytes_eq-Decides b a).0 e)) in cc

unknown : (n : Text) → bytes_eq n (codes "limit") ≡ false → bytes_eq n (codes "order") ≡ false → arg_by_long rules n ≡ None
unknown n a b =
    let p = other_way n (codes "limit") a in
    let q = other_way n (codes "order") b in
    rw (p, q) refl

-- the text behind the two dashes
module _ (word : Text) (text : Text) (before : is_end word ≡ false) (is : word_of word ≡ option_of text)
    (long : long_of word ≡ Some (before_first is_equals text, if list_any is_equals text then Some (after_first is_equals text) else None)) where
  named : (name : Name) → before_first is_equals text ≡ id_of name → name_of (before_first is_equals text) ≡ Some name → Kind word
  named name e found = go (list_any is_equals text) refl
    where
      go : (b : Bool) → list_any is_equals text ≡ b → Kind word
      go true t = is_valued name (after_first is_equals text) before (long ∙ rw (e, t) refl) (is ∙ rw (found, t) refl)
      go false t = is_option name before (long ∙ rw (e, t) refl) (is ∙ rw (found, t) refl)

  kind_of_option : Kind word
  kind_of_option = go (bytes_eq (before_first is_equals text) (codes "limit")) (bytes_eq (before_first is_equals text) (codes "order")) refl refl
    where
      go : (a b : Bool) → bytes_eq (before_first is_equals text) (codes "limit") ≡ a → bytes_eq (before_first is_equals text) (codes "order") ≡ b → Kind word
      go true b p q = named limit ((bytes_eq-Decides (before_first is_equals text) (codes "limit")).0 p) (rw p refl)
      go false true p q = named order ((bytes_eq-Decides (before_first is_equals text) (codes "order")).0 q) (rw (p, q) refl)
      go false false p q = is_long (before_first is_equals text) (if list_any is_equals text then Some (after_first is_equals text) else None) before long (unknown (before_first is_equals text) p q) (is ∙ rw (p, q) refl)

-- ---- words

one_byte : (x : ℕ) → Kind (x ∷ [])
one_byte x = go (x == 45) refl
  where
    go : (b : Bool) → (x == 45) ≡ b → Kind (x ∷ [])
    go true e = is_plain (record { end = rw e refl; long = rw e refl; short = rw e refl }) refl
    go false e = is_plain (record { end = rw e refl; long = rw e refl; short = rw e refl }) refl

two_dashes : (x y : ℕ) (text : Text) → (x == 45) ≡ true → (y == 45) ≡ true → Kind (x ∷ y ∷ text)
two_dashes x y [] e f = ends (rw (e, f) refl) (rw (e, f) refl)
two_dashes x y (z ∷ text) e f = kind_of_option (x ∷ y ∷ z ∷ text) (z ∷ text) (rw (e, f) refl) (rw (e, f) refl) (rw (e, f) refl)

pub kind_of_word : (word : Text) → IsUtf8 word → Kind word
kind_of_word [] u = is_plain (record { end = refl; long = refl; short = refl }) refl
kind_of_word (x ∷ []) u = one_byte x
kind_of_word (x ∷ y ∷ text) u = go (x == 45) (y == 45) refl refl
  where
    go : (a b : Bool) → (x == 45) ≡ a → (y == 45) ≡ b → Kind (x ∷ y ∷ text)
    go false b e f = is_plain (record { end = rw e refl; long = rw e refl; short = rw e refl }) (rw e refl)
    go true true e f = two_dashes x y text e f
    go true false e f =
        let char = first_char y text (behind_dash x y text (dash_is x e) u) in
        is_short (y ∷ text) char.0 (rw (e, f) refl) (rw (e, f) refl) (rw (e, f) refl) (omega arith) char.1 (rw (e, f) refl)
