-- Each letter has one text.
use Rattle.std.proofs.Common.{◌≡◌, inl, inr, ℕ, Bool, true, false, not, ◌&&◌, nat_le, List, [], ◌∷◌, IsTrue, refl, sym, ap, ◌∙◌, arith}
use Rattle.std.specs.Prelude.{if◌then◌else◌}
use Rattle.std.proofs.lemmas.Bool.Decides.{nat_tests}
use Rattle.vc_label.specs.Letters.{is_letter}
use Rattle.vc_text.specs.Letters.{is_plain, is_escaped, letter_text, SpellsLetter}

both_true : (a b : Bool) → a && b ≡ true → (a ≡ true) × (b ≡ true)
both_true true true e = (refl, refl)
both_true true false e = absurd (cc)
both_true false b e = absurd (cc)

not_true : (b : Bool) → not b ≡ true → b ≡ false
not_true true e = absurd (cc)
not_true false e = refl

-- a plain letter is a letter
pub plain_is_letter : (x : ℕ) → is_plain x ≡ true → IsTrue (is_letter x)
unfolding is_plain
plain_is_letter x e = grind (arith, nat_tests)

-- an escaped letter is a letter, and not plain
escaped_both : (x : ℕ) → is_escaped x ≡ true → (is_letter x ≡ true) × (not (is_plain x) ≡ true)
unfolding is_escaped
escaped_both x e = both_true (is_letter x) (not (is_plain x)) (grouped (nat_le 0x21 x) (nat_le x 0x7e) (not (is_plain x)) e)
  where
    grouped : (a b c : Bool) → a && b && c ≡ true → (a && b) && c ≡ true
    grouped true b c e = e
    grouped false b c e = e

pub escaped_is_letter : (x : ℕ) → is_escaped x ≡ true → IsTrue (is_letter x)
escaped_is_letter x e = (escaped_both x e).0

pub escaped_not_plain : (x : ℕ) → is_escaped x ≡ true → is_plain x ≡ false
escaped_not_plain x e = not_true (is_plain x) (escaped_both x e).1

-- a letter that is not plain is escaped
pub other_is_escaped : (x : ℕ) → is_plain x ≡ false → IsTrue (is_letter x) → is_escaped x ≡ true
unfolding is_escaped
other_is_escaped x e l = let each = both_true (nat_le 0x21 x) (nat_le x 0x7e) l in rw (each.0, each.1, e) refl

-- what spells a letter is its text
pub spelled_is_letter : (text : List ℕ) (x : ℕ) → SpellsLetter text x → IsTrue (is_letter x)
spelled_is_letter text x (inl (p, e)) = plain_is_letter x p
spelled_is_letter text x (inr (p, e)) = escaped_is_letter x p

pub one_text : (text : List ℕ) (x : ℕ) → SpellsLetter text x → text ≡ letter_text x
one_text text x (inl (p, e)) = e ∙ sym (ap (λ b. if b then x ∷ [] else 92 ∷ x ∷ []) p)
one_text text x (inr (p, e)) = e ∙ sym (ap (λ b. if b then x ∷ [] else 92 ∷ x ∷ []) (escaped_not_plain x p))

pub letter_is_spelled : (x : ℕ) → IsTrue (is_letter x) → SpellsLetter (letter_text x) x
letter_is_spelled x l = by_kind (is_plain x) refl
  where
    by_kind : (b : Bool) → is_plain x ≡ b → SpellsLetter (if b then x ∷ [] else 92 ∷ x ∷ []) x
    by_kind true p = inl (p, refl)
    by_kind false p = inr (other_is_escaped x p l, refl)
