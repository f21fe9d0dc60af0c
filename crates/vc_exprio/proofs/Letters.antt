-- The letters that a text begins with.
use Rattle.std.proofs.Common.{◌≡◌, ℕ, ◌+◌, Bool, true, false, ◌&&◌, ◌==◌, List, [], ◌∷◌, ◌++◌, drop, Option, Some, None, IsTrue, refl, ap, sym, ◌∙◌, append_assoc}
use Rattle.std.specs.Prelude.{if◌then◌else◌}
use Rattle.std.proofs.lemmas.Bool.{eqb-true}
use Rattle.vc_exprio.specs.WordParts.{front_letters, after_letters}
use Rattle.vc_exprio.specs.Words.{letters_text}
use Rattle.vc_label.specs.Letters.{are_letters, is_letter}
use Rattle.vc_model.specs.Words.{Tape}
use Rattle.vc_text.specs.LetterLaws.{plain_is_letter, escaped_is_letter, escaped_not_plain, other_is_escaped}
use Rattle.vc_text.specs.Letters.{is_plain, is_escaped, letter_text, letter_in}
use Rattle.vc_text.specs.declared.letters.LetterAt.{LetterAt}

pub both_true : (a b : Bool) → a && b ≡ true → (a ≡ true) × (b ≡ true)
both_true true true e = (refl, refl)
both_true true false e = absurd (cc)
both_true false b e = absurd (cc)

-- these are the letters in front of a text and the text behind them, where its first letter is known
abbrev pub IsNext : Tape → List ℕ → List ℕ → Option LetterAt → Type 0
IsNext front after text None = (front ≡ []) × (after ≡ text)
IsNext front after text (Some l) = (front ≡ l.letter ∷ front_letters (drop l.after text)) × (after ≡ after_letters (drop l.after text))

pub next_letter : (text : List ℕ) → IsNext (front_letters text) (after_letters text) text (letter_in 0 text)
next_letter [] = (refl, refl)
next_letter (x ∷ []) = go (is_plain x)
  where
    go : (b : Bool) → IsNext (if b then x ∷ [] else []) (if b then [] else x ∷ []) (x ∷ []) (if b then Some (record { letter = x; after = 0 + 1 }) else None)
    go true = (refl, refl)
    go false = (refl, refl)
next_letter (x ∷ y ∷ s) = go (is_plain x) (x == 92 && is_escaped y)
  where
    go : (b c : Bool) → IsNext (if b then x ∷ front_letters (y ∷ s) else (if c then y ∷ front_letters s else [])) (if b then after_letters (y ∷ s) else (if c then after_letters s else x ∷ y ∷ s)) (x ∷ y ∷ s)
        (if b then Some (record { letter = x; after = 0 + 1 }) else (if c then Some (record { letter = y; after = 0 + 2 }) else None))
    go true c = (refl, refl)
    go false true = (refl, refl)
    go false false = (refl, refl)

-- ---- the letters, and then the text behind them, are the text

pub record IsSplit (text : List ℕ) (a : Tape) (rest : List ℕ) : Type 0 where
  pub is : text ≡ letters_text a ++ rest
  pub letters : IsTrue (are_letters a)

no_letter : (text : List ℕ) → IsSplit text [] text
no_letter text = record { is = refl; letters = refl }

plain_text : (x : ℕ) → is_plain x ≡ true → letter_text x ≡ x ∷ []
plain_text x e = ap (λ b. if b then x ∷ [] else 92 ∷ x ∷ []) e

escaped_text : (x : ℕ) → is_escaped x ≡ true → letter_text x ≡ 92 ∷ x ∷ []
escaped_text x e = ap (λ b. if b then x ∷ [] else 92 ∷ x ∷ []) (escaped_not_plain x e)

one_more : (text more : List ℕ) (x : ℕ) (a : Tape) (rest : List ℕ) → text ≡ letter_text x ++ more → IsTrue (is_letter x) → IsSplit more a rest → IsSplit text (x ∷ a) rest
one_more text more x a rest e l s = record {
  is = e ∙ ap (λ t. letter_text x ++ t) s.is ∙ sym (append_assoc (letter_text x) (letters_text a) rest);
  letters = ap (λ b. b && are_letters a) l ∙ s.letters;
}

plain_more : (x : ℕ) (more : List ℕ) (a : Tape) (rest : List ℕ) → is_plain x ≡ true → IsSplit more a rest → IsSplit (x ∷ more) (x ∷ a) rest
plain_more x more a rest e s = one_more (x ∷ more) more x a rest (ap (λ t. t ++ more) (sym (plain_text x e))) (plain_is_letter x e) s

escaped_more : (x y : ℕ) (more : List ℕ) (a : Tape) (rest : List ℕ) → (x == 92 && is_escaped y) ≡ true → IsSplit more a rest → IsSplit (x ∷ y ∷ more) (y ∷ a) rest
escaped_more x y more a rest e s =
    let each = both_true (x == 92) (is_escaped y) e in
    one_more (x ∷ y ∷ more) more y a rest (ap (λ z. z ∷ y ∷ more) (eqb-true x 92 each.0) ∙ ap (λ t. t ++ more) (sym (escaped_text y each.1))) (escaped_is_letter y each.1) s

pub split : (text : List ℕ) → IsSplit text (front_letters text) (after_letters text)
split [] = no_letter []
split (x ∷ []) = go (is_plain x) refl
  where
    go : (b : Bool) → is_plain x ≡ b → IsSplit (x ∷ []) (if b then x ∷ [] else []) (if b then [] else x ∷ [])
    go true e = plain_more x [] [] [] e (no_letter [])
    go false e = no_letter (x ∷ [])
split (x ∷ y ∷ s) = go (is_plain x) (x == 92 && is_escaped y) refl refl (split (y ∷ s)) (split s)
  where
    go : (b c : Bool) → is_plain x ≡ b → (x == 92 && is_escaped y) ≡ c → IsSplit (y ∷ s) (front_letters (y ∷ s)) (after_letters (y ∷ s)) → IsSplit s (front_letters s) (after_letters s)
        → IsSplit (x ∷ y ∷ s) (if b then x ∷ front_letters (y ∷ s) else (if c then y ∷ front_letters s else [])) (if b then after_letters (y ∷ s) else (if c then after_letters s else x ∷ y ∷ s))
    go true c e f one two = plain_more x (y ∷ s) (front_letters (y ∷ s)) (after_letters (y ∷ s)) e one
    go false true e f one two = escaped_more x y s (front_letters s) (after_letters s) f two
    go false false e f one two = no_letter (x ∷ y ∷ s)

-- ---- letters in front of a text that begins with none

pub record HasNone (text : List ℕ) : Type 0 where
  pub front : front_letters text ≡ []
  pub after : after_letters text ≡ text

pub record HasThese (text : List ℕ) (a : Tape) (rest : List ℕ) : Type 0 where
  pub front : front_letters text ≡ a
  pub after : after_letters text ≡ rest

slash_is_not_plain : is_plain 92 ≡ false
unfolding is_plain
slash_is_not_plain = refl

pub none_first : (x : ℕ) (s : List ℕ) → is_plain x ≡ false → (x == 92) ≡ false → HasNone (x ∷ s)
none_first x [] e f = record { front = ap (λ b. if b then x ∷ [] else []) e; after = ap (λ b. if b then [] else x ∷ []) e }
none_first x (y ∷ s) e f = record { front = rw (e, f) refl; after = rw (e, f) refl }

plain_first : (x : ℕ) (s : List ℕ) (a : Tape) (rest : List ℕ) → is_plain x ≡ true → HasThese s a rest → HasThese (x ∷ s) (x ∷ a) rest
plain_first x [] a rest e h = record { front = rw e (ap (λ t. x ∷ t) h.front); after = rw e h.after }
plain_first x (y ∷ s) a rest e h = record { front = rw e (ap (λ t. x ∷ t) h.front); after = rw e h.after }

escaped_first : (x : ℕ) (s : List ℕ) (a : Tape) (rest : List ℕ) → is_escaped x ≡ true → HasThese s a rest → HasThese (92 ∷ x ∷ s) (x ∷ a) rest
escaped_first x s a rest e h = record { front = rw (slash_is_not_plain, e) (ap (λ t. x ∷ t) h.front); after = rw (slash_is_not_plain, e) h.after }

letter_first : (x : ℕ) (s : List ℕ) (a : Tape) (rest : List ℕ) → IsTrue (is_letter x) → HasThese s a rest → HasThese (letter_text x ++ s) (x ∷ a) rest
letter_first x s a rest l h = go (is_plain x) refl
  where
    go : (b : Bool) → is_plain x ≡ b → HasThese ((if b then x ∷ [] else 92 ∷ x ∷ []) ++ s) (x ∷ a) rest
    go true e = plain_first x s a rest e h
    go false e = escaped_first x s a rest (other_is_escaped x e l) h

pub letters_first : (a : Tape) (rest : List ℕ) → IsTrue (are_letters a) → HasNone rest → HasThese (letters_text a ++ rest) a rest
letters_first [] rest l none = record { front = none.front; after = none.after }
letters_first (x ∷ a) rest l none =
    let each = both_true (is_letter x) (are_letters a) l in
    rw (append_assoc (letter_text x) (letters_text a) rest) (letter_first x (letters_text a ++ rest) a rest each.0 (letters_first a rest each.1 none))
