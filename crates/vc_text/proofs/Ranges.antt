-- Items of classes, and the letters that they name.
use Rattle.std.proofs.Common.{◌≡◌, ℕ, Bool, true, false, not, ◌&&◌, ◌||◌, List, [], ◌∷◌, refl, ap, sym, ◌∙◌, inl, inr}
use Rattle.std.specs.Prelude.{◌==◌, if◌then◌else◌, filter}
use Rattle.std.proofs.lemmas.Bool.{eqb-true}
use Rattle.vc_label.specs.Alphabets.{has_letter, letters_of}
use Rattle.vc_label.specs.declared.alphabet.Alphabet.{Alphabet}
use Rattle.vc_model.specs.Lists.{up_from}
use Rattle.vc_text.specs.Classes.{Symbol, letter, dash, symbols, single, range, items_of, begins_no_letter, names_letter, is_negated, body_items, class_items, has_in_class}

-- a range
pub range_item : (text rest behind after : List ℕ) (first last : ℕ) → symbols text ≡ letter first ∷ symbols rest → rest ≡ 45 ∷ behind → symbols behind ≡ letter last ∷ symbols after
    → items_of (symbols text) ≡ range first last ∷ items_of (symbols after)
range_item text rest [] after first last e f h = absurd (cc)
range_item text rest (y ∷ s) after first last e f h =
    ap items_of (e ∙ ap (λ r. letter first ∷ symbols r) f ∙ ap (λ q. letter first ∷ dash ∷ q) h)

no_dash_at : (b : Bool) (x : ℕ) (s q : List Symbol) → (x == 45) ≡ b → (x ≡ 45 → ⊥) → (if b then dash ∷ s else letter x ∷ s) ≡ dash ∷ q → ⊥
no_dash_at true x s q e n h = n (eqb-true x 45 e)
no_dash_at false x s q e n h = cc

no_dash : (rest : List ℕ) → ((behind : List ℕ) → rest ≡ 45 ∷ behind → ⊥) → (q : List Symbol) → symbols rest ≡ dash ∷ q → ⊥
no_dash [] n q h = cc
no_dash (x ∷ []) n q h = no_dash_at (x == 45) x [] q refl (λ e. n [] (ap (λ y. y ∷ []) e)) h
no_dash (x ∷ y ∷ s) n q h = go (x == 92) h
  where
    go : (b : Bool) → (if b then letter y ∷ symbols s else (if x == 45 then dash ∷ symbols (y ∷ s) else letter x ∷ symbols (y ∷ s))) ≡ dash ∷ q → ⊥
    go true h = cc
    go false h = no_dash_at (x == 45) x (symbols (y ∷ s)) q refl (λ e. n (y ∷ s) (ap (λ z. z ∷ y ∷ s) e)) h

pub single_at : (x : ℕ) (q : List Symbol) → ((r : List Symbol) → q ≡ dash ∷ r → ⊥) → items_of (letter x ∷ q) ≡ single x ∷ items_of q
single_at x [] n = refl
single_at x (letter y ∷ q) n = refl
single_at x (dash ∷ q) n = absurd (n q refl)

-- a letter with no dash behind it
pub single_item : (text rest : List ℕ) (x : ℕ) → symbols text ≡ letter x ∷ symbols rest → ((behind : List ℕ) → rest ≡ 45 ∷ behind → ⊥) → items_of (symbols text) ≡ single x ∷ items_of (symbols rest)
single_item text rest x e n = ap items_of e ∙ single_at x (symbols rest) (no_dash rest n)

-- a letter with a dash behind it, and no letter behind the dash
pub dash_item : (text rest behind : List ℕ) (x : ℕ) → symbols text ≡ letter x ∷ symbols rest → rest ≡ 45 ∷ behind → begins_no_letter behind → items_of (symbols text) ≡ single x ∷ items_of (symbols rest)
dash_item text rest [] x e f n =
    ap items_of (e ∙ ap (λ r. letter x ∷ symbols r) f) ∙ sym (ap (λ r. single x ∷ items_of (symbols r)) f)
dash_item text rest (y ∷ s) x e f (inl n) =
    ap items_of (e ∙ ap (λ r. letter x ∷ symbols r) f ∙ ap (λ q. letter x ∷ dash ∷ q) n) ∙ sym (ap (λ r. single x ∷ items_of (symbols r)) f)
dash_item text rest (y ∷ s) x e f (inr (r, n)) =
    ap items_of (e ∙ ap (λ r. letter x ∷ symbols r) f ∙ ap (λ q. letter x ∷ dash ∷ q) n) ∙ sym (ap (λ r. single x ∷ items_of (symbols r)) f)

-- a range of the alphabet alone
pub range_over : (n a l b : Bool) → (a ≡ true → l ≡ true) → (n || (a && (false || (l && b)))) ≡ (n || (a && b))
range_over true a l b h = refl
range_over false false l b h = refl
range_over false true l b h = ap (λ c. c && b) (h refl)

-- the letters of two tests
pub filter_both : (p q : ℕ → Bool) (xs : List ℕ) → filter q (filter p xs) ≡ filter (λ x. p x && q x) xs
filter_both p q [] = refl
filter_both p q (x ∷ xs) = at (p x) (filter_both p q xs)
  where
    at : (b : Bool) → filter q (filter p xs) ≡ filter (λ x. p x && q x) xs
        → filter q (if b then x ∷ filter p xs else filter p xs) ≡ (if b && q x then x ∷ filter (λ x. p x && q x) xs else filter (λ x. p x && q x) xs)
    at true e = ap (λ ys. if q x then x ∷ ys else ys) e
    at false e = e

pub letters_both : (s t : Alphabet) (q : ℕ → Bool) → ((x : ℕ) → has_letter t x ≡ (has_letter s x && q x)) → letters_of t ≡ filter q (letters_of s)
unfolding letters_of
letters_both s t q h = ap (λ p. filter p (up_from 0x21 94)) (λ i x. h x i) ∙ sym (filter_both (has_letter s) q (up_from 0x21 94))

-- the letters that a class has, where its items are known
pub has_by_items : (body items : List ℕ) (b : Bool) (x : ℕ) → b ≡ is_negated body → items ≡ body_items body
    → (if b then not (names_letter (items_of (symbols items)) x) else names_letter (items_of (symbols items)) x) ≡ has_in_class body x
has_by_items body items b x e f =
    ap (λ (s : List ℕ). if b then not (names_letter (items_of (symbols s)) x) else names_letter (items_of (symbols s)) x) f
    ∙ ap (λ (c : Bool). if c then not (names_letter (class_items body) x) else names_letter (class_items body) x) e

pub others_of : (a n : Bool) → (a && not (a && n)) ≡ (a && not n)
others_of true n = refl
others_of false n = refl
