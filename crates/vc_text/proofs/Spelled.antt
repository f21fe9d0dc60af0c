-- Items are read as they are spelled.
use Rattle.std.proofs.Common.{◌≡◌, ℕ, Bool, true, false, List, [], ◌∷◌, ◌++◌, refl, ap, sym, ◌∙◌, append_assoc, inl, inr}
use Rattle.std.specs.Prelude.{◌==◌}
use Rattle.std.proofs.lemmas.Bool.{eqb-true}
use Rattle.vc_text.proofs.Ranges.{single_at}
use Rattle.vc_text.specs.Classes.{ClassItem, single, range, Symbol, letter, dash, symbols, items_of}
use Rattle.vc_text.specs.Items.{SpellsItems}
use Rattle.vc_text.specs.Letters.{is_plain, SpellsLetter}

slash_is_not_plain : is_plain 92 ≡ false
unfolding is_plain
slash_is_not_plain = refl

dash_is_not_plain : is_plain 45 ≡ false
unfolding is_plain
dash_is_not_plain = refl

other_byte : (c x : ℕ) → is_plain c ≡ false → is_plain x ≡ true → (x == c) ≡ false
other_byte c x f e = by_test (x == c) refl
  where
    by_test : (b : Bool) → (x == c) ≡ b → b ≡ false
    by_test true h = absurd (let g : is_plain x ≡ false = rw (eqb-true x c h) f in let k : true ≡ false = sym e ∙ g in cc)
    by_test false h = refl

-- a letter is the first symbol
plain_symbol : (x : ℕ) (t : List ℕ) → is_plain x ≡ true → symbols (x ∷ t) ≡ letter x ∷ symbols t
plain_symbol x [] e = rw (other_byte 45 x dash_is_not_plain e) refl
plain_symbol x (y ∷ s) e = rw (other_byte 92 x slash_is_not_plain e, other_byte 45 x dash_is_not_plain e) refl

pub letter_symbol : (x : ℕ) (text t : List ℕ) → SpellsLetter text x → symbols (text ++ t) ≡ letter x ∷ symbols t
letter_symbol x text t (inl (p, e)) = ap (λ (s : List ℕ). symbols (s ++ t)) e ∙ plain_symbol x t p
letter_symbol x text t (inr (p, e)) = ap (λ (s : List ℕ). symbols (s ++ t)) e

-- a dash before a letter is a symbol
dash_symbol : (x : ℕ) (text t : List ℕ) → SpellsLetter text x → symbols (45 ∷ (text ++ t)) ≡ dash ∷ (letter x ∷ symbols t)
dash_symbol x text t l = before (text ++ t) (some text l) ∙ ap (λ q. dash ∷ q) (letter_symbol x text t l)
  where
    some : (s : List ℕ) → SpellsLetter s x → (y : ℕ) × (r : List ℕ) × (s ++ t ≡ y ∷ r)
    some s (inl (p, e)) = (x, t, ap (λ (u : List ℕ). u ++ t) e)
    some s (inr (p, e)) = (92, x ∷ t, ap (λ (u : List ℕ). u ++ t) e)

    before : (s : List ℕ) → (y : ℕ) × (r : List ℕ) × (s ≡ y ∷ r) → symbols (45 ∷ s) ≡ dash ∷ symbols s
    before s (y, r, e) = rw e refl

range_symbols : (x y : ℕ) (first last t : List ℕ) → SpellsLetter first x → SpellsLetter last y → symbols ((first ++ 45 ∷ last) ++ t) ≡ letter x ∷ dash ∷ letter y ∷ symbols t
range_symbols x y first last t a b =
    ap symbols (append_assoc first (45 ∷ last) t) ∙ letter_symbol x first (45 ∷ (last ++ t)) a ∙ ap (λ q. letter x ∷ q) (dash_symbol y last t b)

-- no dash stands before items
no_dash_first : (items : List ClassItem) (text : List ℕ) (q : List Symbol) → SpellsItems text items → symbols text ≡ dash ∷ q → ⊥
no_dash_first [] text q e h = let f : [] ≡ dash ∷ q = sym (ap symbols e) ∙ h in cc
no_dash_first (single x ∷ items) text q (item, rest, e, l, more) h =
    let f : letter x ∷ symbols rest ≡ dash ∷ q = sym (ap symbols e ∙ letter_symbol x item rest l) ∙ h in cc
no_dash_first (range x y ∷ items) text q (item, rest, e, (first, last, i, a, b, o), more) h =
    let f : letter x ∷ dash ∷ letter y ∷ symbols rest ≡ dash ∷ q = sym (ap symbols e ∙ ap (λ (s : List ℕ). symbols (s ++ rest)) i ∙ range_symbols x y first last rest a b) ∙ h in cc

pub items_read : (items : List ClassItem) (text : List ℕ) → SpellsItems text items → items_of (symbols text) ≡ items
items_read [] text e = ap (λ (s : List ℕ). items_of (symbols s)) e
items_read (single x ∷ items) text (item, rest, e, l, more) =
    ap items_of (ap symbols e ∙ letter_symbol x item rest l)
    ∙ single_at x (symbols rest) (λ q h. no_dash_first items rest q more h)
    ∙ ap (λ is. single x ∷ is) (items_read items rest more)
items_read (range x y ∷ items) text (item, rest, e, (first, last, i, a, b, o), more) =
    ap items_of (ap symbols e ∙ ap (λ (s : List ℕ). symbols (s ++ rest)) i ∙ range_symbols x y first last rest a b)
    ∙ ap (λ is. range x y ∷ is) (items_read items rest more)
