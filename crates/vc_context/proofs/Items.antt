-- Letters and items at the front of a text.
use Rattle.std.proofs.Common.{◌≡◌, ℕ, ◌+◌, ◌≤◌, Bool, true, false, ◌&&◌, List, [], ◌∷◌, ◌++◌, drop, Some, None, refl, ap, sym, ◌∙◌, subst, append_assoc, inl, inr, arith}
use Rattle.std.proofs.lemmas.Bool.{eqb-true}
use Rattle.std.proofs.lemmas.Bool.Decides.{nat_tests}
use Rattle.std.specs.Option.{option_map}
use Rattle.std.specs.Prelude.{if◌then◌else◌, ◌==◌, nat_le}
use Rattle.vc_context.specs.Reading.{letter_front, single, range_to, item_behind, item_front}
use Rattle.vc_context.specs.Spelling.{Range, SpellsItem}
use Rattle.vc_context.proofs.Fronts.{both_true}
use Rattle.vc_context.proofs.Steps.{bind_some, bind_is, found, found_is}
use Rattle.vc_text.specs.Letters.{SpellsLetter, is_plain, is_escaped}
use Rattle.vc_text.specs.declared.letters.LetterAt.{LetterAt}

slash_is_not_plain : is_plain 92 ≡ false
unfolding is_plain
slash_is_not_plain = refl

-- ---- a letter is read

plain_at : (x : ℕ) (rest : List ℕ) → is_plain x ≡ true → letter_front (x ∷ rest) ≡ Some (x, rest)
plain_at x [] e = ap (λ b. option_map (λ (l : LetterAt). (l.letter, drop l.after (x ∷ []))) (if b then Some (record { letter = x; after = 0 + 1 }) else None)) e
plain_at x (y ∷ s) e =
    ap (λ b. option_map (λ (l : LetterAt). (l.letter, drop l.after (x ∷ y ∷ s))) (if b then Some (record { letter = x; after = 0 + 1 }) else (if x == 92 && is_escaped y then Some (record { letter = y; after = 0 + 2 }) else None))) e

escaped_at : (x : ℕ) (rest : List ℕ) → is_escaped x ≡ true → letter_front (92 ∷ x ∷ rest) ≡ Some (x, rest)
escaped_at x rest e =
    ap (λ b. option_map (λ (l : LetterAt). (l.letter, drop l.after (92 ∷ x ∷ rest))) (if b then Some (record { letter = 92; after = 0 + 1 }) else (if is_escaped x then Some (record { letter = x; after = 0 + 2 }) else None))) slash_is_not_plain
    ∙ ap (λ b. option_map (λ (l : LetterAt). (l.letter, drop l.after (92 ∷ x ∷ rest))) (if b then Some (record { letter = x; after = 0 + 2 }) else None)) e

pub letter_read : (x : ℕ) (text rest : List ℕ) → SpellsLetter text x → letter_front (text ++ rest) ≡ Some (x, rest)
letter_read x text rest (inl spelled) = ap (λ (t : List ℕ). letter_front (t ++ rest)) spelled.1 ∙ plain_at x rest spelled.0
letter_read x text rest (inr spelled) = ap (λ (t : List ℕ). letter_front (t ++ rest)) spelled.1 ∙ escaped_at x rest spelled.0

-- ---- what is read is a letter

-- a letter that was read from a text
abbrev seen : List ℕ → LetterAt → ℕ × List ℕ
seen s l = (l.letter, drop l.after s)

-- a letter, and what stands behind it
abbrev Letter : List ℕ → ℕ → List ℕ → Type 0
Letter s x rest = (text : List ℕ) × (s ≡ text ++ rest) × SpellsLetter text x

from_plain : (y x : ℕ) (s rest : List ℕ) → is_plain y ≡ true → found y s ≡ found x rest → Letter (y ∷ s) x rest
from_plain y x s rest plain e =
    let (same, behind) = found_is y x s rest e in
    (y ∷ [], ap (λ t. y ∷ t) behind, inl (subst (λ z. is_plain z ≡ true) same plain, ap (λ z. z ∷ []) same))

from_one : (y x : ℕ) (rest : List ℕ) (b : Bool) → is_plain y ≡ b
    → option_map (seen (y ∷ [])) (if b then Some (record { letter = y; after = 0 + 1 }) else None) ≡ found x rest
    → Letter (y ∷ []) x rest
from_one y x rest true plain e = from_plain y x [] rest plain e
from_one y x rest false plain e = absurd (cc)

from_two : (y z x : ℕ) (s rest : List ℕ) (b c : Bool) → is_plain y ≡ b → (y == 92 && is_escaped z) ≡ c
    → option_map (seen (y ∷ z ∷ s)) (if b then Some (record { letter = y; after = 0 + 1 }) else (if c then Some (record { letter = z; after = 0 + 2 }) else None)) ≡ found x rest
    → Letter (y ∷ z ∷ s) x rest
from_two y z x s rest true c plain escaped e = from_plain y x (z ∷ s) rest plain e
from_two y z x s rest false true plain escaped e =
    let both = both_true (y == 92) (is_escaped z) escaped in
    let (same, behind) = found_is z x s rest e in (
      y ∷ z ∷ [],
      ap (λ t. y ∷ z ∷ t) behind,
      inr (subst (λ w. is_escaped w ≡ true) same both.1, ap (λ w. w ∷ z ∷ []) (eqb-true y 92 both.0) ∙ ap (λ w. 92 ∷ w ∷ []) same),
    )
from_two y z x s rest false false plain escaped e = absurd (cc)

pub letter_sound : (s : List ℕ) (x : ℕ) (rest : List ℕ) → letter_front s ≡ Some (x, rest) → (text : List ℕ) × (s ≡ text ++ rest) × SpellsLetter text x
letter_sound [] x rest e = absurd (cc)
letter_sound (y ∷ []) x rest e = from_one y x rest (is_plain y) refl e
letter_sound (y ∷ z ∷ s) x rest e = from_two y z x s rest (is_plain y) (y == 92 && is_escaped z) refl refl e

-- ---- items

-- the text does not begin with `-`
abbrev pub NoDash : List ℕ → Type 0
NoDash [] = Unit {0}
NoDash (x ∷ s) = (x == 45) ≡ false

behind_one : (x : ℕ) (rest : List ℕ) → NoDash rest → item_behind x rest ≡ Some (single x, rest)
behind_one x [] free = refl
behind_one x (y ∷ s) free = ap (λ b. if b then range_to x s else Some (single x, y ∷ s)) free

pub item_read : (r : Range) (item rest : List ℕ) → SpellsItem item r → NoDash rest → item_front (item ++ rest) ≡ Some (r, rest)
item_read r item rest (inl (spelled, same)) free =
    let one : single r.first ≡ r = ap (λ l. (let q : Range = record { first = r.first; last = l } in q)) (sym same) in
    bind_is (letter_front (item ++ rest)) (λ l. item_behind l.0 l.1) (r.first, rest) (letter_read r.first item rest spelled)
    ∙ behind_one r.first rest free ∙ ap (λ (q : Range). Some (q, rest)) one
item_read r item rest (inr (first, last, text, is_first, is_last, below)) free =
    let ordered : nat_le r.first r.last ≡ true = grind (arith, nat_tests) in
    ap (λ (t : List ℕ). item_front (t ++ rest)) text ∙ ap item_front (append_assoc first (45 ∷ last) rest)
    ∙ bind_is (letter_front (first ++ 45 ∷ (last ++ rest))) (λ l. item_behind l.0 l.1) (r.first, 45 ∷ (last ++ rest)) (letter_read r.first first (45 ∷ (last ++ rest)) is_first)
    ∙ bind_is (letter_front (last ++ rest)) (λ l. if nat_le r.first l.0 then Some (record { first = r.first; last = l.0 }, l.1) else None) (r.last, rest) (letter_read r.last last rest is_last)
    ∙ ap (λ b. if b then Some (record { first = r.first; last = r.last }, rest) else None) ordered

-- an item, and what stands behind it
abbrev Item : List ℕ → Range → List ℕ → Type 0
Item s r rest = (item : List ℕ) × (s ≡ item ++ rest) × SpellsItem item r

from_single : (s text behind rest : List ℕ) (x : ℕ) (r : Range) → s ≡ text ++ behind → SpellsLetter text x → found (single x) behind ≡ found r rest → Item s r rest
from_single s text behind rest x r e spelled f =
    let (same, end) = found_is (single x) r behind rest f in
    (text, e ∙ ap (λ t. text ++ t) end, subst (λ (q : Range). SpellsItem text q) same (inl (spelled, refl)))

from_range : (s text tail rest : List ℕ) (x y : ℕ) (behind : List ℕ) (r : Range) (b : Bool) → s ≡ text ++ 45 ∷ tail → SpellsLetter text x → Letter tail y behind
    → nat_le x y ≡ b → (if b then found (record { first = x; last = y }) behind else None) ≡ found r rest → Item s r rest
from_range s text tail rest x y behind r true e spelled (last, f, spelled_last) ordered g =
    let range : Range = record { first = x; last = y } in
    let (same, end) = found_is range r behind rest g in
    let below : x ≤ y = grind (arith, nat_tests) in (
      text ++ 45 ∷ last,
      e ∙ ap (λ t. text ++ 45 ∷ t) (f ∙ ap (λ t. last ++ t) end) ∙ sym (append_assoc text (45 ∷ last) rest),
      subst (λ (q : Range). SpellsItem (text ++ 45 ∷ last) q) same (inr (text, last, refl, spelled, spelled_last, below)),
    )
from_range s text tail rest x y behind r false e spelled found ordered g = absurd (cc)

from_behind : (s text : List ℕ) (x : ℕ) (behind rest : List ℕ) (r : Range) → s ≡ text ++ behind → SpellsLetter text x → item_behind x behind ≡ Some (r, rest) → Item s r rest
from_behind s text x [] rest r e spelled f = from_single s text [] rest x r e spelled f
from_behind s text x (y ∷ tail) rest r e spelled f = at_byte (y == 45) refl f
  where
    at_byte : (b : Bool) → (y == 45) ≡ b → (if b then range_to x tail else found (single x) (y ∷ tail)) ≡ found r rest → Item s r rest
    at_byte true dash g =
        let last = bind_some (letter_front tail) (λ l. if nat_le x l.0 then Some (record { first = x; last = l.0 }, l.1) else None) (r, rest) g in
        from_range s text tail rest x last.0.0 last.0.1 r (nat_le x last.0.0) (e ∙ ap (λ z. text ++ z ∷ tail) (eqb-true y 45 dash)) spelled
        (letter_sound tail last.0.0 last.0.1 last.1) refl last.2
    at_byte false other g = from_single s text (y ∷ tail) rest x r e spelled g

pub item_sound : (s : List ℕ) (r : Range) (rest : List ℕ) → item_front s ≡ Some (r, rest) → (item : List ℕ) × (s ≡ item ++ rest) × SpellsItem item r
item_sound s r rest e =
    let first = bind_some (letter_front s) (λ l. item_behind l.0 l.1) (r, rest) e in
    let letter = letter_sound s first.0.0 first.0.1 first.1 in
    from_behind s letter.0 first.0.0 first.0.1 rest r letter.1 letter.2 first.2
