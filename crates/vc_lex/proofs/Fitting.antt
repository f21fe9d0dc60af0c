-- Pieces of the grammar are read whole, whatever stands behind them.
use Rattle.std.proofs.Common.{◌≡◌, ◌≢◌, ℕ, ◌+◌, ◌<◌, ◌≤◌, ◌&&◌, ◌||◌, Bool, true, false, List, [], ◌∷◌, ◌++◌, length, drop, Option, Some, None, refl, ap, sym, ◌∙◌, subst, inl, inr, arith, append_assoc, length-append}
use Rattle.std.proofs.Math.Seq.{drop-append_seam}
use Rattle.std.proofs.lemmas.Bool.Decides.{nat_tests}
use Rattle.std.specs.Prelude.{if◌then◌else◌, nat_le, ◌==◌}
use Rattle.std.specs.Option.{option_and_then}
use Rattle.std.specs.List.{prefix_len, list_all}
use Rattle.std.proofs.lemmas.Bool.{eqb-true}
use Rattle.vc_text.specs.Letters.{is_plain, SpellsLetter}
use Rattle.vc_lex.specs.Fronts.{front}
use Rattle.vc_lex.specs.Grammar.{IsLetter, joined, Each, Several, IsItem, IsClassBody, IsNamePart, is_weight_byte, is_name_byte}
use Rattle.vc_lex.specs.Scans.{begins_with, letter_width, range_width, item_behind, item_width, name_width, positive, class_body}
use Rattle.vc_text.specs.declared.letters.LetterAt.{LetterAt}
use Rattle.vc_lex.proofs.Pieces.{Shrinks, front-none, front-some}
use Rattle.vc_lex.proofs.Widths.{items_shrink}
use Rattle.vc_lex.proofs.Begun.{letter_read, letter_begins}

-- pieces that are read whole where C holds of what stands behind them
pub record Fits (P C : List ℕ → Type 0) (width : List ℕ → Option ℕ) : Type 0 where
  pub whole : (piece rest : List ℕ) → P piece → C rest → width (piece ++ rest) ≡ Some (length piece)
  pub keeps : (piece rest : List ℕ) → P piece → C rest → C (piece ++ rest)

module _ {P C : List ℕ → Type 0} {width : List ℕ → Option ℕ} (fits : Fits P C width) where
  behind_keeps : (pieces : List (List ℕ)) (rest : List ℕ) → Each P pieces → C rest → C (joined pieces ++ rest)
  behind_keeps [] rest each c = c
  behind_keeps (a ∷ pieces) rest each c =
      subst C (sym (append_assoc a (joined pieces) rest)) (fits.keeps a (joined pieces ++ rest) each.0 (behind_keeps pieces rest each.1 c))

  -- pieces one behind another are read whole
  pub joined_read : Shrinks width → (pieces : List (List ℕ)) (rest : List ℕ) → Each P pieces → C rest → width rest ≡ None
      → front width (joined pieces ++ rest) ≡ length (joined pieces)
  joined_read shrinks [] rest each c none = front-none width rest none
  joined_read shrinks (a ∷ pieces) rest each c none =
      let behind : List ℕ = joined pieces ++ rest in
      let whole : width (a ++ behind) ≡ Some (length a) = fits.whole a behind each.0 (behind_keeps pieces rest each.1 c) in
      let next : front width (drop (length a) (a ++ behind)) ≡ length (joined pieces) =
      ap (front width) (drop-append_seam a behind) ∙ joined_read shrinks pieces rest each.1 c none in
      ap (front width) (append_assoc a (joined pieces) rest) ∙ front-some width (a ++ behind) (length a) shrinks whole
      ∙ ap (λ n. length a + n) next ∙ sym (length-append a (joined pieces))

  pub several_read : Shrinks width → (text rest : List ℕ) → Several P text → C rest → width rest ≡ None → front width (text ++ rest) ≡ length text
  several_read shrinks text rest several c none =
      subst (λ (t : List ℕ). front width (t ++ rest) ≡ length t) (sym several.1) (joined_read shrinks several.0 rest several.2 c none)

-- anything
abbrev pub Anything : List ℕ → Type 0
Anything s = Unit {0}

pub letters_fit : Fits IsLetter Anything letter_width
letters_fit = record { whole = λ a r is c. letter_begins a r is; keeps = λ a r is c. tt }

-- a part of a name
byte_read : (x : ℕ) (rest : List ℕ) → is_name_byte x ≡ true → name_width (x ∷ rest) ≡ Some 1
byte_read x [] e = ap (λ b. if b then Some 1 else None) e
byte_read x (y ∷ s) e = ap (λ b. if b then Some 1 else (if x == 92 && (y == 34 || y == 92) then Some 2 else None)) e

part_read : (text rest : List ℕ) → IsNamePart text → name_width (text ++ rest) ≡ Some (length text)
part_read text rest (inl (x, is, e)) = subst (λ (t : List ℕ). name_width (t ++ rest) ≡ Some (length t)) (sym e) (byte_read x rest is)
part_read text rest (inr (inl e)) = subst (λ (t : List ℕ). name_width (t ++ rest) ≡ Some (length t)) (sym e) refl
part_read text rest (inr (inr e)) = subst (λ (t : List ℕ). name_width (t ++ rest) ≡ Some (length t)) (sym e) refl

pub names_fit : Fits IsNamePart Anything name_width
names_fit = record { whole = λ a r is c. part_read a r is; keeps = λ a r is c. tt }

-- a text does not begin with this byte
abbrev pub Not : ℕ → List ℕ → Type 0
Not c s = begins_with c s ≡ false

dash_is_not_plain : is_plain 45 ≡ false
unfolding is_plain
dash_is_not_plain = refl

caret_is_not_plain : is_plain 94 ≡ false
unfolding is_plain
caret_is_not_plain = refl

other_byte : (c x : ℕ) (b : Bool) → (x == c) ≡ b → is_plain c ≡ false → is_plain x ≡ true → (x == c) ≡ false
other_byte c x true e unlike plain =
    let same : is_plain x ≡ is_plain c = ap is_plain (eqb-true x c e) in
    absurd (cc)
other_byte c x false e unlike plain = e

-- a letter does not begin with a dash, nor with a caret
letter_not : (c x : ℕ) (text rest : List ℕ) → is_plain c ≡ false → (92 == c) ≡ false → SpellsLetter text x → Not c (text ++ rest)
letter_not c x text rest unlike slash (inl spelled) = subst (λ (t : List ℕ). Not c (t ++ rest)) (sym spelled.1) (other_byte c x (x == c) refl unlike spelled.0)
letter_not c x text rest unlike slash (inr spelled) = subst (λ (t : List ℕ). Not c (t ++ rest)) (sym spelled.1) slash

item_not : (c : ℕ) (text rest : List ℕ) → is_plain c ≡ false → (92 == c) ≡ false → IsItem text → Not c (text ++ rest)
item_not c text rest unlike slash (inl letter) = letter_not c letter.0 text rest unlike slash letter.1
item_not c text rest unlike slash (inr (first, last, x, y, e, is_first, is_last, below)) =
    subst (λ (t : List ℕ). Not c (t ++ rest)) (sym e)
    (subst (Not c) (sym (append_assoc first (45 ∷ last) rest)) (letter_not c x first (45 ∷ (last ++ rest)) unlike slash is_first))

behind_letter : (first : LetterAt) (rest : List ℕ) → Not 45 rest → item_behind first rest ≡ Some first.after
behind_letter first [] unlike = refl
behind_letter first (x ∷ s) unlike = ap (λ b. if b then range_width first s else Some first.after) unlike

letter_item_read : (x : ℕ) (text rest : List ℕ) → SpellsLetter text x → Not 45 rest → item_width (text ++ rest) ≡ Some (length text)
letter_item_read x text rest is unlike =
    let first : LetterAt = record { letter = x; after = 0 + length text } in
    let count : 0 + length text ≡ length text = omega arith in
    let cut : drop (0 + length text) (text ++ rest) ≡ rest = ap (λ n. drop n (text ++ rest)) count ∙ drop-append_seam text rest in
    ap (λ o. option_and_then (λ (l : LetterAt). item_behind l (drop l.after (text ++ rest))) o) (letter_read 0 x text rest is)
    ∙ ap (item_behind first) cut ∙ behind_letter first rest unlike ∙ ap Some count

range_read : (x y : ℕ) (first last rest : List ℕ) → SpellsLetter first x → SpellsLetter last y → x ≤ y
    → item_width (first ++ 45 ∷ (last ++ rest)) ≡ Some (length (first ++ 45 ∷ last))
range_read x y first last rest is_first is_last below =
    let l : LetterAt = record { letter = x; after = 0 + length first } in
    let count : 0 + length first ≡ length first = omega arith in
    let cut : drop (0 + length first) (first ++ 45 ∷ (last ++ rest)) ≡ 45 ∷ (last ++ rest) =
    ap (λ n. drop n (first ++ 45 ∷ (last ++ rest))) count ∙ drop-append_seam first (45 ∷ (last ++ rest)) in
    let ordered : nat_le x y ≡ true = grind (arith, nat_tests) in
    let total : 0 + length first + 1 + length last ≡ length (first ++ 45 ∷ last) = omega (arith, length-append first (45 ∷ last)) in
    ap (λ o. option_and_then (λ (k : LetterAt). item_behind k (drop k.after (first ++ 45 ∷ (last ++ rest)))) o) (letter_read 0 x first (45 ∷ (last ++ rest)) is_first)
    ∙ ap (item_behind l) cut
    ∙ ap (λ o. option_and_then (λ (k : LetterAt). if nat_le x k.letter then Some k.after else None) o) (letter_read (0 + length first + 1) y last rest is_last)
    ∙ ap (λ b. if b then Some (0 + length first + 1 + length last) else None) ordered ∙ ap Some total

item_read : (text rest : List ℕ) → IsItem text → Not 45 rest → item_width (text ++ rest) ≡ Some (length text)
item_read text rest (inl letter) unlike = letter_item_read letter.0 text rest letter.1 unlike
item_read text rest (inr (first, last, x, y, e, is_first, is_last, below)) unlike =
    subst (λ (t : List ℕ). item_width (t ++ rest) ≡ Some (length t)) (sym e)
    (ap item_width (append_assoc first (45 ∷ last) rest) ∙ range_read x y first last rest is_first is_last below)

pub items_fit : Fits IsItem (Not 45) item_width
items_fit = record { whole = item_read; keeps = λ a r is c. item_not 45 a r dash_is_not_plain refl is }

-- bytes of a weight
weight_more : (x : ℕ) (text rest : List ℕ) → prefix_len is_weight_byte (text ++ rest) ≡ length text → (b : Bool) → is_weight_byte x ≡ b
    → (b && list_all is_weight_byte text) ≡ true → (if b then 1 + prefix_len is_weight_byte (text ++ rest) else 0) ≡ length (x ∷ text)
weight_more x text rest same true e all = omega arith
weight_more x text rest same false e all = absurd (cc)

all_behind : (b c : Bool) → (b && c) ≡ true → c ≡ true
all_behind true c e = e
all_behind false c e = absurd (cc)

pub weight_read : (text rest : List ℕ) → list_all is_weight_byte text ≡ true → prefix_len is_weight_byte rest ≡ 0 → prefix_len is_weight_byte (text ++ rest) ≡ length text
weight_read [] rest all none = none
weight_read (x ∷ text) rest all none =
    weight_more x text rest (weight_read text rest (all_behind (is_weight_byte x) (list_all is_weight_byte text) all) none) (is_weight_byte x) refl all

positive_of : (m : ℕ) (b : Bool) → (m == 0) ≡ b → 0 < m → (if b then None else Some m) ≡ Some m
positive_of m true e some =
    let none : m ≡ 0 = eqb-true m 0 e in
    absurd (omega arith)
positive_of m false e some = refl

pub positive_some : (text : List ℕ) (n : ℕ) → n ≡ length text → text ≢ [] → positive n ≡ Some (length text)
positive_some [] n e some = absurd (some refl)
positive_some (x ∷ text) n e some =
    ap positive e ∙ positive_of (length (x ∷ text)) (length (x ∷ text) == 0) refl (omega arith)

-- a class body
class_items : (x : ℕ) (s : List ℕ) (n : ℕ) → Not 94 (x ∷ s) → positive (front item_width (x ∷ s)) ≡ Some n → class_body (x ∷ s) ≡ Some n
class_items x s n unlike e = ap (λ b. if b then Some (1 + front item_width s) else positive (front item_width (x ∷ s))) unlike ∙ e

no_caret : (pieces : List (List ℕ)) (rest : List ℕ) → Each IsItem pieces → joined pieces ≢ [] → Not 94 (joined pieces ++ rest)
no_caret [] rest each some = absurd (some refl)
no_caret (a ∷ pieces) rest each some =
    subst (Not 94) (sym (append_assoc a (joined pieces) rest)) (item_not 94 a (joined pieces ++ rest) caret_is_not_plain refl each.0)

items_body : (text rest : List ℕ) (n : ℕ) → text ≢ [] → Not 94 (text ++ rest) → positive (front item_width (text ++ rest)) ≡ Some n → class_body (text ++ rest) ≡ Some n
items_body [] rest n some unlike e = absurd (some refl)
items_body (x ∷ text) rest n some unlike e = class_items x (text ++ rest) n unlike e

pub class_read : (text rest : List ℕ) → IsClassBody text → Not 45 rest → item_width rest ≡ None → class_body (text ++ rest) ≡ Some (length text)
class_read text rest (inl (items, some)) unlike none =
    let begins : Not 94 (text ++ rest) = subst (λ (t : List ℕ). Not 94 (t ++ rest)) (sym items.1) (no_caret items.0 rest items.2 (λ e. some (items.1 ∙ e))) in
    items_body text rest (length text) some begins
    (positive_some text (front item_width (text ++ rest)) (several_read items_fit items_shrink text rest items unlike none) some)
class_read text rest (inr (items, e, several)) unlike none =
    let more : 1 + length items ≡ length (94 ∷ items) = omega arith in
    subst (λ (t : List ℕ). class_body (t ++ rest) ≡ Some (length t)) (sym e)
    (ap (λ n. Some (1 + n)) (several_read items_fit items_shrink items rest several unlike none) ∙ ap Some more)
