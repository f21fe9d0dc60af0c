-- What is read is what the grammar says: letters, items, parts of names, and bodies.
use Rattle.std.proofs.Common.{◌≡◌, ◌≢◌, ℕ, zero, suc, ◌+◌, ◌-◌, ◌<◌, ◌≤◌, ◌&&◌, ◌||◌, ◌⊎◌, Bool, true, false, List, [], ◌∷◌, ◌++◌, length, take, drop, Option, Some, None, refl, ap, ◌∙◌, subst, inl, inr, arith, zero-add, length-take}
use Rattle.std.proofs.lemmas.Grind.{common_steps}
use Rattle.std.proofs.lemmas.Bool.Decides.{nat_tests}
use Rattle.std.proofs.lemmas.Bool.{eqb-true}
use Rattle.std.proofs.lemmas.List.Sums.{prefix_len-le-length}
use Rattle.std.specs.Prelude.{if◌then◌else◌, nat_le, ◌==◌}
use Rattle.std.specs.Option.{option_map, option_map_or, option_and_then}
use Rattle.std.specs.List.{prefix_len, list_all}
use Rattle.vc_text.specs.Letters.{is_plain, is_escaped, letter_in, SpellsLetter}
use Rattle.vc_lex.specs.Fronts.{front, front_by}
use Rattle.vc_lex.specs.Grammar.{IsLetter, Several, IsItem, IsClassBody, IsWeightBody, IsNamePart, is_weight_byte, is_name_byte}
use Rattle.vc_lex.specs.Scans.{letter_width, range_width, item_behind, item_width, name_width, positive, class_body}
use Rattle.vc_text.specs.declared.letters.LetterAt.{LetterAt}
use Rattle.vc_lex.proofs.Pieces.{front-le}
use Rattle.vc_lex.proofs.Widths.{letter_some, items_shrink}

pub take_sum : (i j : ℕ) (s : List ℕ) → take (i + j) s ≡ take i s ++ take j (drop i s)
take_sum zero j s = rw zero-add refl
take_sum (suc i) j [] = grind (arith, common_steps)
take_sum (suc i) j (x ∷ s) =
    let same : suc i + j ≡ suc (i + j) = omega arith in
    ap (λ n. take n (x ∷ s)) same ∙ ap (λ t. x ∷ t) (take_sum i j s)

-- the pieces at the front are pieces of the grammar
several_more : (P : List ℕ → Type 0) (width : List ℕ → Option ℕ) (n : ℕ) (s : List ℕ)
    → ((w : ℕ) → Several P (take (front_by width n (drop w s)) (drop w s)))
    → ((w : ℕ) → width s ≡ Some w → P (take w s)) → (o : Option ℕ) → width s ≡ o
    → Several P (take (option_map_or (λ w. w + front_by width n (drop w s)) o 0) s)
several_more P width n s rest reads None e = ([], refl, tt)
several_more P width n s rest reads (Some w) e =
    let behind = rest w in
    (take w s ∷ behind.0, take_sum w (front_by width n (drop w s)) s ∙ ap (λ t. take w s ++ t) behind.1, (reads w e, behind.2))

front_by_several : (P : List ℕ → Type 0) (width : List ℕ → Option ℕ) → ((s : List ℕ) (w : ℕ) → width s ≡ Some w → P (take w s)) → (n : ℕ) (s : List ℕ) → Several P (take (front_by width n s) s)
front_by_several P width reads zero s = ([], refl, tt)
front_by_several P width reads (suc n) s = several_more P width n s (λ w. front_by_several P width reads n (drop w s)) (reads s) (width s) refl

pub front_several : (P : List ℕ → Type 0) (width : List ℕ → Option ℕ) → ((s : List ℕ) (w : ℕ) → width s ≡ Some w → P (take w s)) → (s : List ℕ) → Several P (take (front width s) s)
front_several P width reads s = front_by_several P width reads (length s) s

-- a letter, from its first byte or its first two
letter_from_one : (at x : ℕ) (l : LetterAt) (b : Bool) → is_plain x ≡ b → (if b then Some (record { letter = x; after = at + 1 }) else None) ≡ Some l → SpellsLetter (take (l.after - at) (x ∷ [])) l.letter
letter_from_one at x l true p e =
    let same : 1 ≡ l.after - at = grind (arith, common_steps) in
    let letter : x ≡ l.letter = grind (arith, common_steps) in
    subst (λ (k : ℕ). SpellsLetter (take k (x ∷ [])) l.letter) same (subst (λ (y : ℕ). SpellsLetter (x ∷ []) y) letter (inl (p, refl)))
letter_from_one at x l false p e = absurd (cc)

letter_from_two : (at x y : ℕ) (s : List ℕ) (l : LetterAt) (b c : Bool) → is_plain x ≡ b → (x == 92 && is_escaped y) ≡ c
    → (if b then Some (record { letter = x; after = at + 1 }) else (if c then Some (record { letter = y; after = at + 2 }) else None)) ≡ Some l
    → SpellsLetter (take (l.after - at) (x ∷ y ∷ s)) l.letter
letter_from_two at x y s l true c p q e =
    let same : 1 ≡ l.after - at = grind (arith, common_steps) in
    let letter : x ≡ l.letter = grind (arith, common_steps) in
    subst (λ (k : ℕ). SpellsLetter (take k (x ∷ y ∷ s)) l.letter) same (subst (λ (z : ℕ). SpellsLetter (x ∷ []) z) letter (inl (p, refl)))
letter_from_two at x y s l false true p q e =
    let same : 2 ≡ l.after - at = grind (arith, common_steps) in
    let letter : y ≡ l.letter = grind (arith, common_steps) in
    let slash : x ≡ 92 = grind (arith, common_steps, nat_tests) in
    let escaped : is_escaped y ≡ true = grind (arith, common_steps) in
    subst (λ (k : ℕ). SpellsLetter (take k (x ∷ y ∷ s)) l.letter) same (subst (λ (z : ℕ). SpellsLetter (x ∷ y ∷ []) z) letter (inr (escaped, ap (λ z. z ∷ y ∷ []) slash)))
letter_from_two at x y s l false false p q e = absurd (cc)

-- the letter that begins a text is spelled by its bytes
pub letter_text : (at : ℕ) (s : List ℕ) (l : LetterAt) → letter_in at s ≡ Some l → SpellsLetter (take (l.after - at) s) l.letter
letter_text at [] l e = absurd (cc)
letter_text at (x ∷ []) l e = letter_from_one at x l (is_plain x) refl e
letter_text at (x ∷ y ∷ s) l e = letter_from_two at x y s l (is_plain x) (x == 92 && is_escaped y) refl refl e

width_of_letter : (s : List ℕ) (w : ℕ) (o : Option LetterAt) → letter_in 0 s ≡ o → option_map (λ (l : LetterAt). l.after) o ≡ Some w → IsLetter (take w s)
width_of_letter s w None e f = absurd (cc)
width_of_letter s w (Some l) e f =
    let same : l.after - 0 ≡ w = grind (arith, common_steps) in
    (l.letter, subst (λ (k : ℕ). SpellsLetter (take k s) l.letter) same (letter_text 0 s l e))

pub reads_letter : (s : List ℕ) (w : ℕ) → letter_width s ≡ Some w → IsLetter (take w s)
reads_letter s w e = width_of_letter s w (letter_in 0 s) refl e

-- a part of a name
name_from_one : (x w : ℕ) (s : List ℕ) (b : Bool) → is_name_byte x ≡ b → b ≡ true → 1 ≡ w → IsNamePart (take w (x ∷ s))
name_from_one x w s b p q e = subst (λ (k : ℕ). IsNamePart (take k (x ∷ s))) e (inl (x, p ∙ q, refl))

name_from_only : (x w : ℕ) (b : Bool) → is_name_byte x ≡ b → (if b then Some 1 else None) ≡ Some w → IsNamePart (take w (x ∷ []))
name_from_only x w true p e = name_from_one x w [] true p refl (cc)
name_from_only x w false p e = absurd (cc)

one_of : (y : ℕ) → (y == 34 || y == 92) ≡ true → (y ≡ 34) ⊎ (y ≡ 92)
one_of y e = grind (arith, common_steps, nat_tests)

second_byte : (x y : ℕ) → x ≡ 92 → (y ≡ 34) ⊎ (y ≡ 92) → IsNamePart (x ∷ y ∷ [])
second_byte x y slash (inl quote) = inr (inl (ap (λ z. z ∷ y ∷ []) slash ∙ ap (λ z. 92 ∷ z ∷ []) quote))
second_byte x y slash (inr other) = inr (inr (ap (λ z. z ∷ y ∷ []) slash ∙ ap (λ z. 92 ∷ z ∷ []) other))

name_from_two : (x y w : ℕ) (s : List ℕ) (b c : Bool) → is_name_byte x ≡ b → (x == 92 && (y == 34 || y == 92)) ≡ c
    → (if b then Some 1 else (if c then Some 2 else None)) ≡ Some w → IsNamePart (take w (x ∷ y ∷ s))
name_from_two x y w s true c p q e = name_from_one x w (y ∷ s) true p refl (cc)
name_from_two x y w s false true p q e =
    let same : 2 ≡ w = cc in
    let slash : x ≡ 92 = grind (arith, common_steps, nat_tests) in
    let which : (y ≡ 34) ⊎ (y ≡ 92) = one_of y (grind (arith, common_steps)) in
    subst (λ (k : ℕ). IsNamePart (take k (x ∷ y ∷ s))) same (second_byte x y slash which)
name_from_two x y w s false false p q e = absurd (cc)

pub reads_name : (s : List ℕ) (w : ℕ) → name_width s ≡ Some w → IsNamePart (take w s)
reads_name [] w e = absurd (cc)
reads_name (x ∷ []) w e = name_from_only x w (is_name_byte x) refl e
reads_name (x ∷ y ∷ s) w e = name_from_two x y w s (is_name_byte x) (x == 92 && (y == 34 || y == 92)) refl refl e

first_text : (s : List ℕ) (first : LetterAt) → letter_in 0 s ≡ Some first → SpellsLetter (take first.after s) first.letter
first_text s first e =
    let same : first.after - 0 ≡ first.after = omega arith in
    subst (λ (k : ℕ). SpellsLetter (take k s) first.letter) same (letter_text 0 s first e)

-- an item of one letter
item_of_letter : (s : List ℕ) (w : ℕ) (first : LetterAt) → letter_in 0 s ≡ Some first → first.after ≡ w → IsItem (take w s)
item_of_letter s w first e same =
    let spelled : SpellsLetter (take first.after s) first.letter = first_text s first e in
    inl (subst (λ (k : ℕ). IsLetter (take k s)) same (first.letter, spelled))

-- a range: its text is that of its first letter, a dash, and that of its last
range_text : (s t : List ℕ) (f w : ℕ) → drop f s ≡ 45 ∷ t → f + 1 ≤ w → take w s ≡ take f s ++ 45 ∷ take (w - (f + 1)) t
range_text s t f w e below =
    let k : ℕ = w - (f + 1) in
    let sum : w ≡ f + suc k = omega arith in
    ap (λ n. take n s) sum ∙ take_sum f (suc k) s ∙ ap (λ u. take f s ++ take (suc k) u) e

item_of_range : (s t : List ℕ) (w : ℕ) (first : LetterAt) (o : Option LetterAt) → letter_in 0 s ≡ Some first → drop first.after s ≡ 45 ∷ t
    → letter_in (first.after + 1) t ≡ o → (b : Bool) (last : LetterAt) → o ≡ Some last → nat_le first.letter last.letter ≡ b
    → (if b then Some last.after else None) ≡ Some w → IsItem (take w s)
item_of_range s t w first o e dash f true last g ordered h =
    let same : last.after ≡ w = cc in
    let behind = letter_some (first.after + 1) t last (f ∙ g) in
    let spelled : SpellsLetter (take first.after s) first.letter = first_text s first e in
    let spelled_last : SpellsLetter (take (last.after - (first.after + 1)) t) last.letter = letter_text (first.after + 1) t last (f ∙ g) in
    let below : first.letter ≤ last.letter = grind (arith, nat_tests) in
    let text = range_text s t first.after last.after dash (omega arith) in
    subst (λ (k : ℕ). IsItem (take k s)) same
    (inr (take first.after s, take (last.after - (first.after + 1)) t, first.letter, last.letter, text, spelled, spelled_last, below))
item_of_range s t w first o e dash f false last g ordered h = absurd (cc)

item_with_range : (s t : List ℕ) (w : ℕ) (first : LetterAt) → letter_in 0 s ≡ Some first → drop first.after s ≡ 45 ∷ t
    → (o : Option LetterAt) → letter_in (first.after + 1) t ≡ o
    → option_and_then (λ (last : LetterAt). if nat_le first.letter last.letter then Some last.after else None) o ≡ Some w → IsItem (take w s)
item_with_range s t w first e dash None f h = absurd (cc)
item_with_range s t w first e dash (Some last) f h =
    item_of_range s t w first (Some last) e dash f (nat_le first.letter last.letter) last refl refl h

item_at_byte : (s t : List ℕ) (x w : ℕ) (first : LetterAt) → letter_in 0 s ≡ Some first → drop first.after s ≡ x ∷ t
    → (b : Bool) → (x == 45) ≡ b → (if b then range_width first t else Some first.after) ≡ Some w → IsItem (take w s)
item_at_byte s t x w first e rest true dash h =
    let is_dash : x ≡ 45 = eqb-true x 45 dash in
    item_with_range s t w first e (rest ∙ ap (λ z. z ∷ t) is_dash) (letter_in (first.after + 1) t) refl h
item_at_byte s t x w first e rest false other h = item_of_letter s w first e (cc)

item_behind_text : (s : List ℕ) (w : ℕ) (first : LetterAt) → letter_in 0 s ≡ Some first → (rest : List ℕ) → drop first.after s ≡ rest
    → item_behind first rest ≡ Some w → IsItem (take w s)
item_behind_text s w first e [] rest h = item_of_letter s w first e (cc)
item_behind_text s w first e (x ∷ t) rest h = item_at_byte s t x w first e rest (x == 45) refl h

item_from : (s : List ℕ) (w : ℕ) (o : Option LetterAt) → letter_in 0 s ≡ o
    → option_and_then (λ (first : LetterAt). item_behind first (drop first.after s)) o ≡ Some w → IsItem (take w s)
item_from s w None e h = absurd (cc)
item_from s w (Some first) e h = item_behind_text s w first e (drop first.after s) refl h

pub reads_item : (s : List ℕ) (w : ℕ) → item_width s ≡ Some w → IsItem (take w s)
reads_item s w e = item_from s w (letter_in 0 s) refl e

-- a front that has bytes is not empty
pub taken_some : (n : ℕ) (s : List ℕ) → 0 < n → n ≤ length s → take n s ≢ []
taken_some n s some within e =
    let none : length (take n s) ≡ 0 = ap length e in
    absurd (omega (arith, length-take {A = ℕ}))

positive_is : (m n : ℕ) (b : Bool) → (m == 0) ≡ b → (if b then None else Some m) ≡ Some n → (m ≡ n) × (0 < n)
positive_is m n true e f = absurd (cc)
positive_is m n false e f = (cc, grind (arith, nat_tests, common_steps))

weight_byte : (x : ℕ) (s : List ℕ) → list_all is_weight_byte (take (prefix_len is_weight_byte s) s) ≡ true → (b : Bool) → is_weight_byte x ≡ b
    → list_all is_weight_byte (take (if b then 1 + prefix_len is_weight_byte s else 0) (x ∷ s)) ≡ true
weight_byte x s rest true e =
    let more : 1 + prefix_len is_weight_byte s ≡ suc (prefix_len is_weight_byte s) = omega arith in
    ap (λ n. list_all is_weight_byte (take n (x ∷ s))) more ∙ ap (λ c. c && list_all is_weight_byte (take (prefix_len is_weight_byte s) s)) e ∙ rest
weight_byte x s rest false e = refl

weight_bytes : (s : List ℕ) → list_all is_weight_byte (take (prefix_len is_weight_byte s) s) ≡ true
weight_bytes [] = refl
weight_bytes (x ∷ s) = weight_byte x s (weight_bytes s) (is_weight_byte x) refl

pub reads_weight : (s : List ℕ) (n : ℕ) → positive (prefix_len is_weight_byte s) ≡ Some n → IsWeightBody (take n s)
reads_weight s n e =
    let is = positive_is (prefix_len is_weight_byte s) n (prefix_len is_weight_byte s == 0) refl e in
    let within : n ≤ length s = subst (λ (k : ℕ). k ≤ length s) is.0 (prefix_len-le-length is_weight_byte s) in
    (subst (λ (k : ℕ). list_all is_weight_byte (take k s) ≡ true) is.0 (weight_bytes s), taken_some n s is.1 within)

class_from : (x n : ℕ) (s : List ℕ) (b : Bool) → (x == 94) ≡ b
    → (if b then Some (1 + front item_width s) else positive (front item_width (x ∷ s))) ≡ Some n → IsClassBody (take n (x ∷ s))
class_from x n s true caret e =
    let same : suc (front item_width s) ≡ n = grind (arith, common_steps) in
    let is_caret : x ≡ 94 = eqb-true x 94 caret in
    subst (λ (k : ℕ). IsClassBody (take k (x ∷ s))) same
    (inr (take (front item_width s) s, ap (λ z. z ∷ take (front item_width s) s) is_caret, front_several IsItem item_width reads_item s))
class_from x n s false other e =
    let is = positive_is (front item_width (x ∷ s)) n (front item_width (x ∷ s) == 0) refl e in
    let within : n ≤ length (x ∷ s) = subst (λ (k : ℕ). k ≤ length (x ∷ s)) is.0 (front-le item_width (x ∷ s) items_shrink) in
    inl (subst (λ (k : ℕ). Several IsItem (take k (x ∷ s))) is.0 (front_several IsItem item_width reads_item (x ∷ s)), taken_some n (x ∷ s) is.1 within)

pub reads_class : (s : List ℕ) (n : ℕ) → class_body s ≡ Some n → IsClassBody (take n s)
reads_class [] n e = absurd (cc)
reads_class (x ∷ s) n e = class_from x n s (x == 94) refl e
