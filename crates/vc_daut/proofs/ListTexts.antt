-- Texts of lists, one element after another.
use Rattle.std.proofs.Common.{◌≡◌, ℕ, zero, suc, ◌+◌, ◌<◌, ◌≤◌, Bool, true, false, ◌&&◌, List, [], ◌∷◌, ◌++◌, length, map, take, get_or, refl, ap, sym, ◌∙◌, append_assoc, append-nil, arith}
use Rattle.std.specs.Prelude.{IsTrue, nat_le}
use Rattle.std.specs.List.{flat_map}
use Rattle.std.proofs.lemmas.Bool.Decides.{nat_tests}
use Rattle.std.proofs.lemmas.Grind.{flat_map-append}
use Rattle.std.proofs.lemmas.List.{take_more, map-append}
use Rattle.vc_text.specs.Letters.{letter_text}
use Rattle.vc_label.specs.Letters.{is_letter, are_letters}
use Rattle.vc_model.specs.Lists.{up_from, below}
use Rattle.vc_model.specs.Words.{Tape}
use Rattle.vc_model.specs.Members.{up_from-more}
use Rattle.vc_daut.specs.Canonical.{listed, part_text}

both_true : (a b : Bool) → a && b ≡ true → (a ≡ true) × (b ≡ true)
both_true true true h = (refl, refl)
both_true true false h = absurd (cc)
both_true false b h = absurd (cc)

-- ---- letters

letter_low : (x : ℕ) → is_letter x ≡ true → x < 128
letter_low x h = let each = both_true (nat_le 0x21 x) (nat_le x 0x7e) h in grind (arith, nat_tests)

pub letter_below : (s : List ℕ) (i : ℕ) → IsTrue (are_letters s) → i < length s → get_or s i 0 < 128
letter_below [] i h l = absurd (omega arith)
letter_below (x ∷ s) zero h l = letter_low x (both_true (is_letter x) (are_letters s) h).0
letter_below (x ∷ s) (suc i) h l = letter_below s i (both_true (is_letter x) (are_letters s) h).1 (omega arith)

pub part_some : (s : Tape) → 0 < length s → part_text s ≡ flat_map letter_text s
part_some [] l = absurd (omega arith)
part_some (x ∷ s) l = refl

-- ---- one more piece

pub piece_next : {X : Type 0} (h : X → List ℕ) (xs : List X) (i : ℕ) (d : X) → i < length xs → flat_map h (take (i + 1) xs) ≡ flat_map h (take i xs) ++ h (get_or xs i d)
piece_next h xs i d l =
    ap (flat_map h) (take_more xs i d l) ∙ flat_map-append h (take i xs) (get_or xs i d ∷ []) ∙ ap (λ t. flat_map h (take i xs) ++ t) (append-nil (h (get_or xs i d)))

listed_one : (sep : List ℕ) (text : List ℕ) (texts : List (List ℕ)) (last : List ℕ) → listed sep ((text ∷ texts) ++ last ∷ []) ≡ listed sep (text ∷ texts) ++ (sep ++ last)
listed_one sep text texts last =
    ap (λ t. text ++ t) (flat_map-append (λ t. sep ++ t) texts (last ∷ []) ∙ ap (λ t. flat_map (λ u. sep ++ u) texts ++ t) (append-nil (sep ++ last)))
    ∙ sym (append_assoc text (flat_map (λ u. sep ++ u) texts) (sep ++ last))

listed_more : (sep : List ℕ) (texts : List (List ℕ)) (last : List ℕ) → 0 < length texts → listed sep (texts ++ last ∷ []) ≡ listed sep texts ++ (sep ++ last)
listed_more sep [] last l = absurd (omega arith)
listed_more sep (text ∷ texts) last l = listed_one sep text texts last

taken : {X : Type 0} (xs : List X) (i : ℕ) → 1 ≤ i → i < length xs → 0 < length (take i xs)
taken [] i low l = absurd (omega arith)
taken (x ∷ xs) zero low l = absurd (omega arith)
taken (x ∷ xs) (suc i) low l = omega arith

length-map-is : {X Y : Type 0} (f : X → Y) (xs : List X) → length (map f xs) ≡ length xs
length-map-is f [] = refl
length-map-is f (x ∷ xs) = ap suc (length-map-is f xs)

pub take_whole : {X : Type 0} (xs : List X) (i : ℕ) → length xs ≤ i → take i xs ≡ xs
take_whole [] zero l = refl
take_whole [] (suc i) l = refl
take_whole (x ∷ xs) zero l = absurd (omega arith)
take_whole (x ∷ xs) (suc i) l = ap (λ ys. x ∷ ys) (take_whole xs i (omega arith))

pub mapped_next : {X Y : Type 0} (f : X → Y) (xs : List X) (i : ℕ) (x : X) → i < length xs → x ≡ get_or xs i x → map f (take (i + 1) xs) ≡ map f (take i xs) ++ f x ∷ []
mapped_next f xs i x l is =
    ap (map f) (take_more xs i x l) ∙ map-append f (take i xs) (get_or xs i x ∷ []) ∙ ap (λ y. map f (take i xs) ++ f y ∷ []) (sym is)

pub listed_next : {X Y : Type 0} (sep : List ℕ) (g : Y → List ℕ) (f : X → Y) (xs : List X) (i : ℕ) (x : X) → 1 ≤ i → i < length xs → x ≡ get_or xs i x
    → listed sep (map g (map f (take (i + 1) xs))) ≡ listed sep (map g (map f (take i xs))) ++ (sep ++ g (f x))
listed_next sep g f xs i x low l is =
    ap (λ ys. listed sep (map g ys)) (mapped_next f xs i x l is) ∙ ap (listed sep) (map-append g (map f (take i xs)) (f x ∷ []))
    ∙ listed_more sep (map g (map f (take i xs))) (g (f x)) (omega (arith, length-map-is g (map f (take i xs)), length-map-is f (take i xs), taken xs i low l))

-- a text that grew by what was to come
pub text_step : (old s t a b c : List ℕ) → s ≡ old ++ a → t ≡ s ++ b → c ≡ a ++ b → t ≡ old ++ c
text_step old s t a b c before added more = added ∙ ap (λ u. u ++ b) before ∙ append_assoc old a b ∙ ap (λ u. old ++ u) (sym more)

-- ---- one more number

pub number_next : {X : Type 0} (h : ℕ → List X) (n : ℕ) → flat_map h (below (n + 1)) ≡ flat_map h (below n) ++ h n
number_next h n =
    ap (flat_map h) (up_from-more 0 n ∙ ap (λ m. up_from 0 n ++ m ∷ []) (omega arith)) ∙ flat_map-append h (below n) (n ∷ []) ∙ ap (λ t. flat_map h (below n) ++ t) (append-nil (h n))

pub lines_next : {X : Type 0} (line : X → List ℕ) (h : ℕ → List X) (n : ℕ) (s t all : List ℕ)
    → s ≡ all ++ flat_map line (flat_map h (below n)) → t ≡ s ++ flat_map line (h n) → t ≡ all ++ flat_map line (flat_map h (below (n + 1)))
lines_next line h n s t all before added =
    added ∙ ap (λ u. u ++ flat_map line (h n)) before ∙ append_assoc all (flat_map line (flat_map h (below n))) (flat_map line (h n))
    ∙ ap (λ u. all ++ u) (sym (ap (flat_map line) (number_next h n) ∙ flat_map-append line (flat_map h (below n)) (h n)))
