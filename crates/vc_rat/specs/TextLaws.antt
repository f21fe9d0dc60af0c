-- That the canonical text of a rational number is read again.
use Rattle.std.specs.Prelude.{ℕ, zero, suc, ◌≡◌, ◌+◌, ◌==◌, ◌<◌, ◌^◌, Bool, true, false, not, cond, ◌&&◌, IsTrue, List, [], ◌∷◌, ◌++◌, take, drop, length, All, Option, None, Some, ℤ, pos, negsuc, nat_lt, unsigned_abs, ◌<ℤ◌, ◌*ℤ◌}
use Rattle.std.specs.Char.{is_ascii_digit}
use Rattle.std.specs.Fmt.{decimal, signed_decimal}
use Rattle.std.specs.List.{prefix_len}
use Rattle.std.specs.Ordering.{int_eq}
use Rattle.std.specs.Str.{all_ascii_digits}
use Rattle.std.proofs.Common.{refl, sym, ap, ◌∙◌, arith, subst}
use Rattle.std.proofs.Math.Seq.{take-append_seam}
use Rattle.std.proofs.lemmas.Bool.Decides.{nat_tests}
use Rattle.std.proofs.lemmas.List.{length-append, append-nil}
use Rattle.std.proofs.lemmas.Int.{ints}
use Rattle.std.proofs.lemmas.List.Elements.{All-cons, All-append}
use Rattle.vc_num.specs.Decimals.{is_numeral}
use Rattle.vc_num.specs.Range.{in_range}
use Rattle.vc_num.specs.Numerals.{spelled_natural, magnitude_fits, spelled_whole, whole_fits}
use Rattle.vc_num.specs.NumeralLaws.{short_magnitude, spelled_natural-decimal, magnitude_fits-decimal, spelled_whole-decimal, whole_fits-decimal, magnitude-in_range, whole-in_range, whole_bytes}
use Rattle.vc_num.specs.Printed.{is_numeral-decimal}
use Rattle.vc_ring.specs.Texts.{TextLaws, IsWeightByte}
use Rattle.vc_ring.specs.WeightBytes.{digit_byte, minus_byte}
use Rattle.vc_rat.specs.Rationals.{reduced, holds, denominator, positive, rationals}
use Rattle.vc_rat.specs.RationalRanges.{reduced-holds, and-both, and-first, and-second}
use Rattle.vc_rat.specs.Reduced.{positive-suc, magnitude-is}
use Rattle.vc_rat.specs.Stands.{stands-reduced, stands-same}
use Rattle.vc_rat.specs.Texts.{quotient_of, spelled_at, fits_at, slash_in, spelled_fraction, fraction_fits, fraction_text}
use Rattle.vc_rat.specs.declared.fraction.Fraction.{Fraction}

-- no `/` stands in a number

no-slash : (c : ℕ) → is_ascii_digit c ≡ true → (c == 47) ≡ false
no-slash c h = grind (arith, nat_tests)

first-true : (a b : Bool) → (a && b) ≡ true → a ≡ true
first-true a b h = grind arith

second-true : (a b : Bool) → (a && b) ≡ true → b ≡ true
second-true a b h = grind arith

-- how far it is to the first `/`
abbrev front : List ℕ → ℕ
front text = prefix_len (λ c. not (c == 47)) text

front-digits : (ds rest : List ℕ) → all_ascii_digits ds ≡ true → front (ds ++ rest) ≡ length ds + front rest
front-digits [] rest h = omega arith
front-digits (c ∷ cs) rest h =
    let later = front-digits cs rest (second-true (is_ascii_digit c) (all_ascii_digits cs) h) in
    rw (no-slash c (first-true (is_ascii_digit c) (all_ascii_digits cs) h)) (omega (arith, later))

all-digits : (ds : List ℕ) → is_numeral ds ≡ true → all_ascii_digits ds ≡ true
all-digits [] h = refl
all-digits (c ∷ cs) h = h

front-decimal : (n : ℕ) (rest : List ℕ) → IsTrue (nat_lt n (2 ^ 127)) → front (decimal n ++ rest) ≡ length (decimal n) + front rest
front-decimal n rest h = front-digits (decimal n) rest (all-digits (decimal n) (is_numeral-decimal n (short_magnitude n h)))

front-signed : (z : ℤ) (rest : List ℕ) → IsTrue (in_range z) → front (signed_decimal z ++ rest) ≡ length (signed_decimal z) + front rest
front-signed (pos n) rest h = front-decimal n rest h
front-signed (negsuc n) rest h = let later = front-decimal (suc n) rest h in omega (arith, later)

position-from : (text : List ℕ) (n : ℕ) → front text ≡ n → n < length text → slash_in text ≡ Some n
position-from text n e h = grind (arith, nat_tests)

position-none : (text : List ℕ) → front text ≡ length text → slash_in text ≡ None
position-none text e = grind (arith, nat_tests)

slash-behind : (z : ℤ) (rest : List ℕ) → IsTrue (in_range z) → slash_in (signed_decimal z ++ (47 ∷ rest)) ≡ Some (length (signed_decimal z))
slash-behind z rest h =
    let text = signed_decimal z ++ (47 ∷ rest) in
    let at : front text ≡ length (signed_decimal z) = front-signed z (47 ∷ rest) h ∙ omega arith in
    let inside : length (signed_decimal z) < length text = omega (arith, length-append (signed_decimal z) (47 ∷ rest)) in
    position-from text (length (signed_decimal z)) at inside

slash-none : (z : ℤ) → IsTrue (in_range z) → slash_in (signed_decimal z) ≡ None
slash-none z h =
    let whole : signed_decimal z ++ [] ≡ signed_decimal z = append-nil (signed_decimal z) in
    let at : front (signed_decimal z) ≡ length (signed_decimal z) = ap front (sym whole) ∙ front-signed z [] h ∙ omega arith in
    position-none (signed_decimal z) at

-- reading what was written

signed-positive : (b : ℤ) → pos 0 <ℤ b → signed_decimal b ≡ decimal (unsigned_abs b)
signed-positive b h = ap signed_decimal (magnitude-is b h)

quotient-is : (x : Fraction) (d : ℕ) → d ≡ denominator x → quotient_of (Some x.top) (Some d) ≡ Some x
quotient-is x zero e = absurd (omega (arith, e, positive x))
quotient-is x (suc d) e = ap Some (stands-same (reduced x.top (suc d) (positive-suc d)) x x.top x.top (suc d) (denominator x) (positive-suc d) (positive x) (stands-reduced x.top (suc d) (positive-suc d)) refl (ap (λ k. x.top *ℤ pos k) (sym e)))

denominator-one : (x : Fraction) → IsTrue (int_eq x.bottom (pos 1)) → 1 ≡ denominator x
denominator-one x h = grind (arith, ints)

-- with the bottom 1, and with another
read-whole : (x : Fraction) → IsTrue (holds x) → IsTrue (int_eq x.bottom (pos 1)) → spelled_fraction (signed_decimal x.top) ≡ Some x
read-whole x h e =
    let text = signed_decimal x.top in
    let top = and-first (in_range x.top) (in_range x.bottom) h in
    let made : spelled_at None text ≡ Some x = ap (λ t. quotient_of t (Some 1)) (spelled_whole-decimal x.top top) ∙ quotient-is x 1 (denominator-one x e) in
    subst (λ s. spelled_at s text ≡ Some x) (sym (slash-none x.top (and-first (in_range x.top) (in_range x.bottom) h))) made

abbrev quotient_text : Fraction → List ℕ
quotient_text x = signed_decimal x.top ++ (47 ∷ signed_decimal x.bottom)

drop-behind : (a b : List ℕ) (c : ℕ) → drop (suc (length a)) (a ++ (c ∷ b)) ≡ b
drop-behind [] b c = refl
drop-behind (x ∷ a) b c = drop-behind a b c

read-quotient : (x : Fraction) → IsTrue (holds x) → spelled_fraction (quotient_text x) ≡ Some x
read-quotient x h =
    let text = quotient_text x in
    let digits_of_top = signed_decimal x.top in
    let d = denominator x in
    let bottom : signed_decimal x.bottom ≡ decimal d = signed-positive x.bottom x.lowest.0 in
    let behind : drop (suc (length digits_of_top)) text ≡ decimal d = drop-behind digits_of_top (signed_decimal x.bottom) 47 ∙ bottom in
    let before : take (length digits_of_top) text ≡ digits_of_top = take-append_seam digits_of_top (47 ∷ signed_decimal x.bottom) in
    let top_read : spelled_whole (take (length digits_of_top) text) ≡ Some x.top = ap spelled_whole before ∙ spelled_whole-decimal x.top (and-first (in_range x.top) (in_range x.bottom) h) in
    let bottom_read : spelled_natural (drop (suc (length digits_of_top)) text) ≡ Some d = ap spelled_natural behind ∙ spelled_natural-decimal d (short_magnitude d (and-second (in_range x.top) (in_range x.bottom) h)) in
    let made : spelled_at (Some (length digits_of_top)) text ≡ Some x = ap (λ t. quotient_of t (spelled_natural (drop (suc (length digits_of_top)) text))) top_read ∙ ap (quotient_of (Some x.top)) bottom_read ∙ quotient-is x d refl in
    subst (λ s. spelled_at s text ≡ Some x) (sym (slash-behind x.top (signed_decimal x.bottom) (and-first (in_range x.top) (in_range x.bottom) h))) made

fits-whole : (x : Fraction) → IsTrue (holds x) → IsTrue (fraction_fits (signed_decimal x.top))
fits-whole x h = subst (λ s. IsTrue (fits_at s (signed_decimal x.top))) (sym (slash-none x.top (and-first (in_range x.top) (in_range x.bottom) h))) (whole_fits-decimal x.top (and-first (in_range x.top) (in_range x.bottom) h))

fits-quotient : (x : Fraction) → IsTrue (holds x) → IsTrue (fraction_fits (quotient_text x))
fits-quotient x h =
    let text = quotient_text x in
    let digits_of_top = signed_decimal x.top in
    let d = denominator x in
    let behind : drop (suc (length digits_of_top)) text ≡ decimal d = drop-behind digits_of_top (signed_decimal x.bottom) 47 ∙ signed-positive x.bottom x.lowest.0 in
    let before : take (length digits_of_top) text ≡ digits_of_top = take-append_seam digits_of_top (47 ∷ signed_decimal x.bottom) in
    let top = subst (λ t. IsTrue (whole_fits t)) (sym before) (whole_fits-decimal x.top (and-first (in_range x.top) (in_range x.bottom) h)) in
    let bottom = subst (λ t. IsTrue (magnitude_fits t)) (sym behind) (magnitude_fits-decimal d (and-second (in_range x.top) (in_range x.bottom) h)) in
    subst (λ s. IsTrue (fits_at s text)) (sym (slash-behind x.top (signed_decimal x.bottom) (and-first (in_range x.top) (in_range x.bottom) h))) (and-both (whole_fits (take (length digits_of_top) text)) (magnitude_fits (drop (suc (length digits_of_top)) text)) top bottom)

-- either text, by a test
by-test : (P : List ℕ → Type 0) (b : Bool) (s t : List ℕ) → (b ≡ true → P s) → P t → P (cond b s t)
by-test P true s t p q = p refl
by-test P false s t p q = q

-- its bytes

slash-byte : IsWeightByte 47
slash-byte = record { low = omega arith; high = omega arith; not_less = λ e. absurd (omega (arith, e)); not_greater = λ e. absurd (omega (arith, e)) }

whole-bytes : (z : ℤ) → All IsWeightByte (signed_decimal z)
whole-bytes = whole_bytes IsWeightByte digit_byte minus_byte

text-bytes : (x : Fraction) → All IsWeightByte (fraction_text x)
text-bytes x = by-test (All IsWeightByte) (int_eq x.bottom (pos 1)) (signed_decimal x.top) (quotient_text x) (λ e. whole-bytes x.top) (All-append IsWeightByte (signed_decimal x.top) (47 ∷ signed_decimal x.bottom) (whole-bytes x.top) (All-cons IsWeightByte 47 (signed_decimal x.bottom) slash-byte (whole-bytes x.bottom)))

-- a text whose numbers are in range spells a fraction in range

quotient-in : (t : Option ℤ) (b : Option ℕ) (x : Fraction) → ((n : ℤ) → t ≡ Some n → IsTrue (in_range n)) → ((d : ℕ) → b ≡ Some d → IsTrue (in_range (pos d))) → quotient_of t b ≡ Some x → IsTrue (holds x)
quotient-in None b x p q e = absurd (cc)
quotient-in (Some n) None x p q e = absurd (cc)
quotient-in (Some n) (Some zero) x p q e = absurd (cc)
quotient-in (Some n) (Some (suc d)) x p q e = let same : reduced n (suc d) (positive-suc d) ≡ x = cc in subst (λ y. IsTrue (holds y)) same (reduced-holds n (suc d) (positive-suc d) (p n refl) (q (suc d) refl))

one-in : (d : ℕ) → Some 1 ≡ Some d → IsTrue (in_range (pos d))
one-in d e = let same : 1 ≡ d = cc in subst (λ m. IsTrue (in_range (pos m))) same refl

at-in : (s : Option ℕ) (text : List ℕ) (x : Fraction) → spelled_at s text ≡ Some x → IsTrue (fits_at s text) → IsTrue (holds x)
at-in None text x e h = quotient-in (spelled_whole text) (Some 1) x (λ n k. whole-in_range text n k h) one-in e
at-in (Some at) text x e h =
    let top = and-first (whole_fits (take at text)) (magnitude_fits (drop (suc at) text)) h in
    let bottom = and-second (whole_fits (take at text)) (magnitude_fits (drop (suc at) text)) h in
    quotient-in (spelled_whole (take at text)) (spelled_natural (drop (suc at) text)) x (λ n k. whole-in_range (take at text) n k top) (λ d k. magnitude-in_range (drop (suc at) text) d k bottom) e

pub fraction_texts : TextLaws rationals spelled_fraction fraction_fits fraction_text
fraction_texts = record {
  not_empty = refl;
  read_in = λ text x e h. at-in (slash_in text) text x e h;
  written = λ x h. by-test (λ t. spelled_fraction t ≡ Some x) (int_eq x.bottom (pos 1)) (signed_decimal x.top) (quotient_text x) (λ e. read-whole x h e) (read-quotient x h);
  written_fits = λ x h. by-test (λ t. IsTrue (fraction_fits t)) (int_eq x.bottom (pos 1)) (signed_decimal x.top) (quotient_text x) (λ e. fits-whole x h) (fits-quotient x h);
  bytes = text-bytes;
}
