-- That what is printed of a number spells it, and that what is spelled in range is in range.
use Rattle.std.specs.Prelude.{◌≡◌, ℕ, zero, suc, ◌+◌, ◌<◌, ◌^◌, ◌==◌, ◌&&◌, Bool, true, false, cond, IsTrue, List, [], ◌∷◌, All, Option, None, Some, ℤ, pos, negsuc, neg_ℤ, nat_lt, refl}
use Rattle.std.proofs.Common.{arith, ap, sym, ◌∙◌, subst}
use Rattle.std.proofs.lemmas.Bool.Decides.{nat_tests}
use Rattle.std.proofs.lemmas.List.Elements.{All-cons}
use Rattle.std.specs.Char.{is_ascii_digit}
use Rattle.std.specs.Fmt.{decimal, signed_decimal}
use Rattle.std.specs.Option.{option_map}
use Rattle.std.specs.Str.{all_ascii_digits}
use Rattle.vc_num.specs.Decimals.{is_numeral}
use Rattle.vc_num.specs.Range.{in_range}
use Rattle.vc_num.specs.Numerals.{spelled_natural, natural_fits, magnitude_fits, spelled_whole, whole_fits}
use Rattle.vc_num.specs.Printed.{is_numeral-decimal, number_of_digits-decimal, All-decimal}

-- a number of at most 128 bits has at most 64 digits
pub short : (n : ℕ) → IsTrue (nat_lt n (2 ^ 128)) → n < 10 ^ 64
short n h = let below : n < 2 ^ 128 = grind (arith, nat_tests) in omega arith

-- and so has a magnitude
pub short_magnitude : (n : ℕ) → IsTrue (nat_lt n (2 ^ 127)) → n < 10 ^ 64
short_magnitude n h = let less : n < 2 ^ 127 = grind (arith, nat_tests) in omega arith

-- what is printed of a natural number spells it
pub spelled_natural-decimal : (n : ℕ) → n < 10 ^ 64 → spelled_natural (decimal n) ≡ Some n
spelled_natural-decimal n h = rw (is_numeral-decimal n h, number_of_digits-decimal n h) refl

-- and fits where the number does
pub natural_fits-decimal : (n : ℕ) → IsTrue (nat_lt n (2 ^ 128)) → IsTrue (natural_fits (decimal n))
natural_fits-decimal n h = subst (λ m. IsTrue (nat_lt m (2 ^ 128))) (sym (number_of_digits-decimal n (short n h))) h

-- also where it is a magnitude
pub magnitude_fits-decimal : (n : ℕ) → IsTrue (in_range (pos n)) → IsTrue (magnitude_fits (decimal n))
magnitude_fits-decimal n h = subst (λ m. IsTrue (nat_lt m (2 ^ 127))) (sym (number_of_digits-decimal n (short_magnitude n h))) h

no_minus : (c : ℕ) (rest : Bool) → (is_ascii_digit c && rest) ≡ true → (c == 45) ≡ false
no_minus c rest h = grind (arith, nat_tests)

spelled-digits : (digits : List ℕ) → is_numeral digits ≡ true → spelled_whole digits ≡ option_map pos (spelled_natural digits)
spelled-digits [] h = absurd (cc)
spelled-digits (c ∷ text) h = rw (no_minus c (all_ascii_digits text) h) refl

fits-digits : (digits : List ℕ) → is_numeral digits ≡ true → whole_fits digits ≡ magnitude_fits digits
fits-digits [] h = absurd (cc)
fits-digits (c ∷ text) h = rw (no_minus c (all_ascii_digits text) h) refl

-- what is printed of a whole number spells it
pub spelled_whole-decimal : (z : ℤ) → IsTrue (in_range z) → spelled_whole (signed_decimal z) ≡ Some z
spelled_whole-decimal (pos n) h = spelled-digits (decimal n) (is_numeral-decimal n (short_magnitude n h)) ∙ ap (option_map pos) (spelled_natural-decimal n (short_magnitude n h))
spelled_whole-decimal (negsuc n) h = ap (option_map (λ m. neg_ℤ (pos m))) (spelled_natural-decimal (suc n) (short_magnitude (suc n) h))

-- and fits where the number does
pub whole_fits-decimal : (z : ℤ) → IsTrue (in_range z) → IsTrue (whole_fits (signed_decimal z))
whole_fits-decimal (pos n) h = subst IsTrue (sym (fits-digits (decimal n) (is_numeral-decimal n (short_magnitude n h)))) (magnitude_fits-decimal n h)
whole_fits-decimal (negsuc n) h = magnitude_fits-decimal (suc n) h

-- a magnitude that fits is in range
pub magnitude-in_range : (text : List ℕ) (n : ℕ) → spelled_natural text ≡ Some n → IsTrue (magnitude_fits text) → IsTrue (in_range (pos n))
magnitude-in_range text n e h = grind arith

minus-in_range : (n : ℕ) → IsTrue (in_range (pos n)) → IsTrue (in_range (neg_ℤ (pos n)))
minus-in_range zero h = h
minus-in_range (suc n) h = h

signed-in_range : (number : Option ℕ) (z : ℤ) → ((n : ℕ) → number ≡ Some n → IsTrue (in_range (pos n))) → option_map (λ n. neg_ℤ (pos n)) number ≡ Some z → IsTrue (in_range z)
signed-in_range None z h e = absurd (cc)
signed-in_range (Some n) z h e = let same : neg_ℤ (pos n) ≡ z = cc in subst (λ x. IsTrue (in_range x)) same (minus-in_range n (h n refl))

plain-in_range : (number : Option ℕ) (z : ℤ) → ((n : ℕ) → number ≡ Some n → IsTrue (in_range (pos n))) → option_map pos number ≡ Some z → IsTrue (in_range z)
plain-in_range None z h e = absurd (cc)
plain-in_range (Some n) z h e = let same : pos n ≡ z = cc in subst (λ x. IsTrue (in_range x)) same (h n refl)

either-in_range : (minus : Bool) (s t : List ℕ) (z : ℤ) → cond minus (option_map (λ n. neg_ℤ (pos n)) (spelled_natural s)) (option_map pos (spelled_natural t)) ≡ Some z → IsTrue (cond minus (magnitude_fits s) (magnitude_fits t)) → IsTrue (in_range z)
either-in_range true s t z e h = signed-in_range (spelled_natural s) z (λ n k. magnitude-in_range s n k h) e
either-in_range false s t z e h = plain-in_range (spelled_natural t) z (λ n k. magnitude-in_range t n k h) e

-- and so is a whole number that does
pub whole-in_range : (text : List ℕ) (z : ℤ) → spelled_whole text ≡ Some z → IsTrue (whole_fits text) → IsTrue (in_range z)
whole-in_range [] z e h = absurd (cc)
whole-in_range (c ∷ text) z e h = either-in_range (c == 45) text (c ∷ text) z e h

-- each byte of what is printed of a natural number is a digit, so what holds of digits holds of it
pub natural_bytes : (P : ℕ → Type 0) → ((d : ℕ) → d < 10 → P (48 + d)) → (n : ℕ) → All P (decimal n)
natural_bytes P digit n = All-decimal P digit n

-- and of a whole number, with the minus
pub whole_bytes : (P : ℕ → Type 0) → ((d : ℕ) → d < 10 → P (48 + d)) → P 45 → (z : ℤ) → All P (signed_decimal z)
whole_bytes P digit minus (pos n) = natural_bytes P digit n
whole_bytes P digit minus (negsuc n) = All-cons P 45 (decimal (suc n)) minus (natural_bytes P digit (suc n))
