-- The texts of the tropical semiring spell its elements.
use Rattle.std.specs.Prelude.{◌≡◌, ℕ, ◌^◌, Bool, true, false, cond, ◌==◌, ◌&&◌, ◌||◌, IsTrue, List, [], ◌∷◌, None, Some, nat_lt, refl}
use Rattle.std.proofs.Common.{arith, ap}
use Rattle.std.proofs.lemmas.Bool.Decides.{nat_tests}
use Rattle.std.proofs.lemmas.List.Elements.{All-cons, All-nil}
use Rattle.std.specs.Char.{is_ascii_digit}
use Rattle.std.specs.Fmt.{decimal}
use Rattle.std.specs.List.{All}
use Rattle.std.specs.Option.{option_map}
use Rattle.std.specs.Str.{all_ascii_digits}
use Rattle.vc_ring.specs.Texts.{TextLaws, IsWeightByte}
use Rattle.vc_ring.specs.WeightBytes.{digit_byte}
use Rattle.vc_num.specs.Decimals.{is_numeral, number_of_digits}
use Rattle.vc_num.specs.Numerals.{spelled_natural, natural_fits}
use Rattle.vc_num.specs.NumeralLaws.{short, spelled_natural-decimal, natural_fits-decimal, natural_bytes}
use Rattle.vc_num.specs.Printed.{is_numeral-decimal}
use Rattle.vc_basic.specs.Tropical.{tropical, is_held, is_infinity, spelled_tropical, tropical_fits, tropical_text}
use Rattle.vc_basic.specs.declared.tropical.NminValue.{NminValue}
use Rattle.vc_basic.specs.declared.tropical.NminValue.TheVariants.{Finite, Infinite}

held : (infinite spells : Bool) (n : ℕ) (v : NminValue) → cond infinite (Some Infinite) (option_map Finite (cond spells (Some n) None)) ≡ Some v → IsTrue (infinite || nat_lt n (2 ^ 128)) → IsTrue (is_held v)
held true spells n v e h = let same : Infinite ≡ v = cc in rw (← same) refl
held false true n v e h = let same : Finite n ≡ v = cc in rw (← same) h
held false false n v e h = absurd (cc)

no_infinity_by : (c d : ℕ) (rest : Bool) → (is_ascii_digit c && rest) ≡ true → ((c == 111) && (d == 111)) ≡ false
no_infinity_by c d rest h = grind (arith, nat_tests)

no_infinity : (text : List ℕ) → is_numeral text ≡ true → is_infinity text ≡ false
no_infinity [] h = refl
no_infinity (c ∷ []) h = refl
no_infinity (c ∷ d ∷ []) h = no_infinity_by c d (all_ascii_digits (d ∷ [])) h
no_infinity (c ∷ d ∷ e ∷ text) h = refl

spelled-digits : (digits : List ℕ) (n : ℕ) → is_numeral digits ≡ true → spelled_natural digits ≡ Some n → spelled_tropical digits ≡ Some (Finite n)
spelled-digits digits n p e = rw (no_infinity digits p) (ap (option_map Finite) e)

tropical_written : (v : NminValue) → IsTrue (is_held v) → spelled_tropical (tropical_text v) ≡ Some v
tropical_written Infinite h = refl
tropical_written (Finite n) h = spelled-digits (decimal n) n (is_numeral-decimal n (short n h)) (spelled_natural-decimal n (short n h))

fits-digits : (digits : List ℕ) → is_numeral digits ≡ true → IsTrue (natural_fits digits) → IsTrue (tropical_fits digits)
fits-digits digits p h = rw (no_infinity digits p) h

tropical_written_fits : (v : NminValue) → IsTrue (is_held v) → IsTrue (tropical_fits (tropical_text v))
tropical_written_fits Infinite h = refl
tropical_written_fits (Finite n) h = fits-digits (decimal n) (is_numeral-decimal n (short n h)) (natural_fits-decimal n h)

o_byte : IsWeightByte 111
o_byte = record { low = omega arith; high = omega arith; not_less = λ q. absurd (omega (arith, q)); not_greater = λ q. absurd (omega (arith, q)) }

tropical_bytes : (v : NminValue) → All IsWeightByte (tropical_text v)
tropical_bytes Infinite = All-cons IsWeightByte 111 (111 ∷ []) o_byte (All-cons IsWeightByte 111 [] o_byte (All-nil IsWeightByte))
tropical_bytes (Finite n) = natural_bytes IsWeightByte digit_byte n

pub tropical_texts : TextLaws tropical spelled_tropical tropical_fits tropical_text
tropical_texts = record {
  not_empty = refl;
  read_in = λ text v e h. held (is_infinity text) (is_numeral text) (number_of_digits text) v e h;
  written = tropical_written;
  written_fits = tropical_written_fits;
  bytes = tropical_bytes;
}
