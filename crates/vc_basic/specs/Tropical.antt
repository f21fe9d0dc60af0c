-- The natural numbers and infinity as weights, the tropical semiring, and their texts.
use Rattle.std.specs.Prelude.{ℕ, ◌+◌, ◌^◌, min, Bool, true, false, ◌==◌, ◌&&◌, ◌||◌, List, [], ◌∷◌, Option, Some, nat_lt, if◌then◌else◌}
use Rattle.std.specs.Option.{option_map}
use Rattle.std.specs.Fmt.{decimal}
use Rattle.vc_model.specs.WeightSet.{WeightSet}
use Rattle.vc_num.specs.Numerals.{spelled_natural, natural_fits}
use Rattle.vc_basic.specs.declared.tropical.NminValue.{NminValue}
use Rattle.vc_basic.specs.declared.tropical.NminValue.TheVariants.{Finite, Infinite}

-- the lesser of the two
abbrev pub lesser : NminValue → NminValue → NminValue
lesser Infinite b = b
lesser (Finite m) Infinite = Finite m
lesser (Finite m) (Finite n) = Finite (min m n)

-- the two together
abbrev pub total : NminValue → NminValue → NminValue
total Infinite b = Infinite
total (Finite m) Infinite = Infinite
total (Finite m) (Finite n) = Finite (m + n)

-- infinite, or at most 2^128 - 1
abbrev pub is_held : NminValue → Bool
is_held Infinite = true
is_held (Finite m) = nat_lt m (2 ^ 128)

-- sums by the lesser of two and products by addition, and each star is one
abbrev pub tropical : WeightSet NminValue
tropical = record {
  zero = Infinite;
  one = Finite 0;
  plus = lesser;
  times = total;
  has_star = λ _. true;
  star = λ _. Finite 0;
  in_range = is_held;
  fits_plus = λ _ _. true;
  fits_times = λ a b. is_held (total a b);
  fits_star = λ _. true;
}

-- the text is `oo`
abbrev pub is_infinity : List ℕ → Bool
is_infinity [] = false
is_infinity (c ∷ []) = false
is_infinity (c ∷ d ∷ []) = (c == 111) && (d == 111)
is_infinity (c ∷ d ∷ e ∷ text) = false

-- infinity for `oo`, and the number of one digit or more
abbrev pub spelled_tropical : List ℕ → Option NminValue
spelled_tropical text = if is_infinity text then Some Infinite else option_map Finite (spelled_natural text)

-- the number of the text is at most 2^128 - 1
abbrev pub tropical_fits : List ℕ → Bool
tropical_fits text = is_infinity text || natural_fits text

-- `oo`, or the digits without leading zeros
abbrev pub tropical_text : NminValue → List ℕ
tropical_text Infinite = 111 ∷ 111 ∷ []
tropical_text (Finite n) = decimal n
