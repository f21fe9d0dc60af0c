-- The texts of rational numbers.
use Rattle.std.specs.Prelude.{ℕ, zero, suc, ◌==◌, Bool, ◌&&◌, List, ◌∷◌, ◌++◌, take, drop, Option, None, Some, Result, Ok, Err, ℤ, pos, if◌then◌else◌}
use Rattle.std.specs.Fmt.{signed_decimal}
use Rattle.std.specs.List.{position}
use Rattle.std.specs.Ordering.{int_eq}
use Rattle.vc_num.specs.Numerals.{spelled_natural, magnitude_fits, spelled_whole, whole_fits}
use Rattle.vc_num.specs.declared.numerals.NumeralFault.{NumeralFault}
use Rattle.vc_num.specs.declared.numerals.NumeralFault.TheVariants as numeral
use Rattle.vc_ring.specs.declared.faults.NumberFault.{NumberFault}
use Rattle.vc_ring.specs.declared.faults.NumberFault.TheVariants.{Bad, Overflow}
use Rattle.vc_rat.specs.Reduced.{positive-suc}
use Rattle.vc_rat.specs.Rationals.{reduced}
use Rattle.vc_rat.specs.declared.fraction.Fraction.{Fraction}

-- top/bottom, where there are both and the bottom is not zero
abbrev pub quotient_of : Option ℤ → Option ℕ → Option Fraction
quotient_of None bottom = None
quotient_of (Some n) None = None
quotient_of (Some n) (Some zero) = None
quotient_of (Some n) (Some (suc d)) = Some (reduced n (suc d) (positive-suc d))

-- of a text whose first `/` is at the place, or that has none
abbrev pub spelled_at : Option ℕ → List ℕ → Option Fraction
spelled_at None text = quotient_of (spelled_whole text) (Some 1)
spelled_at (Some at) text = quotient_of (spelled_whole (take at text)) (spelled_natural (drop (suc at) text))

-- and whether its numbers fit
abbrev pub fits_at : Option ℕ → List ℕ → Bool
fits_at None text = whole_fits text
fits_at (Some at) text = whole_fits (take at text) && magnitude_fits (drop (suc at) text)

-- the place of the first `/`
abbrev pub slash_in : List ℕ → Option ℕ
slash_in text = position (λ c. c == 47) text

-- the number of an optional `-`, digits, and optionally `/` and digits that are not all 0
abbrev pub spelled_fraction : List ℕ → Option Fraction
spelled_fraction text = spelled_at (slash_in text) text

-- each of the one or two numbers is at most 2^127 - 1 in magnitude
abbrev pub fraction_fits : List ℕ → Bool
fraction_fits text = fits_at (slash_in text) text

-- the top in decimal, and behind it `/` and the bottom where this is not 1
abbrev pub fraction_text : Fraction → List ℕ
fraction_text x = if int_eq x.bottom (pos 1) then signed_decimal x.top else signed_decimal x.top ++ (47 ∷ signed_decimal x.bottom)

-- what a top and a bottom that were read make
abbrev pub quotient_read : Result ℤ NumeralFault → Result ℕ NumeralFault → Result Fraction NumberFault
quotient_read (Err numeral.Bad) bottom = Err Bad
quotient_read (Err numeral.Overflow) (Err numeral.Bad) = Err Bad
quotient_read (Err numeral.Overflow) (Err numeral.Overflow) = Err Overflow
quotient_read (Err numeral.Overflow) (Ok zero) = Err Bad
quotient_read (Err numeral.Overflow) (Ok (suc d)) = Err Overflow
quotient_read (Ok n) (Err numeral.Bad) = Err Bad
quotient_read (Ok n) (Err numeral.Overflow) = Err Overflow
quotient_read (Ok n) (Ok zero) = Err Bad
quotient_read (Ok n) (Ok (suc d)) = Ok (reduced n (suc d) (positive-suc d))
