-- Texts of decimal digits, and the numbers that they write.
use Rattle.std.specs.Prelude.{ℕ, ◌+◌, ◌-◌, ◌*◌, ◌^◌, Bool, false, List, [], ◌∷◌, Result, Ok, Err, nat_lt, if◌then◌else◌}
use Rattle.std.specs.Char.{is_ascii_digit}
use Rattle.std.specs.List.{prefix_len}
use Rattle.std.specs.Str.{all_ascii_digits}
use Rattle.vc_num.specs.declared.decimals.DecimalFault.{DecimalFault}
use Rattle.vc_num.specs.declared.decimals.DecimalFault.TheVariants.{NotDigits, Overflow}

-- one digit or more, and nothing else
abbrev pub is_numeral : List ℕ → Bool
is_numeral [] = false
is_numeral (c ∷ cs) = all_ascii_digits (c ∷ cs)

-- the number that digits write behind those of n
abbrev pub number_onto : ℕ → List ℕ → ℕ
number_onto n [] = n
number_onto n (c ∷ cs) = number_onto (10 * n + (c - 48)) cs

-- the number that digits write
abbrev pub number_of_digits : List ℕ → ℕ
number_of_digits digits = number_onto 0 digits

-- the number of a numeral, where it is below 2^128; the place of the first byte that is no digit where the text is no numeral
abbrev pub decimal_of : List ℕ → Result ℕ DecimalFault
decimal_of text =
    if is_numeral text
    then (if nat_lt (number_of_digits text) (2 ^ 128) then Ok (number_of_digits text) else Err Overflow)
    else Err (NotDigits (prefix_len is_ascii_digit text))
