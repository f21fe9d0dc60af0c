-- The texts of natural and whole numbers, and their ranges.
use Rattle.std.specs.Prelude.{ℕ, ◌^◌, ◌==◌, Bool, true, List, [], ◌∷◌, Option, None, Some, ℤ, pos, neg_ℤ, nat_lt, if◌then◌else◌}
use Rattle.std.specs.Option.{option_map}
use Rattle.vc_num.specs.Decimals.{is_numeral, number_of_digits}

-- the number that one digit or more spell
abbrev pub spelled_natural : List ℕ → Option ℕ
spelled_natural text = if is_numeral text then Some (number_of_digits text) else None

-- it is at most 2^128 - 1
abbrev pub natural_fits : List ℕ → Bool
natural_fits text = nat_lt (number_of_digits text) (2 ^ 128)

-- it is at most 2^127 - 1
abbrev pub magnitude_fits : List ℕ → Bool
magnitude_fits text = nat_lt (number_of_digits text) (2 ^ 127)

-- the number that digits behind an optional `-` spell
abbrev pub spelled_whole : List ℕ → Option ℤ
spelled_whole [] = None
spelled_whole (c ∷ text) = if c == 45 then option_map (λ n. neg_ℤ (pos n)) (spelled_natural text) else option_map pos (spelled_natural (c ∷ text))

-- its magnitude is at most 2^127 - 1
abbrev pub whole_fits : List ℕ → Bool
whole_fits [] = true
whole_fits (c ∷ text) = if c == 45 then magnitude_fits text else magnitude_fits (c ∷ text)
