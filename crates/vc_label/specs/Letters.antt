-- Letters, and the words made of them.
use Rattle.std.specs.Prelude.{ℕ, Bool, true, ◌&&◌, nat_le, [], ◌∷◌}
use Rattle.vc_model.specs.Words.{Word, Tape}

-- a byte from 0x21 to 0x7E
abbrev pub is_letter : ℕ → Bool
is_letter x = nat_le 0x21 x && nat_le x 0x7e

-- each byte of a tape is a letter
abbrev pub are_letters : Tape → Bool
are_letters [] = true
are_letters (x ∷ a) = is_letter x && are_letters a

-- each byte of each tape is a letter
abbrev pub is_of_letters : Word → Bool
is_of_letters [] = true
is_of_letters (a ∷ w) = are_letters a && is_of_letters w
