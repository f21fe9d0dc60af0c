-- Sets of letters.
use Rattle.std.specs.Prelude.{ℕ, Bool, List, ◌==◌, filter}
use Rattle.std.specs.Int.{bit_at}
use Rattle.vc_label.specs.declared.alphabet.Alphabet.{Alphabet}
use Rattle.vc_model.specs.Lists.{up_from}

-- whether x is a letter of the alphabet
abbrev pub has_letter : Alphabet → ℕ → Bool
has_letter s x = bit_at s.bits x == 1

-- the letters of the alphabet, ascending
unfoldable pub letters_of : Alphabet → List ℕ
letters_of s = filter (has_letter s) (up_from 0x21 94)
