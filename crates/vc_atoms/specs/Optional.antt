-- The laws of a letter that may be absent.
use Rattle.std.proofs.Common.{◌≡◌, true, [], ◌∷◌, refl, IsTrue, nat_eq, nat_cmp, arith, Option, Some, None}
use Rattle.std.specs.Prelude.{◌↔◌}
use Rattle.std.specs.Option.{option_eq, option_cmp}
use Rattle.vc_atoms.specs.declared.letters.Letter.{Letter}
use Rattle.vc_atoms.specs.Labels.{one_tape, letter_of_letters, same_letters, letters_in_order}
use Rattle.vc_label.specs.Letters.{is_of_letters}
use Rattle.vc_label.specs.Order.{word_order}
use Rattle.vc_label.specs.Sets.{IsSingleWord}
use Rattle.vc_model.specs.Words.{Tape}

-- the letter, or none
abbrev pub letters_in : Option Letter → Tape
letters_in None = []
letters_in (Some l) = l.code ∷ []

pub optional_of_letters : (l : Option Letter) → IsTrue (is_of_letters (one_tape (letters_in l)))
optional_of_letters None = refl
optional_of_letters (Some l) = letter_of_letters l.code l.letter

pub same_optional : (a b : Option Letter) → (option_eq (λ (x : Letter) (y : Letter). nat_eq x.code y.code) a b ≡ true) ↔ (one_tape (letters_in a) ≡ one_tape (letters_in b))
same_optional None None = ((λ h. refl), (λ h. refl))
same_optional None (Some y) = ((λ h. cc), (λ h. cc))
same_optional (Some x) None = ((λ h. cc), (λ h. cc))
same_optional (Some x) (Some y) = same_letters x.code y.code

pub optional_in_order : (a b : Option Letter) → option_cmp (λ (x : Letter) (y : Letter). nat_cmp x.code y.code) a b ≡ word_order (one_tape (letters_in a)) (one_tape (letters_in b))
optional_in_order None None = refl
optional_in_order None (Some y) = refl
optional_in_order (Some x) None = refl
optional_in_order (Some x) (Some y) = letters_in_order x.code y.code

pub optional_is_single : (l : Option Letter) → IsSingleWord (one_tape (letters_in l))
optional_is_single None = omega arith
optional_is_single (Some l) = omega arith
