-- The laws of labels of one part.
use Rattle.std.proofs.Common.{◌≡◌, ℕ, ◌≤◌, true, [], ◌∷◌, length, refl, ap, IsTrue, nat_eq, nat_cmp, Less, Equal, Greater, arith}
use Rattle.std.specs.Prelude.{◌↔◌}
use Rattle.std.specs.Cmp.Lexicographic.{slice_cmp, pointwise, bytes_decides}
use Rattle.std.specs.Ordering.{ordering_then}
use Rattle.std.specs.declared.cmp.Ordering.{Ordering}
use Rattle.std.proofs.lemmas.Grind.{common_steps}
use Rattle.vc_label.specs.Letters.{is_letter, are_letters, is_of_letters}
use Rattle.vc_label.specs.Order.{word_order}
use Rattle.vc_model.specs.Words.{Word, Tape}

-- the word of one tape
abbrev pub one_tape : Tape → Word
one_tape a = a ∷ []

-- one tape of exactly one letter
abbrev pub IsOneLetter : Word → Type 0
IsOneLetter [] = ⊥
IsOneLetter (a ∷ []) = length a ≡ 1
IsOneLetter (a ∷ b ∷ w) = ⊥

pub of_letters : (a : Tape) → IsTrue (are_letters a) → IsTrue (is_of_letters (one_tape a))
of_letters a h = grind (arith, common_steps)

pub same_tapes : (a b : Tape) → (pointwise nat_eq a b ≡ true) ↔ (one_tape a ≡ one_tape b)
same_tapes a b = ((λ h. ap one_tape ((bytes_decides a b).0 h)), (λ h. let e : a ≡ b = cc in (bytes_decides a b).1 e))

then_equal : (o : Ordering) → o ≡ ordering_then o Equal
then_equal Less = refl
then_equal Equal = refl
then_equal Greater = refl

pub tapes_in_order : (a b : Tape) → slice_cmp nat_cmp a b ≡ word_order (one_tape a) (one_tape b)
tapes_in_order a b = then_equal (slice_cmp nat_cmp a b)

pub letter_of_letters : (x : ℕ) → IsTrue (is_letter x) → IsTrue (is_of_letters (one_tape (x ∷ [])))
letter_of_letters x h = grind (arith, common_steps)

pub same_letters : (x y : ℕ) → (nat_eq x y ≡ true) ↔ (one_tape (x ∷ []) ≡ one_tape (y ∷ []))
same_letters x y = ((λ h. grind (arith, common_steps)), (λ h. let e : x ≡ y = cc in grind (arith, common_steps)))

then_equal_twice : (o : Ordering) → o ≡ ordering_then (ordering_then o Equal) Equal
then_equal_twice Less = refl
then_equal_twice Equal = refl
then_equal_twice Greater = refl

pub letters_in_order : (x y : ℕ) → nat_cmp x y ≡ word_order (one_tape (x ∷ [])) (one_tape (y ∷ []))
letters_in_order x y = then_equal_twice (nat_cmp x y)

pub one_is_few : (1 ≤ 1) × (1 ≤ 4)
one_is_few = (omega arith, omega arith)

pub one_is_single : 1 ≤ 1
one_is_single = omega arith
