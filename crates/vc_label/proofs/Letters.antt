-- Tapes of letters.
use Rattle.std.proofs.Common.{ℕ, zero, suc, List, [], ◌∷◌, ◌++◌, arith, IsTrue, drop}
use Rattle.std.proofs.lemmas.Grind.{common_steps}
use Rattle.vc_label.specs.Letters.{is_letter, are_letters}

pub are_letters_push : (a : List ℕ) (x : ℕ) → IsTrue (are_letters a) → IsTrue (is_letter x) → IsTrue (are_letters (a ++ x ∷ []))
are_letters_push [] x h k = grind (arith, common_steps)
are_letters_push (y ∷ a) x h k = grind (arith, common_steps, are_letters_push a x)

pub are_letters_append : (a b : List ℕ) → IsTrue (are_letters a) → IsTrue (are_letters b) → IsTrue (are_letters (a ++ b))
are_letters_append [] b h k = k
are_letters_append (x ∷ a) b h k = grind (arith, common_steps, are_letters_append a b)

pub are_letters_drop : (n : ℕ) (a : List ℕ) → IsTrue (are_letters a) → IsTrue (are_letters (drop n a))
are_letters_drop zero a h = h
are_letters_drop (suc n) [] h = h
are_letters_drop (suc n) (x ∷ a) h = let k : IsTrue (are_letters a) = grind (arith, common_steps) in are_letters_drop n a k
