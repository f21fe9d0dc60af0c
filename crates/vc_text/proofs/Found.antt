-- What is read as a letter is one.
use Rattle.std.proofs.Common.{◌≡◌, ℕ, Bool, true, false, ◌&&◌, ◌+◌, List, [], ◌∷◌, Some, None, IfSome, IsTrue, refl, Option}
use Rattle.std.specs.Prelude.{if◌then◌else◌, ◌==◌}
use Rattle.vc_label.specs.Letters.{is_letter}
use Rattle.vc_text.specs.LetterLaws.{escaped_is_letter, plain_is_letter}
use Rattle.vc_text.specs.Letters.{is_plain, is_escaped, letter_in}
use Rattle.vc_text.specs.declared.letters.LetterAt.{LetterAt}

abbrev IsFound : Option LetterAt → Type 0
IsFound found = IfSome found (λ l. IsTrue (is_letter l.letter))

found_if : (x after : ℕ) (rest : Option LetterAt) (b : Bool) → is_plain x ≡ b → IsFound rest
    → IsFound (if b then Some (record { letter = x; after = after }) else rest)
found_if x after rest true e others = plain_is_letter x e
found_if x after rest false e others = others

found_escaped : (x y after : ℕ) (a b : Bool) → is_escaped y ≡ b → IsFound (if a && b then Some (record { letter = y; after = after }) else None)
found_escaped x y after true true e = escaped_is_letter y e
found_escaped x y after true false e = tt
found_escaped x y after false b e = tt

pub found_is_letter : (at : ℕ) (s : List ℕ) → IfSome (letter_in at s) (λ l. IsTrue (is_letter l.letter))
found_is_letter at [] = tt
found_is_letter at (x ∷ []) = found_if x (at + 1) None (is_plain x) refl tt
found_is_letter at (x ∷ y ∷ s) = found_if x (at + 1) _ (is_plain x) refl (found_escaped x y (at + 2) (x == 92) (is_escaped y) refl)
