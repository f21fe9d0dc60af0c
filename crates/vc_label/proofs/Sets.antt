-- Words over tape sets.
use Rattle.std.proofs.Common.{◌≡◌, ℕ, suc, Bool, true, false, List, [], ◌∷◌, length, refl, ap, All, IsTrue, arith}
use Rattle.std.specs.Prelude.{◌&&◌}
use Rattle.std.proofs.lemmas.Grind.{common_steps}
use Rattle.vc_label.proofs.Alphabets.{letters_only}
use Rattle.vc_label.specs.Alphabets.{has_letter}
use Rattle.vc_label.specs.Letters.{is_letter, are_letters, is_of_letters}
use Rattle.vc_label.specs.Sets.{IsOverSets, IsSingleWord}
use Rattle.vc_label.specs.declared.alphabet.Alphabet.{Alphabet}
use Rattle.vc_label.specs.declared.tape_set.TapeSet.{TapeSet}
use Rattle.vc_model.specs.Words.{Word, Tape, is_empty}

pub tapes_over : (ss : List TapeSet) (w : Word) → IsOverSets ss w → length w ≡ length ss
tapes_over [] [] h = refl
tapes_over [] (a ∷ w) h = absurd h
tapes_over (s ∷ ss) [] h = absurd h
tapes_over (s ∷ ss) (a ∷ w) h = ap suc (tapes_over ss w h.1)

both : (a b : Bool) → IsTrue a → IsTrue b → IsTrue (a && b)
both a b h k = grind (arith, common_steps)

tape_over : (s : Alphabet) (a : Tape) → All (λ x. has_letter s x ≡ true) a → IsTrue (are_letters a)
tape_over s [] h = refl
tape_over s (x ∷ a) h = both (is_letter x) (are_letters a) (letters_only s x (h 0 x (omega arith))) (tape_over s a (λ k d l. h (suc k) d (omega arith)))

pub letters_over : (ss : List TapeSet) (w : Word) → IsOverSets ss w → IsTrue (is_of_letters w)
letters_over [] [] h = refl
letters_over [] (a ∷ w) h = absurd h
letters_over (s ∷ ss) [] h = absurd h
letters_over (s ∷ ss) (a ∷ w) h = both (are_letters a) (is_of_letters w) (tape_over s.alphabet a h.0.1) (letters_over ss w h.1)

pub single_letter : (w : Word) → IsSingleWord w → is_empty w ≡ false → (x : ℕ) × (w ≡ (x ∷ []) ∷ [])
single_letter [] h e = absurd h
single_letter ([] ∷ []) h e = absurd (let f : true ≡ false = e in cc)
single_letter ((x ∷ []) ∷ []) h e = (x, refl)
single_letter ((x ∷ y ∷ a) ∷ []) h e = absurd (omega arith)
single_letter (a ∷ b ∷ w) h e = absurd h
