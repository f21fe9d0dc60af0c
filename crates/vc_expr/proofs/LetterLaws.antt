-- Trees whose conjunctions and shuffles join single letters.
use Rattle.std.proofs.Common.{◌≡◌, ℕ, arith, refl, Bool, false, IsTrue, List, [], ◌∷◌, length}
use Rattle.vc_model.specs.Words.{Word, is_empty, IsLetter}
use Rattle.vc_label.specs.Sets.{AreSingleSets, IsSingleWord}
use Rattle.vc_label.specs.declared.tape_set.TapeSet.{TapeSet}
use Rattle.vc_terms.specs.Terms.{Term, Terms, NoTerms, MoreTerms, Zero, One, Atom, Sum, Product, Star, Weight, Both, Shuffle}
use Rattle.vc_terms.specs.Forms.{Everywhere, EverywhereIn}
use Rattle.vc_terms.specs.Expansions.{AtomsAre, AllAtomsAre, JoinsLetters, AllJoinLetters}
use Rattle.vc_expr.specs.Facts.{HasRootLetters}

-- a single part that is not empty is a letter
pub letter_of : (a : Word) → IsSingleWord a → is_empty a ≡ false → IsLetter a
letter_of [] s e = s
letter_of ([] ∷ []) s e = absurd (cc)
letter_of ((x ∷ []) ∷ []) s e = tt
letter_of ((x ∷ y ∷ a) ∷ []) s e = absurd (omega (arith, s))
letter_of (a ∷ b ∷ w) s e = absurd s

-- single sets are those of one tape
pub one_tape : (ss : List TapeSet) → AreSingleSets ss → length ss ≡ 1
one_tape [] h = absurd h
one_tape (s ∷ []) h = refl
one_tape (s ∷ t ∷ ss) h = absurd h

module _ {V : Type 0} (single : Bool) (tapes : ℕ) (one : IsTrue single → tapes ≡ 1) where
  mutual
    letters_in : (t : Term V) → IsTrue single → Everywhere (HasRootLetters single) t → AtomsAre IsLetter t
    letters_in Zero s h = tt
    letters_in One s h = tt
    letters_in (Atom a) s h = h s
    letters_in (Sum ts) s h = letters_in_all ts s h.1
    letters_in (Product ts) s h = letters_in_all ts s h.1
    letters_in (Star t) s h = letters_in t s h.1
    letters_in (Weight k t) s h = letters_in t s h.1
    letters_in (Both t u) s h = (letters_in t s h.1, letters_in u s h.2)
    letters_in (Shuffle t u) s h = (letters_in t s h.1, letters_in u s h.2)

    letters_in_all : (ts : Terms V) → IsTrue single → EverywhereIn (HasRootLetters single) ts → AllAtomsAre IsLetter ts
    letters_in_all NoTerms s h = tt
    letters_in_all (MoreTerms t ts) s h = (letters_in t s h.0, letters_in_all ts s h.1)

  mutual
    pub joined : (t : Term V) → Everywhere (HasRootLetters single) t → JoinsLetters tapes t
    joined Zero h = tt
    joined One h = tt
    joined (Atom a) h = tt
    joined (Sum ts) h = joined_all ts h.1
    joined (Product ts) h = joined_all ts h.1
    joined (Star t) h = joined t h.1
    joined (Weight k t) h = joined t h.1
    joined (Both t u) h = (one h.0, letters_in t h.0 h.1, letters_in u h.0 h.2, joined t h.1, joined u h.2)
    joined (Shuffle t u) h = (one h.0, letters_in t h.0 h.1, letters_in u h.0 h.2, joined t h.1, joined u h.2)

    joined_all : (ts : Terms V) → EverywhereIn (HasRootLetters single) ts → AllJoinLetters tapes ts
    joined_all NoTerms h = tt
    joined_all (MoreTerms t ts) h = (joined t h.0, joined_all ts h.1)
