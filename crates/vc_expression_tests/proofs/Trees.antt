-- What is known of the tree of an expression that was read, as `coefficient` asks for it.
use Rattle.std.proofs.Common.{◌≡◌, Bool, true, false, List, [], ◌∷◌, length, suc, refl, sym, ◌∙◌, ap}
use Rattle.vc_label.specs.Sets.{IsOverSets}
use Rattle.vc_label.specs.declared.tape_set.TapeSet.{TapeSet}
use Rattle.vc_model.specs.WeightSet.{WeightSet}
use Rattle.vc_model.specs.Words.{Word, is_empty}
use Rattle.vc_model.specs.WordLaws.{is_empty-size}
use Rattle.vc_terms.specs.Expansions.{JoinsLetters, AllJoinLetters}
use Rattle.vc_terms.specs.Forms.{Everywhere, EverywhereIn, IsBuiltRoot, HasRootLabel}
use Rattle.vc_terms.specs.Terms.{Term, Terms, NoTerms, MoreTerms, Zero, One, Atom, Sum, Product, Star, Weight, Both, Shuffle, HasTapes, HaveTapes}
use Rattle.vc_expr.specs.Facts.{HasRootValues}
use Rattle.vc_exprio.specs.Words.{IsOverAlphabets}
use Rattle.vc_series.specs.Conditions.{HasWeightIn}

over_tapes : (sets : List TapeSet) (w : Word) → IsOverSets sets w → length w ≡ length sets
over_tapes [] [] o = refl
over_tapes [] (a ∷ w) o = absurd o
over_tapes (s ∷ sets) [] o = absurd o
over_tapes (s ∷ sets) (a ∷ w) o = ap suc (over_tapes sets w o.1)

-- a word over the alphabets has as many tapes
pub word_tapes : (sets : List TapeSet) (w : Word) → IsOverAlphabets sets w → length w ≡ length sets
word_tapes [] [] o = refl
word_tapes [] (a ∷ w) o = absurd o
word_tapes (s ∷ sets) [] o = absurd o
word_tapes (s ∷ sets) (a ∷ w) o = ap suc (word_tapes sets w o.1)

module _ {V : Type 0} (R : WeightSet V) where
  mutual
    -- weights are values
    pub weights_in : (t : Term V) → Everywhere (HasRootValues R) t → Everywhere (HasWeightIn R) t
    weights_in Zero h = tt
    weights_in One h = tt
    weights_in (Atom a) h = tt
    weights_in (Sum ts) h = (tt, weights_all ts h.1)
    weights_in (Product ts) h = (tt, weights_all ts h.1)
    weights_in (Star t) h = (tt, weights_in t h.1)
    weights_in (Weight k t) h = (h.0, weights_in t h.1)
    weights_in (Both t u) h = (tt, weights_in t h.1, weights_in u h.2)
    weights_in (Shuffle t u) h = (tt, weights_in t h.1, weights_in u h.2)

    weights_all : (ts : Terms V) → EverywhereIn (HasRootValues R) ts → EverywhereIn (HasWeightIn R) ts
    weights_all NoTerms h = tt
    weights_all (MoreTerms t ts) h = (weights_in t h.0, weights_all ts h.1)

  module _ (same : V → V → Bool) (sets : List TapeSet) where
    mutual
      -- labels have the tapes of the sets, and none is empty
      pub has_tapes : (t : Term V) → Everywhere (HasRootLabel (IsOverSets sets)) t → Everywhere (IsBuiltRoot R same) t → JoinsLetters (length sets) t → HasTapes (length sets) t
      has_tapes Zero o b j = tt
      has_tapes One o b j = tt
      has_tapes (Atom a) o b j = (over_tapes sets a o, λ z. let c : true ≡ false = sym (is_empty-size a z) ∙ b in absurd (cc))
      has_tapes (Sum ts) o b j = have_tapes ts o.1 b.1 j
      has_tapes (Product ts) o b j = have_tapes ts o.1 b.1 j
      has_tapes (Star t) o b j = has_tapes t o.1 b.1 j
      has_tapes (Weight k t) o b j = has_tapes t o.1 b.1 j
      has_tapes (Both t u) o b j = (has_tapes t o.1 b.1 j.3, has_tapes u o.2 b.2 j.4)
      has_tapes (Shuffle t u) o b j = (j.0, has_tapes t o.1 b.1 j.3, has_tapes u o.2 b.2 j.4)

      have_tapes : (ts : Terms V) → EverywhereIn (HasRootLabel (IsOverSets sets)) ts → EverywhereIn (IsBuiltRoot R same) ts → AllJoinLetters (length sets) ts → HaveTapes (length sets) ts
      have_tapes NoTerms o b j = tt
      have_tapes (MoreTerms t ts) o b j = (has_tapes t o.0 b.0 j.0, have_tapes ts o.1 b.1 j.1)
