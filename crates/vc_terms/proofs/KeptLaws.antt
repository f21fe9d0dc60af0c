-- The operations keep tapes and validity.
use Rattle.std.proofs.Common.{◌≡◌, ℕ, cond, Bool, true, false, refl, sym, ◌∙◌, subst, IsTrue}
use Rattle.std.proofs.lemmas.Bool.{true≢false}
use Rattle.vc_model.specs.WeightSet.{WeightSet, SemiringLaws}
use Rattle.vc_model.specs.Lists.{IsEqualityTest}
use Rattle.vc_model.specs.Words.{is_empty, empty_word}
use Rattle.vc_model.specs.WordLaws.{is_empty-size, length-empty_word}
use Rattle.vc_terms.specs.Terms.{Term, Terms, NoTerms, MoreTerms, terms_of, Zero, One, Atom, Sum, Product, Star, Weight, Both, Shuffle, HasTapes, HaveTapes, IsValid, AreValid}
use Rattle.vc_terms.specs.Identities.{built_of, built_all}
use Rattle.vc_terms.specs.Kept.{IsKept}
use Rattle.vc_terms.specs.KeptTrees.{sum_kept, weight_kept, product_kept, both_kept, shuffle_kept, star_kept}
use Rattle.vc_terms.specs.Terms.{IsOnTapes, AreOnTapes}
use Rattle.vc_terms.specs.SeriesLaws.{SeriesLaws}
use Rattle.vc_terms.proofs.RawTrees.{built-law}

module _ {V : Type 0} (R : WeightSet V) (equal : V → V → Bool) (tapes : ℕ) where
  pub tapes_kept : IsKept {V = V} (HasTapes tapes) (HaveTapes tapes)
  tapes_kept = record {
    zero = tt;
    one = tt;
    none = tt;
    more = λ t ts h k. (h, k);
    first = λ t ts h. h.0;
    others = λ t ts h. h.1;
    sum = λ ts h. h;
    members = λ ts h. h;
    product = λ ts h. h;
    factors = λ ts h. h;
    weight = λ k t h. h;
    body = λ k t h. h;
  }

  pub valid_kept : IsKept (IsValid R tapes) (AreValid R tapes)
  valid_kept = record {
    zero = tt;
    one = tt;
    none = tt;
    more = λ t ts h k. (h, k);
    first = λ t ts h. h.0;
    others = λ t ts h. h.1;
    sum = λ ts h. h;
    members = λ ts h. h;
    product = λ ts h. h;
    factors = λ ts h. h;
    weight = λ k t h. h;
    body = λ k t h. h;
  }

  mutual
    -- what is built has its tapes
    pub built_tapes : (t : Term V) → IsOnTapes tapes t → HasTapes tapes (built_of R equal t)
    built_tapes Zero i = tt
    built_tapes One i = tt
    built_tapes (Atom a) i = go (is_empty a) refl
      where
        go : (b : Bool) → is_empty a ≡ b → HasTapes {V = V} tapes (cond b One (Atom a))
        go true e = tt
        go false e = (i, λ z. true≢false (sym (is_empty-size a z) ∙ e))
    built_tapes (Sum ts) i = sum_kept R equal (HasTapes tapes) (HaveTapes tapes) tapes_kept (built_all R equal ts) (all_built_tapes ts i)
    built_tapes (Product ts) i = product_kept R equal (HasTapes tapes) (HaveTapes tapes) tapes_kept (built_all R equal ts) (all_built_tapes ts i)
    built_tapes (Star t) i = star_kept R equal (HasTapes tapes) (HaveTapes tapes) tapes_kept (built_of R equal t) (built_tapes t i)
    built_tapes (Weight k t) i = weight_kept R equal (HasTapes tapes) (HaveTapes tapes) tapes_kept k (built_of R equal t) (built_tapes t i)
    built_tapes (Both t u) i = both_kept R equal (HasTapes tapes) (HaveTapes tapes) tapes_kept (built_of R equal t) (built_of R equal u) (built_tapes t i.0, built_tapes u i.1)
    built_tapes (Shuffle t u) i =
        shuffle_kept R equal (HasTapes tapes) (HaveTapes tapes) tapes_kept (built_of R equal t) (built_of R equal u) (built_tapes t i.1) (built_tapes u i.2) (i.0, built_tapes t i.1, built_tapes u i.2)

    pub all_built_tapes : (ts : Terms V) → AreOnTapes tapes ts → HaveTapes tapes (terms_of (built_all R equal ts))
    all_built_tapes NoTerms i = tt
    all_built_tapes (MoreTerms t ts) i = (built_tapes t i.0, all_built_tapes ts i.1)

  module _ (L : SemiringLaws R) (S : SeriesLaws R) (Q : IsEqualityTest equal) where
    mutual
      -- what is built of a valid tree is valid
      pub built_valid : (t : Term V) → IsOnTapes tapes t → IsValid R tapes t → IsValid R tapes (built_of R equal t)
      built_valid Zero i v = tt
      built_valid One i v = tt
      built_valid (Atom a) i v = go (is_empty a)
        where
          go : (b : Bool) → IsValid R tapes (cond b One (Atom a))
          go true = tt
          go false = tt
      built_valid (Sum ts) i v = sum_kept R equal (IsValid R tapes) (AreValid R tapes) valid_kept (built_all R equal ts) (all_built_valid ts i v)
      built_valid (Product ts) i v = product_kept R equal (IsValid R tapes) (AreValid R tapes) valid_kept (built_all R equal ts) (all_built_valid ts i v)
      built_valid (Star t) i v =
          star_kept R equal (IsValid R tapes) (AreValid R tapes) valid_kept (built_of R equal t)
          (built_valid t i v.0, subst (λ c. IsTrue (R.has_star c)) (sym (built-law L S equal Q tapes t i (empty_word tapes) (length-empty_word tapes))) v.1)
      built_valid (Weight k t) i v = weight_kept R equal (IsValid R tapes) (AreValid R tapes) valid_kept k (built_of R equal t) (built_valid t i v)
      built_valid (Both t u) i v = both_kept R equal (IsValid R tapes) (AreValid R tapes) valid_kept (built_of R equal t) (built_of R equal u) (built_valid t i.0 v.0, built_valid u i.1 v.1)
      built_valid (Shuffle t u) i v =
          shuffle_kept R equal (IsValid R tapes) (AreValid R tapes) valid_kept (built_of R equal t) (built_of R equal u) (built_valid t i.1 v.0) (built_valid u i.2 v.1) (built_valid t i.1 v.0, built_valid u i.2 v.1)

      pub all_built_valid : (ts : Terms V) → AreOnTapes tapes ts → AreValid R tapes ts → AreValid R tapes (terms_of (built_all R equal ts))
      all_built_valid NoTerms i v = tt
      all_built_valid (MoreTerms t ts) i v = (built_valid t i.0 v.0, all_built_valid ts i.1 v.1)
