-- Coefficients of expressions, member by member.
use Rattle.std.proofs.Common.{◌≡◌, ℕ, List, [], ◌∷◌, ◌++◌, refl, sym, ap, ◌∙◌, cond, ap₂}
use Rattle.vc_model.specs.WeightSet.{WeightSet, SemiringLaws}
use Rattle.vc_model.specs.Sums.{sum_over}
use Rattle.vc_model.specs.Words.{Word, empty_word, size, same_word}
use Rattle.vc_model.specs.Series.{product_series, star_or_zero, shuffle_series}
use Rattle.vc_terms.specs.Terms.{Term, Terms, NoTerms, MoreTerms, terms_of, list_of, coefficient_of, sum_coefficient, product_coefficient, Zero, One, Atom, Sum, Product, Star, Weight, Both, Shuffle, HasTapes, HaveTapes, constant_of, sum_constant, product_constant}
use Rattle.vc_terms.proofs.SeriesLaws.{product_same, product_assoc, one_product, product_one, product_at_empty}
use Rattle.vc_terms.proofs.StarLaws.{star_at_empty}
use Rattle.vc_terms.proofs.TapeSeries.{shuffle_empty}
use Rattle.vc_model.specs.Choices.{off}
use Rattle.vc_model.specs.WordLaws.{is_empty-empty_word, same_word-true, size-empty_word}

pub list_of-terms_of : {V : Type 0} (ts : List (Term V)) → list_of (terms_of ts) ≡ ts
list_of-terms_of [] = refl
list_of-terms_of (t ∷ ts) = ap (λ us. t ∷ us) (list_of-terms_of ts)

pub terms_of-list_of : {V : Type 0} (ts : Terms V) → terms_of (list_of ts) ≡ ts
terms_of-list_of NoTerms = refl
terms_of-list_of (MoreTerms t ts) = ap (MoreTerms t) (terms_of-list_of ts)

-- a sum is the sum over its members
pub sum_coefficient-is : {V : Type 0} (R : WeightSet V) (ts : Terms V) (w : Word) → sum_coefficient R ts w ≡ sum_over R (λ t. coefficient_of R t w) (list_of ts)
sum_coefficient-is R NoTerms w = refl
sum_coefficient-is R (MoreTerms t ts) w = ap (R.plus (coefficient_of R t w)) (sum_coefficient-is R ts w)

module _ {V : Type 0} {R : WeightSet V} (L : SemiringLaws R) where
  pub sum_coefficient-append : (ts us : List (Term V)) (w : Word) → sum_coefficient R (terms_of (ts ++ us)) w ≡ R.plus (sum_coefficient R (terms_of ts) w) (sum_coefficient R (terms_of us) w)
  sum_coefficient-append [] us w = sym (L.plus_comm R.zero _ ∙ L.plus_zero _)
  sum_coefficient-append (t ∷ ts) us w = ap (R.plus (coefficient_of R t w)) (sum_coefficient-append ts us w) ∙ sym (L.plus_assoc _ _ _)

  pub product_coefficient-append : (ts us : List (Term V)) (w : Word) → product_coefficient R (terms_of (ts ++ us)) w ≡ product_series R (product_coefficient R (terms_of ts)) (product_coefficient R (terms_of us)) w
  product_coefficient-append [] us w = sym (one_product L (product_coefficient R (terms_of us)) w)
  product_coefficient-append (t ∷ ts) us w =
      product_same L (coefficient_of R t) (coefficient_of R t) _ _ w (λ v. refl) (product_coefficient-append ts us)
      ∙ sym (product_assoc L (coefficient_of R t) (product_coefficient R (terms_of ts)) (product_coefficient R (terms_of us)) w)

  -- a product of one member is the member
  pub product_coefficient-one : (t : Term V) (w : Word) → product_coefficient R (MoreTerms t NoTerms) w ≡ coefficient_of R t w
  product_coefficient-one t w = product_one L (coefficient_of R t) w

  mutual
    -- the coefficient at the empty word is the constant term
    pub coefficient-empty : (tapes : ℕ) (t : Term V) → HasTapes tapes t → coefficient_of R t (empty_word tapes) ≡ constant_of R t
    coefficient-empty tapes Zero h = refl
    coefficient-empty tapes One h = ap (λ b. cond b R.one R.zero) (is_empty-empty_word tapes)
    coefficient-empty tapes (Atom a) h = off R.zero (same_word a (empty_word tapes)) R.one (λ e. h.1 (ap (λ w. size w) (same_word-true a (empty_word tapes) e) ∙ size-empty_word tapes))
    coefficient-empty tapes (Sum ts) h = sum-empty tapes ts h
    coefficient-empty tapes (Product ts) h = product-empty tapes ts h
    coefficient-empty tapes (Star t) h = star_at_empty L (coefficient_of R t) tapes ∙ ap (star_or_zero R) (coefficient-empty tapes t h)
    coefficient-empty tapes (Weight k t) h = ap (R.times k) (coefficient-empty tapes t h)
    coefficient-empty tapes (Both t u) h = ap₂ R.times (coefficient-empty tapes t h.0) (coefficient-empty tapes u h.1)
    coefficient-empty tapes (Shuffle t u) h =
        ap (λ n. shuffle_series R (coefficient_of R t) (coefficient_of R u) (empty_word n)) h.0
        ∙ shuffle_empty L (coefficient_of R t) (coefficient_of R u)
        ∙ ap (λ n. R.times (coefficient_of R t (empty_word n)) (coefficient_of R u (empty_word n))) (sym h.0)
        ∙ ap₂ R.times (coefficient-empty tapes t h.1) (coefficient-empty tapes u h.2)

    pub sum-empty : (tapes : ℕ) (ts : Terms V) → HaveTapes tapes ts → sum_coefficient R ts (empty_word tapes) ≡ sum_constant R ts
    sum-empty tapes NoTerms h = refl
    sum-empty tapes (MoreTerms t ts) h = ap₂ R.plus (coefficient-empty tapes t h.0) (sum-empty tapes ts h.1)

    pub product-empty : (tapes : ℕ) (ts : Terms V) → HaveTapes tapes ts → product_coefficient R ts (empty_word tapes) ≡ product_constant R ts
    product-empty tapes NoTerms h = ap (λ b. cond b R.one R.zero) (is_empty-empty_word tapes)
    product-empty tapes (MoreTerms t ts) h =
        product_at_empty L (coefficient_of R t) (product_coefficient R ts) tapes
        ∙ ap₂ R.times (coefficient-empty tapes t h.0) (product-empty tapes ts h.1)
