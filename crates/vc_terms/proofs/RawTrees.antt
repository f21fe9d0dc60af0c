-- The tree that is built of a raw tree has its series.
use Rattle.std.proofs.Common.{◌≡◌, ℕ, [], ◌∷◌, cond, Bool, true, false, refl, sym, ap, ◌∙◌, ap₂, length, arith}
use Rattle.vc_model.specs.WeightSet.{WeightSet, SemiringLaws}
use Rattle.vc_model.specs.Lists.{IsEqualityTest}
use Rattle.vc_model.specs.Words.{Tape, Word, is_empty, same_word, empty_word}
use Rattle.vc_model.specs.WordLaws.{size-is_empty, empty_from_size, same_word-is_empty}
use Rattle.vc_model.specs.Series.{SameOn, shuffle_series}
use Rattle.vc_terms.specs.Terms.{Term, Terms, NoTerms, MoreTerms, terms_of, coefficient_of, sum_coefficient, product_coefficient, Zero, One, Atom, Sum, Product, Star, Weight, Both, Shuffle}
use Rattle.vc_terms.specs.Identities.{built_of, built_all}
use Rattle.vc_terms.specs.Terms.{IsOnTapes, AreOnTapes}
use Rattle.vc_terms.specs.SeriesLaws.{SeriesLaws}
use Rattle.vc_terms.proofs.IdentityLaws.{sum_of-law, product_of-law, weight_of-law, both_of-law, shuffle_of-law, star_of-law}

module _ {V : Type 0} {R : WeightSet V} (L : SemiringLaws R) (P : SeriesLaws R) (equal : V → V → Bool) (Q : IsEqualityTest equal) (tapes : ℕ) where
  shuffle_on : (t u v : Term V) (w : Word) → length w ≡ 1 → ((a : Tape) → coefficient_of R t (a ∷ []) ≡ shuffle_series R (coefficient_of R u) (coefficient_of R v) (a ∷ []))
      → coefficient_of R t w ≡ shuffle_series R (coefficient_of R u) (coefficient_of R v) w
  shuffle_on t u v [] l f = absurd (omega arith)
  shuffle_on t u v (a ∷ []) l f = f a
  shuffle_on t u v (a ∷ b ∷ w) l f = absurd (omega arith)

  mutual
    pub built-law : (t : Term V) → IsOnTapes tapes t → SameOn tapes (coefficient_of R (built_of R equal t)) (coefficient_of R t)
    built-law Zero i w l = refl
    built-law One i w l = refl
    built-law (Atom a) i w l = go (is_empty a) refl
      where
        go : (b : Bool) → is_empty a ≡ b → coefficient_of R (cond b One (Atom a)) w ≡ cond (same_word a w) R.one R.zero
        go true p = ap (λ b. cond b R.one R.zero) (sym (ap (λ v. same_word v w) (empty_from_size a (size-is_empty a p) ∙ ap (λ m. empty_word m) i) ∙ same_word-is_empty tapes w l))
        go false p = refl
    built-law (Sum ts) i w l = sum_of-law L P (built_all R equal ts) w ∙ sum-law ts i w l
    built-law (Product ts) i w l = product_of-law L P equal Q (built_all R equal ts) w ∙ product-law ts i w l
    built-law (Star t) i w l = star_of-law L P (built_of R equal t) w ∙ P.star_same tapes (coefficient_of R (built_of R equal t)) (coefficient_of R t) (built-law t i) w l
    built-law (Weight k t) i w l = weight_of-law L P equal Q k (built_of R equal t) w ∙ ap (R.times k) (built-law t i w l)
    built-law (Both t u) i w l = both_of-law L P (built_of R equal t) (built_of R equal u) w ∙ ap₂ R.times (built-law t i.0 w l) (built-law u i.1 w l)
    built-law (Shuffle t u) i w l =
        shuffle_on (built_of R equal (Shuffle t u)) (built_of R equal t) (built_of R equal u) w (l ∙ i.0) (shuffle_of-law L P (built_of R equal t) (built_of R equal u))
        ∙ P.shuffle_same (coefficient_of R (built_of R equal t)) (coefficient_of R t) (coefficient_of R (built_of R equal u)) (coefficient_of R u)
        (λ v e. built-law t i.1 v (e ∙ sym i.0)) (λ v e. built-law u i.2 v (e ∙ sym i.0)) w (l ∙ i.0)

    sum-law : (ts : Terms V) → AreOnTapes tapes ts → SameOn tapes (sum_coefficient R (terms_of (built_all R equal ts))) (sum_coefficient R ts)
    sum-law NoTerms i w l = refl
    sum-law (MoreTerms t ts) i w l = ap₂ R.plus (built-law t i.0 w l) (sum-law ts i.1 w l)

    product-law : (ts : Terms V) → AreOnTapes tapes ts → SameOn tapes (product_coefficient R (terms_of (built_all R equal ts))) (product_coefficient R ts)
    product-law NoTerms i w l = refl
    product-law (MoreTerms t ts) i w l = P.product_same tapes (coefficient_of R (built_of R equal t)) (coefficient_of R t) (product_coefficient R (terms_of (built_all R equal ts))) (product_coefficient R ts) (built-law t i.0) (product-law ts i.1) w l
