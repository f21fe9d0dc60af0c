-- A state leaves a system of linear equations of series.
use Rattle.std.proofs.Common.{◌≡◌, ℕ, List, ◌∷◌, ◌++◌, refl, sym, ap, ◌∙◌, length}
use Rattle.vc_model.specs.WeightSet.{WeightSet, SemiringLaws}
use Rattle.vc_model.specs.Sums.{sum_over}
use Rattle.vc_model.specs.Words.{Word, empty_word}
use Rattle.vc_model.specs.Series.{Series, product_series, star_series}
use Rattle.vc_terms.specs.Systems.{HoldsAt, entry_without, rest_without}
use Rattle.vc_model.specs.Rearranged.{plus_left}
use Rattle.vc_model.specs.SumLaws.{sum_same, sum-plus}
use Rattle.vc_model.specs.SameSums.{sum_middle}
use Rattle.vc_terms.proofs.SeriesLaws.{product_sum, product_same, product_same_on, product_assoc, plus_product, product_plus}
use Rattle.vc_terms.proofs.StarLaws.{solved_by_star}

module _ {V : Type 0} {R : WeightSet V} (L : SemiringLaws R) where
  -- one way by k
  way : (f g h X : Series V) (w : Word) → product_series R f (product_series R g (product_series R h X)) w ≡ product_series R (product_series R f (product_series R g h)) X w
  way f g h X w =
      product_same L f f (product_series R g (product_series R h X)) (product_series R (product_series R g h) X) w (λ v. refl) (λ v. sym (product_assoc L g h X v))
      ∙ sym (product_assoc L f (product_series R g h) X w)

  -- the equation at k, solved
  at_k : (tapes : ℕ) (before after : List ℕ) (k : ℕ) (entry : ℕ → ℕ → Series V) (rest X : ℕ → Series V)
      → entry k k (empty_word tapes) ≡ R.zero → HoldsAt R tapes (before ++ k ∷ after) entry rest X k
      → (w : Word) → length w ≡ tapes → X k w ≡ product_series R (star_series R (entry k k)) (λ v. R.plus (sum_over R (λ q. product_series R (entry k q) (X q) v) (before ++ after)) (rest k v)) w
  at_k tapes before after k entry rest X N hk =
      solved_by_star L (entry k k) tapes N (λ v. R.plus (sum_over R (λ q. product_series R (entry k q) (X q) v) (before ++ after)) (rest k v)) (X k)
      (λ w e. hk w e ∙ ap (λ y. R.plus y (rest k w)) (sum_middle L (λ q. product_series R (entry k q) (X q) w) k before after) ∙ L.plus_assoc _ _ _)

  -- its product with the entry from p
  by_k : (tapes : ℕ) (before after : List ℕ) (k : ℕ) (entry : ℕ → ℕ → Series V) (rest X : ℕ → Series V)
      → entry k k (empty_word tapes) ≡ R.zero → HoldsAt R tapes (before ++ k ∷ after) entry rest X k → (p : ℕ) (w : Word) → length w ≡ tapes
      → product_series R (entry p k) (X k) w ≡ R.plus (sum_over R (λ q. product_series R (product_series R (entry p k) (product_series R (star_series R (entry k k)) (entry k q))) (X q) w) (before ++ after)) (product_series R (entry p k) (product_series R (star_series R (entry k k)) (rest k)) w)
  by_k tapes before after k entry rest X N hk p w e =
      product_same_on L tapes (entry p k) (entry p k) (X k) _ (λ v i. refl) (at_k tapes before after k entry rest X N hk) w e
      ∙ product_same L (entry p k) (entry p k) _ (λ v. R.plus (sum_over R (λ q. product_series R s (product_series R (entry k q) (X q)) v) (before ++ after)) (product_series R s (rest k) v)) w (λ v. refl)
      (λ v. product_plus L s (λ z. sum_over R (λ q. product_series R (entry k q) (X q) z) (before ++ after)) (rest k) v
      ∙ ap (λ y. R.plus y (product_series R s (rest k) v)) (product_sum L s (λ q. product_series R (entry k q) (X q)) (before ++ after) v))
      ∙ product_plus L (entry p k) (λ v. sum_over R (λ q. product_series R s (product_series R (entry k q) (X q)) v) (before ++ after)) (product_series R s (rest k)) w
      ∙ ap (λ y. R.plus y (product_series R (entry p k) (product_series R s (rest k)) w))
      (product_sum L (entry p k) (λ q. product_series R s (product_series R (entry k q) (X q))) (before ++ after) w
      ∙ sum_same L _ _ (before ++ after) (λ q i. way (entry p k) s (entry k q) (X q) w))
    where
      s : Series V
      s = star_series R (entry k k)

  -- a solution solves the system without k
  pub HoldsAt-without : (tapes : ℕ) (before after : List ℕ) (k : ℕ) (entry : ℕ → ℕ → Series V) (rest X : ℕ → Series V)
      → entry k k (empty_word tapes) ≡ R.zero → HoldsAt R tapes (before ++ k ∷ after) entry rest X k → (p : ℕ) → HoldsAt R tapes (before ++ k ∷ after) entry rest X p
      → HoldsAt R tapes (before ++ after) (entry_without R k entry) (rest_without R k entry rest) X p
  HoldsAt-without tapes before after k entry rest X N hk p hp w e =
      hp w e
      ∙ ap (λ y. R.plus y (rest p w)) (sum_middle L (λ q. product_series R (entry p q) (X q) w) k before after)
      ∙ ap (λ y. R.plus (R.plus y (sum_over R (λ q. product_series R (entry p q) (X q) w) others)) (rest p w)) (by_k tapes before after k entry rest X N hk p w e)
      ∙ regroup _ _ _ _
      ∙ ap (λ y. R.plus y (rest_without R k entry rest p w))
      (sym (sum-plus L (λ q. product_series R (entry p q) (X q) w) (λ q. product_series R (by q) (X q) w) others)
      ∙ sum_same L _ _ others (λ q i. sym (plus_product L (entry p q) (by q) (X q) w)))
    where
      others : List ℕ
      others = before ++ after

      by : ℕ → Series V
      by q = product_series R (entry p k) (product_series R (star_series R (entry k k)) (entry k q))

      regroup : (a b c d : V) → R.plus (R.plus (R.plus a b) c) d ≡ R.plus (R.plus c a) (R.plus d b)
      regroup a b c d = simp (L.plus_assoc, L.plus_comm, plus_left L)
