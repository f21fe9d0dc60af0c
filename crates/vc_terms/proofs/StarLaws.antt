-- Laws of the star of series, and the one solution of a linear equation.
use Rattle.std.proofs.Common.{◌≡◌, subst, ℕ, cond, Bool, true, false, refl, sym, ap, ◌∙◌, ap₂, zero, suc, ◌<◌, ◌≤◌, arith, length}
use Rattle.vc_model.specs.WeightSet.{WeightSet, SemiringLaws}
use Rattle.vc_model.specs.Sums.{sum_over}
use Rattle.vc_model.specs.Words.{Word, size, cuts, is_empty, emptied, empty_word}
use Rattle.vc_model.specs.Series.{Series, one_series, plus_series, product_series, star_or_zero, star_series_within, star_series, SameOn, zero_series}
use Rattle.vc_model.specs.Rearranged.{zero_plus, zero_times, one_times, plus_times}
use Rattle.vc_model.specs.SumLaws.{sum_same, sum_zero}
use Rattle.vc_model.specs.WordLaws.{is_empty-size, size-is_empty, is_empty-empty_word, length-empty_word}
use Rattle.vc_model.specs.Cuts.{cuts-In}
use Rattle.vc_model.specs.Pieces.{cut_shorter}
use Rattle.vc_model.specs.Choices.{zero_or, same_or}
use Rattle.vc_terms.proofs.SeriesLaws.{first_cut, product_same_on, product_assoc, plus_product, one_product}
use Rattle.std.specs.Prelude.{IsTrue}

module _ {V : Type 0} {R : WeightSet V} (L : SemiringLaws R) (f : Series V) where
  -- a star that is defined solves its equation
  pub star_or_zero-is : (a : V) → IsTrue (R.has_star a) → star_or_zero R a ≡ R.plus R.one (R.times a (star_or_zero R a))
  star_or_zero-is a h =
      let is : star_or_zero R a ≡ R.star a = ap (λ b. cond b (R.star a) R.zero) h in
      is ∙ L.star_is a h ∙ ap (λ y. R.plus R.one (R.times a y)) (sym is)

  pub star_stable : (k j : ℕ) (w : Word) → size w ≤ k → size w ≤ j → star_series_within R f k w ≡ star_series_within R f j w
  star_stable zero zero w h g = refl
  star_stable zero (suc j) w h g = sym (ap (λ b. cond b (star_or_zero R (f (emptied w))) (R.times (star_or_zero R (f (emptied w))) (sum_over R (λ c. cond (is_empty c.0) R.zero (R.times (f c.0) (star_series_within R f j c.1))) (cuts w)))) (is_empty-size w (omega arith)))
  star_stable (suc k) zero w h g = ap (λ b. cond b (star_or_zero R (f (emptied w))) (R.times (star_or_zero R (f (emptied w))) (sum_over R (λ c. cond (is_empty c.0) R.zero (R.times (f c.0) (star_series_within R f k c.1))) (cuts w)))) (is_empty-size w (omega arith))
  star_stable (suc k) (suc j) w h g =
      ap (λ y. cond (is_empty w) (star_or_zero R (f (emptied w))) (R.times (star_or_zero R (f (emptied w))) y))
      (sum_same L _ _ (cuts w) (λ c i. same_or _ (is_empty c.0) _ _ (λ e. let s = cut_shorter w c i e in ap (R.times (f c.0)) (star_stable k j c.1 (omega arith) (omega arith)))))

  -- over the cuts with a first piece that is not empty
  abbrev pub later : Series V → Series V
  later X w = sum_over R (λ c. cond (is_empty c.0) R.zero (R.times (f c.0) (X c.1))) (cuts w)

  pub star_is : (w : Word) → star_series R f w ≡ cond (is_empty w) (star_or_zero R (f (emptied w))) (R.times (star_or_zero R (f (emptied w))) (later (star_series R f) w))
  star_is w =
      star_stable (size w) (suc (size w)) w (omega arith) (omega arith)
      ∙ ap (λ y. cond (is_empty w) (star_or_zero R (f (emptied w))) (R.times (star_or_zero R (f (emptied w))) y))
      (sum_same L _ _ (cuts w) (λ c i. same_or _ (is_empty c.0) _ _ (λ e. let s = cut_shorter w c i e in ap (R.times (f c.0)) (star_stable (size w) (size c.1) c.1 (omega arith) (omega arith)))))

  pub product_later : (X : Series V) (w : Word) → product_series R f X w ≡ R.plus (R.times (f (emptied w)) (X w)) (later X w)
  product_later X w = first_cut L w (λ c. R.times (f c.0) (X c.1))

  -- the star is one and the series times its star, where the star of the constant term is so
  pub star_unfold : (w : Word) → IsTrue (R.has_star (f (emptied w))) → star_series R f w ≡ R.plus (one_series R w) (product_series R f (star_series R f) w)
  star_unfold w h = sym (ap (R.plus (one_series R w)) (product_later (star_series R f) w ∙ ap (λ y. R.plus (R.times (f (emptied w)) y) (later (star_series R f) w)) (star_is w)) ∙ go (is_empty w) refl)
    where
      D : star_or_zero R (f (emptied w)) ≡ R.plus R.one (R.times (f (emptied w)) (star_or_zero R (f (emptied w))))
      D = star_or_zero-is (f (emptied w)) h

      go : (b : Bool) → is_empty w ≡ b → R.plus (cond b R.one R.zero) (R.plus (R.times (f (emptied w)) (cond b (star_or_zero R (f (emptied w))) (R.times (star_or_zero R (f (emptied w))) (later (star_series R f) w)))) (later (star_series R f) w)) ≡ star_series R f w
      go true e =
          ap (λ y. R.plus R.one (R.plus (R.times (f (emptied w)) (star_or_zero R (f (emptied w)))) y))
          (sum_zero L _ (cuts w) (λ c i. zero_or _ (is_empty c.0) _ (λ q. let s = cut_shorter w c i q in let z = size-is_empty w e in absurd (omega arith))))
          ∙ ap (R.plus R.one) (L.plus_zero _) ∙ sym D ∙ sym (ap (λ b. cond b (star_or_zero R (f (emptied w))) (R.times (star_or_zero R (f (emptied w))) (later (star_series R f) w))) e) ∙ sym (star_is w)
      go false e =
          zero_plus L _
          ∙ ap₂ R.plus (sym (L.times_assoc _ _ _)) (sym (one_times L _))
          ∙ sym (plus_times L _ _ _)
          ∙ ap (λ y. R.times y (later (star_series R f) w)) (L.plus_comm _ _ ∙ sym D)
          ∙ sym (ap (λ b. cond b (star_or_zero R (f (emptied w))) (R.times (star_or_zero R (f (emptied w))) (later (star_series R f) w))) e) ∙ sym (star_is w)

  -- a series without constant term: the equation X = f X + y has one solution
  pub one_solution : (tapes : ℕ) → f (empty_word tapes) ≡ R.zero → (y X Y : Series V) → ((w : Word) → length w ≡ tapes → X w ≡ R.plus (product_series R f X w) (y w)) → ((w : Word) → length w ≡ tapes → Y w ≡ R.plus (product_series R f Y w) (y w)) → (n : ℕ) (w : Word) → length w ≡ tapes → size w < n → X w ≡ Y w
  one_solution tapes N y X Y h g zero w m l = absurd (omega arith)
  one_solution tapes N y X Y h g (suc n) w m l =
      h w m ∙ ap (λ z. R.plus z (y w)) (opened X ∙ sum_same L _ _ (cuts w) (λ c i. same_or _ (is_empty c.0) _ _ (λ e. let s = cut_shorter w c i e in ap (R.times (f c.0)) (one_solution tapes N y X Y h g n c.1 ((cuts-In w c i).2 ∙ m) (omega arith)))) ∙ sym (opened Y)) ∙ sym (g w m)
    where
      opened : (Z : Series V) → product_series R f Z w ≡ later Z w
      opened Z = product_later Z w ∙ ap (λ x. R.plus (R.times x (Z w)) (later Z w)) (ap (λ n. f (empty_word n)) m ∙ N) ∙ ap (λ x. R.plus x (later Z w)) (zero_times L (Z w)) ∙ zero_plus L (later Z w)

  pub star_solves : (tapes : ℕ) → IsTrue (R.has_star (f (empty_word tapes))) → (y : Series V) (w : Word) → length w ≡ tapes → product_series R (star_series R f) y w ≡ R.plus (product_series R f (product_series R (star_series R f) y) w) (y w)
  star_solves tapes D y w e =
      product_same_on L tapes (star_series R f) (plus_series R (one_series R) (product_series R f (star_series R f))) y y (λ v i. star_unfold v (subst (λ n. IsTrue (R.has_star (f (empty_word n)))) (sym i) D)) (λ v i. refl) w e
      ∙ plus_product L (one_series R) (product_series R f (star_series R f)) y w
      ∙ ap₂ R.plus (one_product L y w) (product_assoc L f (star_series R f) y w)
      ∙ L.plus_comm _ _

  pub solved_by_star : (tapes : ℕ) → f (empty_word tapes) ≡ R.zero → (y X : Series V) → ((w : Word) → length w ≡ tapes → X w ≡ R.plus (product_series R f X w) (y w)) → (w : Word) → length w ≡ tapes → X w ≡ product_series R (star_series R f) y w
  solved_by_star tapes N y X h w e = one_solution tapes N y X (product_series R (star_series R f) y) h (star_solves tapes (subst (λ a. IsTrue (R.has_star a)) (sym N) L.star_zero) y) (suc (size w)) w e (omega arith)

  -- the constant term of a star
  pub star_at_empty : (tapes : ℕ) → star_series R f (empty_word tapes) ≡ star_or_zero R (f (empty_word tapes))
  star_at_empty tapes =
      star_is (empty_word tapes)
      ∙ ap (λ b. cond b (star_or_zero R (f (emptied (empty_word tapes)))) (R.times (star_or_zero R (f (emptied (empty_word tapes)))) (later (star_series R f) (empty_word tapes)))) (is_empty-empty_word tapes)
      ∙ ap (λ n. star_or_zero R (f (empty_word n))) (length-empty_word tapes)

module _ {V : Type 0} {R : WeightSet V} (L : SemiringLaws R) where
  pub star_within_same : (tapes : ℕ) (f g : Series V) → SameOn tapes f g → (k : ℕ) → SameOn tapes (star_series_within R f k) (star_series_within R g k)
  star_within_same tapes f g h zero w e = ap (star_or_zero R) (h (emptied w) (length-empty_word (length w) ∙ e))
  star_within_same tapes f g h (suc k) w e =
      ap₂ (λ c s. cond (is_empty w) (star_or_zero R c) (R.times (star_or_zero R c) s)) (h (emptied w) (length-empty_word (length w) ∙ e))
      (sum_same L _ _ (cuts w) (λ c i. let j = cuts-In w c i in ap (cond (is_empty c.0) R.zero) (ap₂ R.times (h c.0 (j.1 ∙ e)) (star_within_same tapes f g h k c.1 (j.2 ∙ e)))))

  pub star_same_on : (tapes : ℕ) (f g : Series V) → SameOn tapes f g → SameOn tapes (star_series R f) (star_series R g)
  star_same_on tapes f g h w e = star_within_same tapes f g h (size w) w e

  -- the star of zero is one
  pub star-zero : (w : Word) → star_series R (zero_series R) w ≡ one_series R w
  star-zero w =
      star_is L (zero_series R) w
      ∙ ap₂ (λ c s. cond (is_empty w) c (R.times c s)) is_one (sum_zero L _ (cuts w) (λ c i. cond_zero_both (is_empty c.0) _))
      ∙ ap (cond (is_empty w) R.one) (L.times_zero R.one)
    where
      is_one : star_or_zero R R.zero ≡ R.one
      is_one = star_or_zero-is L (zero_series R) R.zero L.star_zero ∙ ap (R.plus R.one) (zero_times L _) ∙ L.plus_zero R.one

      cond_zero_both : (b : Bool) (x : V) → cond b R.zero (R.times R.zero x) ≡ R.zero
      cond_zero_both true x = refl
      cond_zero_both false x = zero_times L x
