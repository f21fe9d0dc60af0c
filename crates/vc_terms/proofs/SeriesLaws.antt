-- Laws of the product of series.
use Rattle.std.proofs.Common.{ℕ, List, true, false, inl, inr, ◌⊎◌, subst, length, ◌≡◌, [], ◌∷◌, cond, sym, ap, ◌∙◌, ap₂, Bool, refl}
use Rattle.vc_model.specs.WeightSet.{WeightSet, SemiringLaws}
use Rattle.vc_model.specs.Lists.{In}
use Rattle.vc_model.specs.Sums.{sum_over}
use Rattle.vc_model.specs.Words.{empty_word, join, Tape, Word, tape_cuts, cuts, is_empty, emptied}
use Rattle.vc_model.specs.Series.{SameOn, zero_series, weight_series, Series, one_series, plus_series, product_series}
use Rattle.vc_model.specs.Rearranged.{times_left, zero_times, one_times, plus_times}
use Rattle.vc_model.specs.SumLaws.{sum_swap, sum-map, sum_same, sum_zero, sum-plus, sum-times, sum-times_right}
use Rattle.vc_model.specs.Cuts.{cuts-In, In-cuts}
use Rattle.vc_model.specs.Pieces.{cuts-NoRepeat, cuts-empty_word, sum_cuts, pieces}
use Rattle.vc_model.specs.WordLaws.{size-is_empty, empty_from_size, join-empty_right, length-empty_word, is_empty-emptied}
use Rattle.vc_model.specs.Choices.{zero_or}
use Rattle.vc_model.specs.SameSums.{same_sums}

module _ {V : Type 0} {R : WeightSet V} (L : SemiringLaws R) where
  -- the cut with an empty first piece, and the others
  pub first_cut : (w : Word) (F : Word × Word → V) → sum_over R F (cuts w) ≡ R.plus (F (emptied w, w)) (sum_over R (λ c. cond (is_empty c.0) R.zero (F c)) (cuts w))
  first_cut [] F = ap (R.plus (F ([], []))) (sym (L.plus_zero R.zero))
  first_cut ([] ∷ w) F =
      sum_cuts L [] w F ∙ ap (λ y. R.plus y R.zero) (first_cut w (λ d. F ([] ∷ d.0, [] ∷ d.1)))
      ∙ L.plus_assoc _ _ _ ∙ ap (R.plus (F ([] ∷ emptied w, [] ∷ w))) (sym (sum_cuts L [] w (λ c. cond (is_empty c.0) R.zero (F c))))
  first_cut ((x ∷ a) ∷ w) F =
      sum_cuts L (x ∷ a) w F
      ∙ ap₂ R.plus (first_cut w (λ d. F ([] ∷ d.0, (x ∷ a) ∷ d.1)))
      (sum-map L (λ c. sum_over R (λ d. F (c.0 ∷ d.0, c.1 ∷ d.1)) (cuts w)) (λ (c : Tape × Tape). (x ∷ c.0, c.1)) (tape_cuts a)
      ∙ sym (sum-map L (λ c. sum_over R (λ d. cond (is_empty (c.0 ∷ d.0)) R.zero (F (c.0 ∷ d.0, c.1 ∷ d.1))) (cuts w)) (λ (c : Tape × Tape). (x ∷ c.0, c.1)) (tape_cuts a)))
      ∙ L.plus_assoc _ _ _
      ∙ ap (R.plus (F ([] ∷ emptied w, (x ∷ a) ∷ w))) (sym (sum_cuts L (x ∷ a) w (λ c. cond (is_empty c.0) R.zero (F c))))

  pub product_same : (f f' g g' : Series V) (w : Word) → ((v : Word) → f v ≡ f' v) → ((v : Word) → g v ≡ g' v) → product_series R f g w ≡ product_series R f' g' w
  product_same f f' g g' w h k = sum_same L _ _ (cuts w) (λ c i. ap₂ R.times (h c.0) (k c.1))

  pub product_assoc : (f g h : Series V) (w : Word) → product_series R (product_series R f g) h w ≡ product_series R f (product_series R g h) w
  product_assoc f g h w =
      sum_same L _ (λ c. sum_over R (λ d. R.times (f d.0) (R.times (g d.1) (h c.1))) (cuts c.0)) (cuts w) (λ c i.
      sym (sum-times_right L (h c.1) (λ d. R.times (f d.0) (g d.1)) (cuts c.0)) ∙ sum_same L _ _ (cuts c.0) (λ d j. L.times_assoc (f d.0) (g d.1) (h c.1)))
      ∙ pieces L w (λ u v z. R.times (f u) (R.times (g v) (h z)))
      ∙ sum_same L _ _ (cuts w) (λ c i. sum-times L (f c.0) (λ d. R.times (g d.0) (h d.1)) (cuts c.1))

  pub plus_product : (f g h : Series V) (w : Word) → product_series R (plus_series R f g) h w ≡ R.plus (product_series R f h w) (product_series R g h w)
  plus_product f g h w = sum_same L _ _ (cuts w) (λ c i. plus_times L (f c.0) (g c.0) (h c.1)) ∙ sum-plus L _ _ (cuts w)

  pub product_plus : (f g h : Series V) (w : Word) → product_series R f (plus_series R g h) w ≡ R.plus (product_series R f g w) (product_series R f h w)
  product_plus f g h w = sum_same L _ _ (cuts w) (λ c i. L.times_plus (f c.0) (g c.1) (h c.1)) ∙ sum-plus L _ _ (cuts w)

  pub one_product : (f : Series V) (w : Word) → product_series R (one_series R) f w ≡ f w
  one_product f w =
      first_cut w (λ c. R.times (one_series R c.0) (f c.1))
      ∙ ap₂ R.plus (ap (λ b. R.times (cond b R.one R.zero) (f w)) (is_empty-emptied w) ∙ one_times L (f w))
      (sum_zero L _ (cuts w) (λ c i. zero_or _ (is_empty c.0) _ (λ e. ap (λ b. R.times (cond b R.one R.zero) (f c.1)) e ∙ zero_times L (f c.1))))
      ∙ L.plus_zero (f w)

  pub product_sum : {X : Type 0} (f : Series V) (g : X → Series V) (xs : List X) (w : Word) → product_series R f (λ v. sum_over R (λ x. g x v) xs) w ≡ sum_over R (λ x. product_series R f (g x) w) xs
  product_sum f g xs w =
      sum_same L _ (λ c. sum_over R (λ x. R.times (f c.0) (g x c.1)) xs) (cuts w) (λ c i. sym (sum-times L (f c.0) (λ x. g x c.1) xs))
      ∙ sum_swap L (λ c x. R.times (f c.0) (g x c.1)) (cuts w) xs

  pub sum_product : {X : Type 0} (f : X → Series V) (g : Series V) (xs : List X) (w : Word) → product_series R (λ v. sum_over R (λ x. f x v) xs) g w ≡ sum_over R (λ x. product_series R (f x) g w) xs
  sum_product f g xs w =
      sum_same L _ (λ c. sum_over R (λ x. R.times (f x c.0) (g c.1)) xs) (cuts w) (λ c i. sym (sum-times_right L (g c.1) (λ x. f x c.0) xs))
      ∙ sum_swap L (λ c x. R.times (f x c.0) (g c.1)) (cuts w) xs

  pub zero_product : (f : Series V) (w : Word) → product_series R (zero_series R) f w ≡ R.zero
  zero_product f w = sum_zero L _ (cuts w) (λ c i. zero_times L (f c.1))

  pub product_zero : (f : Series V) (w : Word) → product_series R f (zero_series R) w ≡ R.zero
  product_zero f w = sum_zero L _ (cuts w) (λ c i. L.times_zero (f c.0))

  pub weight_product : (k : V) (f g : Series V) (w : Word) → product_series R (weight_series R k f) g w ≡ R.times k (product_series R f g w)
  weight_product k f g w = sum_same L _ _ (cuts w) (λ c i. L.times_assoc k (f c.0) (g c.1)) ∙ sum-times L k (λ c. R.times (f c.0) (g c.1)) (cuts w)

  pub product_weight : (k : V) (f g : Series V) (w : Word) → product_series R f (weight_series R k g) w ≡ R.times k (product_series R f g w)
  product_weight k f g w = sum_same L _ _ (cuts w) (λ c i. times_left L (f c.0) k (g c.1)) ∙ sum-times L k (λ c. R.times (f c.0) (g c.1)) (cuts w)

  pub product_one : (f : Series V) (w : Word) → product_series R f (one_series R) w ≡ f w
  product_one f w =
      same_sums L g (cuts w) ((w, emptied w) ∷ []) (cuts-NoRepeat w) ((λ i. i), tt)
      (λ c i. whole c (is_empty c.1) refl i)
      (λ c i. elim i [ inl p ↦ inr (subst (λ d. In d (cuts w)) (sym p) there) | inr n ↦ absurd n ])
      ∙ L.plus_zero _
      ∙ ap (λ b. R.times (f w) (cond b R.one R.zero)) (is_empty-emptied w) ∙ L.times_one (f w)
    where
      g : Word × Word → V
      g c = R.times (f c.0) (one_series R c.1)

      there : In (w, emptied w) (cuts w)
      there = subst (λ z. In (w, emptied w) (cuts z)) (join-empty_right (length w) w refl) (In-cuts w (emptied w) (sym (length-empty_word (length w))))

      whole : (c : Word × Word) (b : Bool) → is_empty c.1 ≡ b → In c (cuts w) → (g c ≡ R.zero) ⊎ In c ((w, emptied w) ∷ [])
      whole c false e i = inl (ap (λ b. R.times (f c.0) (cond b R.one R.zero)) e ∙ L.times_zero (f c.0))
      whole c true e i =
          let j = cuts-In w c i in
          let v : c.1 ≡ emptied w = empty_from_size c.1 (size-is_empty c.1 e) ∙ ap empty_word j.2 in
          let u : c.0 ≡ w = sym (join-empty_right (length w) c.0 j.1) ∙ ap (join c.0) (sym v) ∙ j.0 in
          inr (inl (ap₂ (λ x y. (x, y)) u v))

  -- the constant term of a product
  pub product_at_empty : (f g : Series V) (tapes : ℕ) → product_series R f g (empty_word tapes) ≡ R.times (f (empty_word tapes)) (g (empty_word tapes))
  product_at_empty f g tapes = ap (sum_over R (λ c. R.times (f c.0) (g c.1))) (cuts-empty_word tapes) ∙ L.plus_zero _

  pub product_same_on : (tapes : ℕ) (f f' g g' : Series V) → SameOn tapes f f' → SameOn tapes g g' → SameOn tapes (product_series R f g) (product_series R f' g')
  product_same_on tapes f f' g g' h k w e = sum_same L _ _ (cuts w) (λ c i. let j = cuts-In w c i in ap₂ R.times (h c.0 (j.1 ∙ e)) (k c.1 (j.2 ∙ e)))
