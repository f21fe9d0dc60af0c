-- The star of a series and its steps do not depend on a bound that is large enough.
use Rattle.std.proofs.Common.{◌≡◌, ◌≢◌, ℕ, ◌+◌, ◌≤◌, ◌<◌, arith, List, [], ◌∷◌, ◌++◌, zero, suc, Bool, true, false, cond, refl, sym, ap, ap₂, ◌∙◌, inl, inr, le_refl}
use Rattle.vc_model.specs.WeightSet.{WeightSet}
use Rattle.vc_model.specs.Lists.{In}
use Rattle.vc_model.specs.Sums.{sum_over}
use Rattle.vc_model.specs.Words.{Word, size, is_empty, emptied, cuts}
use Rattle.vc_model.specs.Cuts.{cuts-In}
use Rattle.vc_model.specs.WordLaws.{size-join, is_empty-size}
use Rattle.vc_model.specs.Series.{Series, star_or_zero, star_series, star_series_within}
use Rattle.vc_ring.specs.declared.faults.Overflow.{Overflow}
use Rattle.vc_ring.specs.declared.faults.Overflow.TheVariants.{Add, Mul, Star as StarStep}
use Rattle.vc_series.specs.Steps.{StepsAt, adding_steps, factor_steps, star_steps, star_steps_within}

true_is_not_false : true ≡ false → ⊥
true_is_not_false e = cc

module _ {V : Type 0} (R : WeightSet V) where
  -- sums whose members have the same steps and values
  pub adding_same : {X : Type 0} (own own' : X → List (Overflow V)) (f f' : X → V) (a : V) (xs : List X) → ((x : X) → In x xs → (own x ≡ own' x) × (f x ≡ f' x)) → adding_steps R own f a xs ≡ adding_steps R own' f' a xs
  adding_same own own' f f' a [] h = refl
  adding_same own own' f f' a (x ∷ xs) h =
      let p = h x (inl refl) in
      let r = adding_same own own' f f' (R.plus a (f x)) xs (λ y i. h y (inr i)) in
      ap₂ (λ ss ts. ss ++ (Add a (f x) ∷ ts)) p.0 r ∙ ap (λ y. own' x ++ (Add a y ∷ adding_steps R own' f' (R.plus a y) xs)) p.1

  sum_alike : {X : Type 0} (f f' : X → V) (xs : List X) → ((x : X) → In x xs → f x ≡ f' x) → sum_over R f xs ≡ sum_over R f' xs
  sum_alike f f' [] h = refl
  sum_alike f f' (x ∷ xs) h = ap₂ R.plus (h x (inl refl)) (sum_alike f f' xs (λ y i. h y (inr i)))

  module _ (f : Series V) (fs : StepsAt V) where
    -- at a cut with a first piece that is not empty, the steps of the product with a series, and its value
    abbrev own_of : Series V → StepsAt V → Word × Word → List (Overflow V)
    own_of g gs c = cond (is_empty c.0) [] (factor_steps f fs g gs c)

    abbrev value_of : Series V → Word × Word → V
    value_of g c = cond (is_empty c.0) R.zero (R.times (f c.0) (g c.1))

    same_cut : (g h : Series V) (gs hs : StepsAt V) (c : Word × Word) → (is_empty c.0 ≡ false → (gs c.1 ≡ hs c.1) × (g c.1 ≡ h c.1)) → (own_of g gs c ≡ own_of h hs c) × (value_of g c ≡ value_of h c)
    same_cut g h gs hs c k = go (is_empty c.0) refl
      where
        go : (b : Bool) → is_empty c.0 ≡ b → (cond b [] (factor_steps f fs g gs c) ≡ cond b [] (factor_steps f fs h hs c)) × (cond b R.zero (R.times (f c.0) (g c.1)) ≡ cond b R.zero (R.times (f c.0) (h c.1)))
        go true e = (refl, refl)
        go false e = let p = k e in (ap₂ (λ ss y. fs c.0 ++ (ss ++ Mul (f c.0) y ∷ [])) p.0 p.1, ap (R.times (f c.0)) p.1)

    shorter : (w : Word) (c : Word × Word) → In c (cuts w) → is_empty c.0 ≡ false → size c.1 < size w
    shorter w c i e =
        let r = cuts-In w c i in
        let s : size w ≡ size c.0 + size c.1 = ap size (sym r.0) ∙ size-join c.0 c.1 (r.1 ∙ sym r.2) in
        let n : size c.0 ≢ 0 = λ p. true_is_not_false (sym (is_empty-size c.0 p) ∙ e) in
        omega (arith, s, n)

    -- the steps and the value at a word, where those over the cuts are given
    abbrev pub steps_with : Word → List (Overflow V) → V → List (Overflow V)
    steps_with w ss z = fs (emptied w) ++ (StarStep (f (emptied w)) ∷ cond (is_empty w) [] (ss ++ Mul (star_or_zero R (f (emptied w))) z ∷ []))

    abbrev pub value_with : Word → V → V
    value_with w z = cond (is_empty w) (star_or_zero R (f (emptied w))) (R.times (star_or_zero R (f (emptied w))) z)

    abbrev cuts_steps : Series V → StepsAt V → Word → List (Overflow V)
    cuts_steps g gs w = adding_steps R (own_of g gs) (value_of g) R.zero (cuts w)

    abbrev cuts_sum : Series V → Word → V
    cuts_sum g w = sum_over R (value_of g) (cuts w)

    -- the star at the empty word needs no bound
    at_empty : (w : Word) (ss : List (Overflow V)) (z : V) → is_empty w ≡ true → (fs (emptied w) ++ StarStep (f (emptied w)) ∷ [] ≡ steps_with w ss z) × (star_or_zero R (f (emptied w)) ≡ value_with w z)
    at_empty w ss z e = (
      sym (ap (λ b. fs (emptied w) ++ (StarStep (f (emptied w)) ∷ cond b [] (ss ++ Mul (star_or_zero R (f (emptied w))) z ∷ []))) e),
      sym (ap (λ b. cond b (star_or_zero R (f (emptied w))) (R.times (star_or_zero R (f (emptied w))) z)) e),
    )

    stable : (k j : ℕ) (w : Word) → size w ≤ k → size w ≤ j → (star_steps_within R f fs k w ≡ star_steps_within R f fs j w) × (star_series_within R f k w ≡ star_series_within R f j w)
    stable zero zero w h g = (refl, refl)
    stable zero (suc j) w h g = at_empty w (cuts_steps (star_series_within R f j) (star_steps_within R f fs j) w) (cuts_sum (star_series_within R f j) w) (is_empty-size w (omega (arith, h)))
    stable (suc k) zero w h g = let p = at_empty w (cuts_steps (star_series_within R f k) (star_steps_within R f fs k) w) (cuts_sum (star_series_within R f k) w) (is_empty-size w (omega (arith, g))) in (sym p.0, sym p.1)
    stable (suc k) (suc j) w h g =
        let same : (c : Word × Word) → In c (cuts w) → (own_of (star_series_within R f k) (star_steps_within R f fs k) c ≡ own_of (star_series_within R f j) (star_steps_within R f fs j) c) × (value_of (star_series_within R f k) c ≡ value_of (star_series_within R f j) c) =
        λ c i. same_cut (star_series_within R f k) (star_series_within R f j) (star_steps_within R f fs k) (star_steps_within R f fs j) c (λ e. let s = shorter w c i e in stable k j c.1 (omega (arith, s, h)) (omega (arith, s, g))) in
        let S = adding_same (own_of (star_series_within R f k) (star_steps_within R f fs k)) (own_of (star_series_within R f j) (star_steps_within R f fs j)) (value_of (star_series_within R f k)) (value_of (star_series_within R f j)) R.zero (cuts w) same in
        let Z = sum_alike (value_of (star_series_within R f k)) (value_of (star_series_within R f j)) (cuts w) (λ c i. (same c i).1) in
        (ap₂ (steps_with w) S Z, ap (value_with w) Z)

    -- the products with the star itself
    abbrev pub own_cut : Word × Word → List (Overflow V)
    own_cut c = own_of (star_series R f) (star_steps R f fs) c

    abbrev pub value_cut : Word × Word → V
    value_cut c = value_of (star_series R f) c

    -- the star and its steps, by the star and its steps at shorter words
    pub star_unfolds : (w : Word) → (star_steps R f fs w ≡ steps_with w (adding_steps R own_cut value_cut R.zero (cuts w)) (sum_over R value_cut (cuts w))) × (star_series R f w ≡ value_with w (sum_over R value_cut (cuts w)))
    star_unfolds w =
        let n : ℕ = size w in
        let first = stable n (suc n) w (le_refl n) (omega arith) in
        let same : (c : Word × Word) → In c (cuts w) → (own_of (star_series_within R f n) (star_steps_within R f fs n) c ≡ own_cut c) × (value_of (star_series_within R f n) c ≡ value_cut c) =
        λ c i. same_cut (star_series_within R f n) (star_series R f) (star_steps_within R f fs n) (star_steps R f fs) c (λ e. let s = shorter w c i e in stable n (size c.1) c.1 (omega (arith, s)) (le_refl (size c.1))) in
        let S = adding_same (own_of (star_series_within R f n) (star_steps_within R f fs n)) own_cut (value_of (star_series_within R f n)) value_cut R.zero (cuts w) same in
        let Z = sum_alike (value_of (star_series_within R f n)) value_cut (cuts w) (λ c i. (same c i).1) in
        (first.0 ∙ ap₂ (steps_with w) S Z, first.1 ∙ ap (value_with w) Z)

    -- at a cut with a first piece that is not empty, and at the others
    pub full_cut : (c : Word × Word) → is_empty c.0 ≡ false → (own_cut c ≡ factor_steps f fs (star_series R f) (star_steps R f fs) c) × (value_cut c ≡ R.times (f c.0) (star_series R f c.1))
    full_cut c e = (ap (λ b. cond b [] (factor_steps f fs (star_series R f) (star_steps R f fs) c)) e, ap (λ b. cond b R.zero (R.times (f c.0) (star_series R f c.1))) e)

    pub empty_cut : (c : Word × Word) → is_empty c.0 ≡ true → (own_cut c ≡ []) × (value_cut c ≡ R.zero)
    empty_cut c e = (ap (λ b. cond b [] (factor_steps f fs (star_series R f) (star_steps R f fs) c)) e, ap (λ b. cond b R.zero (R.times (f c.0) (star_series R f c.1))) e)
