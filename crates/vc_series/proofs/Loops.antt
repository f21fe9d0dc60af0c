-- How the sums of a coefficient begin, and what a star comes to.
use Rattle.std.proofs.Common.{◌≡◌, ℕ, ◌<◌, ◌+◌, List, [], ◌∷◌, ◌++◌, map, length, drop, get_or, slice_index_or, Bool, true, false, cond, IsTrue, Result, Ok, Err, refl, sym, ap, ◌∙◌, subst}
use Rattle.std.proofs.lemmas.List.{drop_more}
use Rattle.vc_model.specs.WeightSet.{WeightSet, SemiringLaws, RangeLaws}
use Rattle.vc_model.specs.Sums.{sum_over}
use Rattle.vc_model.specs.SumLaws.{sum-map}
use Rattle.vc_model.specs.Rearranged.{zero_plus}
use Rattle.vc_model.specs.Words.{Word, cuts, is_empty, emptied, position_sets, letters_at, letters_off}
use Rattle.vc_model.specs.Series.{Series, star_or_zero, star_series}
use Rattle.vc_ring.specs.Steps.{outcome, multiplied}
use Rattle.vc_ring.specs.declared.faults.Overflow.{Overflow}
use Rattle.vc_ring.specs.declared.faults.Overflow.TheVariants.{Mul, Star as StarStep}
use Rattle.vc_terms.specs.Terms.{Term, Terms, MoreTerms, Sum, Product, Shuffle, terms_of, coefficient_of, product_coefficient}
use Rattle.vc_series.specs.Answers.{IsSlowAnswer, coefficient_answer, star_answer}
use Rattle.vc_series.specs.Steps.{StepsAt, adding_steps, factor_steps, coefficient_steps, product_steps, star_steps, tape_pairs}
use Rattle.vc_series.specs.declared.fault.SlowFault.{SlowFault}
use Rattle.vc_series.proofs.Summing.{IsLeft, all_left, left_done, after_value, value_is, refused}
use Rattle.vc_series.proofs.Parts.{members_are, sum_is}
use Rattle.vc_series.proofs.StarSteps.{own_cut, value_cut, steps_with, star_unfolds}

-- the value of a product at a pair, and the steps and the value of a member of a sum
abbrev pub product_at : {V : Type 0} → WeightSet V → Series V → Series V → Word × Word → V
product_at R f h c = R.times (f c.0) (h c.1)

abbrev pub member_steps_at : {V X : Type 0} → WeightSet V → (X → Term V) → Word → X → List (Overflow V)
member_steps_at R term w x = coefficient_steps R (term x) w

abbrev pub member_at : {V X : Type 0} → WeightSet V → (X → Term V) → Word → X → V
member_at R term w x = coefficient_of R (term x) w

none : {X : Type 0} (xs : List X) → drop (length xs) xs ≡ []
none [] = refl
none (x ∷ xs) = none xs

module _ {V : Type 0} (R : WeightSet V) where
  pub sum_begins : {X : Type 0} (term : X → Term V) (w : Word) → SemiringLaws R → (xs : List X)
      → IsLeft R (λ x. coefficient_steps R (term x) w) (λ x. coefficient_of R (term x) w) (coefficient_of R (Sum (terms_of (map term xs))) w) (coefficient_answer R (Sum (terms_of (map term xs))) w) R.zero xs
  sum_begins term w L xs = record {
    going = ap (λ ss. outcome R ss (coefficient_of R (Sum (terms_of (map term xs))) w)) (sym (members_are R term w R.zero xs));
    value = zero_plus L (sum_over R (λ x. coefficient_of R (term x) w) xs) ∙ sym (sum_is R term w xs);
  }

  pub product_begins : (t : Term V) (ts : Terms V) (w : Word) → SemiringLaws R → (cs : List (Word × Word)) → cs ≡ cuts w
      → IsLeft R (factor_steps (coefficient_of R t) (coefficient_steps R t) (product_coefficient R ts) (product_steps R ts)) (λ c. R.times (coefficient_of R t c.0) (product_coefficient R ts c.1))
      (coefficient_of R (Product (MoreTerms t ts)) w) (coefficient_answer R (Product (MoreTerms t ts)) w) R.zero cs
  product_begins t ts w L cs e =
      subst (λ ds. IsLeft R (factor_steps (coefficient_of R t) (coefficient_steps R t) (product_coefficient R ts) (product_steps R ts)) (λ c. R.times (coefficient_of R t c.0) (product_coefficient R ts c.1))
      (coefficient_of R (Product (MoreTerms t ts)) w) (coefficient_answer R (Product (MoreTerms t ts)) w) R.zero ds) (sym e)
      (all_left R (factor_steps (coefficient_of R t) (coefficient_steps R t) (product_coefficient R ts) (product_steps R ts)) (λ c. R.times (coefficient_of R t c.0) (product_coefficient R ts c.1)) L (cuts w))

  pub shuffle_begins : (t u : Term V) (w : Word) → SemiringLaws R → (cs : List (Word × Word)) → cs ≡ tape_pairs (slice_index_or w 0 [])
      → IsLeft R (factor_steps (coefficient_of R t) (coefficient_steps R t) (coefficient_of R u) (coefficient_steps R u)) (λ c. R.times (coefficient_of R t c.0) (coefficient_of R u c.1))
      (coefficient_of R (Shuffle t u) w) (coefficient_answer R (Shuffle t u) w) R.zero cs
  shuffle_begins t u w L cs e =
      subst (λ ds. IsLeft R (factor_steps (coefficient_of R t) (coefficient_steps R t) (coefficient_of R u) (coefficient_steps R u)) (λ c. R.times (coefficient_of R t c.0) (coefficient_of R u c.1))
      (coefficient_of R (Shuffle t u) w) (coefficient_answer R (Shuffle t u) w) R.zero ds) (sym e)
      (record {
        going = refl;
        value = zero_plus L _ ∙ sum-map L (λ (c : Word × Word). R.times (coefficient_of R t c.0) (coefficient_of R u c.1)) (λ (I : List Bool). (letters_at I (slice_index_or w 0 []) ∷ [], letters_off I (slice_index_or w 0 []) ∷ [])) (position_sets (length (slice_index_or w 0 [])));
      })

  module _ {X : Type 0} (own : X → List (Overflow V)) (f : X → V) (z : V) (answer : Result V (Overflow V)) where
    -- a sum that begins with zero
    pub started : RangeLaws R → (total : V) (xs : List X) → total ≡ R.zero → IsLeft R own f z answer R.zero xs → IsLeft R own f z answer total xs × IsTrue (R.in_range total)
    started G total xs e l = subst (λ y. IsLeft R own f z answer y xs × IsTrue (R.in_range y)) (sym e) (l, G.zero_in)

    -- the member at a place is the next
    pub left_at : (total : V) (xs : List X) (i : ℕ) (x : X) → x ≡ get_or xs i x → i < length xs → IsLeft R own f z answer total (drop i xs) → IsLeft R own f z answer total (x ∷ drop (i + 1) xs)
    left_at total xs i x e h l = subst (λ y. IsLeft R own f z answer total (y ∷ drop (i + 1) xs)) (sym e) (subst (λ ys. IsLeft R own f z answer total ys) (drop_more xs i x h) l)

    -- the end of the list
    pub left_none : SemiringLaws R → (total : V) (xs : List X) (i : ℕ) → i ≡ length xs → IsLeft R own f z answer total (drop i xs) → answer ≡ Ok total
    left_none L total xs i e l = left_done R own f z answer L total (subst (λ ys. IsLeft R own f z answer total ys) (ap (λ n. drop n xs) e ∙ none xs) l)

  -- a star
  module _ (f : Series V) (fs : StepsAt V) (w : Word) where
    abbrev pub star_value : Result V (Overflow V)
    star_value = outcome R (star_steps R f fs w) (star_series R f w)

    abbrev all : V
    all = sum_over R (value_cut R f fs) (cuts w)

    abbrev over_cuts : List (Overflow V)
    over_cuts = adding_steps R (own_cut R f fs) (value_cut R f fs) R.zero (cuts w)

    abbrev last_steps : Bool → List (Overflow V)
    last_steps b = cond b [] (over_cuts ++ Mul (star_or_zero R (f (emptied w))) all ∷ [])

    abbrev last_value : Bool → V
    last_value b = cond b (star_or_zero R (f (emptied w))) (R.times (star_or_zero R (f (emptied w))) all)

    unfolded : star_value ≡ outcome R (fs (emptied w) ++ (StarStep (f (emptied w)) ∷ last_steps (is_empty w))) (last_value (is_empty w))
    unfolded = let u = star_unfolds R f fs w in ap (λ ss. outcome R ss (star_series R f w)) u.0 ∙ ap (outcome R (steps_with R f fs w over_cuts all)) u.1

    pub constant_refused : (fault : SlowFault V) → IsSlowAnswer (outcome R (fs (emptied w)) (f (emptied w))) (Err fault) → IsSlowAnswer star_value (Err fault)
    constant_refused fault h = subst (λ r. IsSlowAnswer r (Err fault)) (sym unfolded) (refused R (fs (emptied w)) (StarStep (f (emptied w)) ∷ last_steps (is_empty w)) (f (emptied w)) (last_value (is_empty w)) fault h)

    module _ (k : V) (h : outcome R (fs (emptied w)) (f (emptied w)) ≡ Ok k) where
      behind : star_value ≡ cond (R.fits_star k) (outcome R (last_steps (is_empty w)) (last_value (is_empty w))) (Err (StarStep k))
      behind =
          unfolded ∙ after_value R (fs (emptied w)) (StarStep (f (emptied w)) ∷ last_steps (is_empty w)) (f (emptied w)) k (last_value (is_empty w)) h
          ∙ ap (λ y. cond (R.fits_star y) (outcome R (last_steps (is_empty w)) (last_value (is_empty w))) (Err (StarStep y))) (value_is R (fs (emptied w)) (f (emptied w)) k h)

      fits_or : (o : Overflow V) (b : Bool) (r : Result V (Overflow V)) → ◌≡◌ {A = Result V (Overflow V)} (Err o) (cond b (Ok (R.star k)) (Err (StarStep k))) → cond b r (Err (StarStep k)) ≡ Err o
      fits_or o true r e = absurd (cc)
      fits_or o false r e = sym e

      pub star_unfit : (o : Overflow V) → Err o ≡ star_answer R k → star_value ≡ Err o
      star_unfit o e = behind ∙ fits_or o (R.fits_star k) (outcome R (last_steps (is_empty w)) (last_value (is_empty w))) e

      module _ (s : V) (e : Ok s ≡ star_answer R k) (has : IsTrue (R.has_star k)) where
        fits_and : (b : Bool) (r : Result V (Overflow V)) → ◌≡◌ {A = Result V (Overflow V)} (Ok s) (cond b (Ok (R.star k)) (Err (StarStep k))) → (cond b r (Err (StarStep k)) ≡ r) × (s ≡ R.star k)
        fits_and true r q = (refl, cc)
        fits_and false r q = absurd (cc)

        then : star_value ≡ outcome R (last_steps (is_empty w)) (last_value (is_empty w))
        then = behind ∙ (fits_and (R.fits_star k) (outcome R (last_steps (is_empty w)) (last_value (is_empty w))) e).0

        star_is : star_or_zero R (f (emptied w)) ≡ s
        star_is = ap (star_or_zero R) (value_is R (fs (emptied w)) (f (emptied w)) k h) ∙ ap (λ b. cond b (R.star k) R.zero) has ∙ sym (fits_and (R.fits_star k) (Ok s) e).1

        pub star_of_empty : is_empty w ≡ true → star_value ≡ Ok s
        star_of_empty p = then ∙ ap (λ b. outcome R (last_steps b) (last_value b)) p ∙ ap Ok star_is

        pub sum_refused : (fault : SlowFault V) → is_empty w ≡ false → IsSlowAnswer (outcome R over_cuts all) (Err fault) → IsSlowAnswer star_value (Err fault)
        sum_refused fault p r =
            subst (λ x. IsSlowAnswer x (Err fault)) (sym (then ∙ ap (λ b. outcome R (last_steps b) (last_value b)) p))
            (refused R over_cuts (Mul (star_or_zero R (f (emptied w))) all ∷ []) all (R.times (star_or_zero R (f (emptied w))) all) fault r)

        pub star_multiplied : (t : V) → is_empty w ≡ false → outcome R over_cuts all ≡ Ok t → star_value ≡ multiplied R s t
        star_multiplied t p r =
            then ∙ ap (λ b. outcome R (last_steps b) (last_value b)) p
            ∙ after_value R over_cuts (Mul (star_or_zero R (f (emptied w))) all ∷ []) all t (R.times (star_or_zero R (f (emptied w))) all) r
            ∙ ap (λ y. multiplied R y all) star_is ∙ ap (multiplied R s) (value_is R over_cuts all t r)
