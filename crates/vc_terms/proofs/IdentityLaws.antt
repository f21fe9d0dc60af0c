-- Each built tree has the series of the tree that is not built.
use Rattle.std.proofs.Common.{◌≡◌, List, [], ◌∷◌, ◌++◌, cond, Bool, true, false, refl, sym, ap, ◌∙◌, ap₂, length}
use Rattle.std.specs.List.{flat_map}
use Rattle.vc_model.specs.WeightSet.{WeightSet, SemiringLaws}
use Rattle.vc_model.specs.Lists.{IsEqualityTest}
use Rattle.vc_model.specs.Rearranged.{zero_times, one_times, plus_zero, times_zero, times_one, times_assoc}
use Rattle.vc_model.specs.Words.{Tape, Word}
use Rattle.vc_model.specs.Series.{Series, zero_series, product_series, shuffle_series, star_series, weight_series}
use Rattle.vc_terms.specs.Terms.{Term, Terms, NoTerms, MoreTerms, terms_of, list_of, coefficient_of, sum_coefficient, product_coefficient, Zero, One, Sum, Product, Star, Weight, Both, Shuffle}
use Rattle.vc_terms.specs.Trees.{is_zero, is_one}
use Rattle.vc_terms.specs.Identities.{members_of, sum_of_members, sum_of, put_weight, weight_of, any_zero, weights_in, unweighted, factors_of, product_of_factors, times_onto, weight_in_front, all_factors, product_of, both_of, shuffle_of, star_of}
use Rattle.vc_terms.specs.SeriesLaws.{SeriesLaws}

pub zero_is : {V : Type 0} (t : Term V) → is_zero t ≡ true → t ≡ Zero
zero_is Zero e = refl
zero_is t e = absurd (cc)

pub one_is : {V : Type 0} (t : Term V) → is_one t ≡ true → t ≡ One
one_is One e = refl
one_is t e = absurd (cc)

pub terms_of-list_of : {V : Type 0} (ts : Terms V) → terms_of (list_of ts) ≡ ts
terms_of-list_of NoTerms = refl
terms_of-list_of (MoreTerms t ts) = ap (MoreTerms t) (terms_of-list_of ts)

module _ {V : Type 0} {R : WeightSet V} (L : SemiringLaws R) (P : SeriesLaws R) where
  -- the product of two series, each replaced by one with the same values
  product_alike : (f g h k : Series V) (w : Word) → ((v : Word) → f v ≡ g v) → ((v : Word) → h v ≡ k v) → product_series R f h w ≡ product_series R g k w
  product_alike f g h k w p q = P.product_same (length w) f g h k (λ v e. p v) (λ v e. q v) w refl

  -- sums
  members-law : (t : Term V) (w : Word) → sum_coefficient R (terms_of (members_of t)) w ≡ coefficient_of R t w
  members-law Zero w = refl
  members-law (Sum ts) w = ap (λ us. sum_coefficient R us w) (terms_of-list_of ts)
  members-law t w = plus_zero L _

  all_members-law : (ts : List (Term V)) (w : Word) → sum_coefficient R (terms_of (flat_map members_of ts)) w ≡ sum_coefficient R (terms_of ts) w
  all_members-law [] w = refl
  all_members-law (t ∷ ts) w = P.sums (members_of t) (flat_map members_of ts) w ∙ ap₂ R.plus (members-law t w) (all_members-law ts w)

  sum_of_members-law : (ts : List (Term V)) (w : Word) → coefficient_of R (sum_of_members ts) w ≡ sum_coefficient R (terms_of ts) w
  sum_of_members-law [] w = refl
  sum_of_members-law (t ∷ []) w = sym (plus_zero L _)
  sum_of_members-law (t ∷ u ∷ us) w = refl

  pub sum_of-law : (ts : List (Term V)) (w : Word) → coefficient_of R (sum_of ts) w ≡ coefficient_of R (Sum (terms_of ts)) w
  sum_of-law ts w = sum_of_members-law (flat_map members_of ts) w ∙ all_members-law ts w

  module _ (equal : V → V → Bool) (Q : IsEqualityTest equal) where
    -- weights
    tested : (k : V) (t u : Term V) (w : Word) → coefficient_of R u w ≡ R.times k (coefficient_of R t w)
        → coefficient_of R (cond (equal k R.zero) Zero (cond (equal k R.one) t u)) w ≡ R.times k (coefficient_of R t w)
    tested k t u w h = go (equal k R.zero) (equal k R.one) refl refl
      where
        go : (a b : Bool) → equal k R.zero ≡ a → equal k R.one ≡ b → coefficient_of R (cond a Zero (cond b t u)) w ≡ R.times k (coefficient_of R t w)
        go true b p q = sym (ap (λ x. R.times x (coefficient_of R t w)) ((Q k R.zero).0 p) ∙ zero_times L _)
        go false true p q = sym (ap (λ x. R.times x (coefficient_of R t w)) ((Q k R.one).0 q) ∙ one_times L _)
        go false false p q = h

    put_weight-law : (k : V) (t : Term V) (w : Word) → coefficient_of R (put_weight R equal k t) w ≡ R.times k (coefficient_of R t w)
    put_weight-law k Zero w = sym (times_zero L k)
    put_weight-law k (Weight h t) w = tested (R.times k h) t (put_weight R equal (R.times k h) t) w (put_weight-law (R.times k h) t w) ∙ times_assoc L k h _
    put_weight-law k t w = refl

    pub weight_of-law : (k : V) (t : Term V) (w : Word) → coefficient_of R (weight_of R equal k t) w ≡ R.times k (coefficient_of R t w)
    weight_of-law k t w = tested k t (put_weight R equal k t) w (put_weight-law k t w)

    -- products
    factors-law : (t : Term V) (w : Word) → product_coefficient R (terms_of (factors_of t)) w ≡ coefficient_of R t w
    factors-law One w = refl
    factors-law (Product ts) w = ap (λ us. product_coefficient R us w) (terms_of-list_of ts)
    factors-law t w = P.one_right _ w

    times_onto-law : (a : V) (ks : List V) → times_onto R a ks ≡ R.times a (times_onto R R.one ks)
    times_onto-law a [] = sym (times_one L a)
    times_onto-law a (k ∷ ks) = times_onto-law (R.times a k) ks ∙ times_assoc L a k _ ∙ ap (R.times a) (sym (times_onto-law (R.times R.one k) ks ∙ ap (λ x. R.times x (times_onto R R.one ks)) (one_times L k)))

    times_onto-append : (a : V) (ks hs : List V) → times_onto R a (ks ++ hs) ≡ times_onto R (times_onto R a ks) hs
    times_onto-append a [] hs = refl
    times_onto-append a (k ∷ ks) hs = times_onto-append (R.times a k) ks hs

    weight-parts : (t : Term V) (w : Word) → R.times (times_onto R R.one (weights_in t)) (coefficient_of R (unweighted t) w) ≡ coefficient_of R t w
    weight-parts (Weight k t) w = ap (λ x. R.times x (coefficient_of R t w)) (one_times L k)
    weight-parts t w = one_times L _

    front-law : (t : Term V) (ts : List (Term V)) → weight_in_front R (t ∷ ts) ≡ R.times (times_onto R R.one (weights_in t)) (weight_in_front R ts)
    front-law t ts = times_onto-append R.one (weights_in t) (flat_map weights_in ts) ∙ times_onto-law (times_onto R R.one (weights_in t)) (flat_map weights_in ts)

    all_factors-law : (ts : List (Term V)) (w : Word) → product_coefficient R (terms_of ts) w ≡ R.times (weight_in_front R ts) (product_coefficient R (terms_of (all_factors ts)) w)
    all_factors-law [] w = sym (one_times L _)
    all_factors-law (t ∷ ts) w =
        product_alike (coefficient_of R t) (weight_series R k F) (product_coefficient R (terms_of ts)) (weight_series R h G) w
        (λ v. sym (ap (R.times k) (factors-law (unweighted t) v) ∙ weight-parts t v)) (all_factors-law ts)
        ∙ P.weight_left k F (weight_series R h G) w
        ∙ ap (R.times k) (P.weight_right h F G w)
        ∙ sym (times_assoc L k h _)
        ∙ ap₂ R.times (sym (front-law t ts)) (sym (P.products (factors_of (unweighted t)) (all_factors ts) w))
      where
        k : V
        k = times_onto R R.one (weights_in t)

        h : V
        h = weight_in_front R ts

        F : Series V
        F = product_coefficient R (terms_of (factors_of (unweighted t)))

        G : Series V
        G = product_coefficient R (terms_of (all_factors ts))

    pub product_of_factors-law : (ts : List (Term V)) (w : Word) → coefficient_of R (product_of_factors ts) w ≡ product_coefficient R (terms_of ts) w
    product_of_factors-law [] w = refl
    product_of_factors-law (t ∷ []) w = sym (P.one_right _ w)
    product_of_factors-law (t ∷ u ∷ us) w = refl

    any_zero-law : (ts : List (Term V)) (w : Word) → any_zero ts ≡ true → product_coefficient R (terms_of ts) w ≡ R.zero
    any_zero-law [] w e = absurd (cc)
    any_zero-law (t ∷ ts) w e = go (is_zero t) refl e (λ q v. any_zero-law ts v q)
      where
        go : (b : Bool) → is_zero t ≡ b → cond b true (any_zero ts) ≡ true → (any_zero ts ≡ true → (v : Word) → product_coefficient R (terms_of ts) v ≡ R.zero) → product_coefficient R (terms_of (t ∷ ts)) w ≡ R.zero
        go true p q r = ap (λ u. product_series R (coefficient_of R u) (product_coefficient R (terms_of ts)) w) (zero_is t p) ∙ P.zero_left _ w
        go false p q r = product_alike (coefficient_of R t) (coefficient_of R t) _ (zero_series R) w (λ v. refl) (r q) ∙ P.zero_right _ w

    pub product_of-law : (ts : List (Term V)) (w : Word) → coefficient_of R (product_of R equal ts) w ≡ coefficient_of R (Product (terms_of ts)) w
    product_of-law ts w = go (any_zero ts) refl
      where
        go : (b : Bool) → any_zero ts ≡ b → coefficient_of R (cond b Zero (weight_of R equal (weight_in_front R ts) (product_of_factors (all_factors ts)))) w ≡ product_coefficient R (terms_of ts) w
        go true p = sym (any_zero-law ts w p)
        go false p = weight_of-law _ _ w ∙ ap (R.times (weight_in_front R ts)) (product_of_factors-law (all_factors ts) w) ∙ sym (all_factors-law ts w)

  -- conjunctions
  pub both_of-law : (t u : Term V) (w : Word) → coefficient_of R (both_of t u) w ≡ coefficient_of R (Both t u) w
  both_of-law t u w = go (is_zero t) (is_zero u) refl refl
    where
      go : (a b : Bool) → is_zero t ≡ a → is_zero u ≡ b → coefficient_of R (cond a Zero (cond b Zero (Both t u))) w ≡ R.times (coefficient_of R t w) (coefficient_of R u w)
      go true b p q = sym (ap (λ x. R.times (coefficient_of R x w) (coefficient_of R u w)) (zero_is t p) ∙ zero_times L _)
      go false true p q = sym (ap (λ x. R.times (coefficient_of R t w) (coefficient_of R x w)) (zero_is u q) ∙ times_zero L _)
      go false false p q = refl

  -- shuffles, over one tape
  pub shuffle_of-law : (t u : Term V) (a : Tape) → coefficient_of R (shuffle_of t u) (a ∷ []) ≡ coefficient_of R (Shuffle t u) (a ∷ [])
  shuffle_of-law t u a = go (is_zero t) (is_zero u) (is_one t) (is_one u) refl refl refl refl
    where
      go : (m n p q : Bool) → is_zero t ≡ m → is_zero u ≡ n → is_one t ≡ p → is_one u ≡ q
          → coefficient_of R (cond m Zero (cond n Zero (cond p u (cond q t (Shuffle t u))))) (a ∷ []) ≡ shuffle_series R (coefficient_of R t) (coefficient_of R u) (a ∷ [])
      go true n p q h i j k = sym (ap (λ x. shuffle_series R (coefficient_of R x) (coefficient_of R u) (a ∷ [])) (zero_is t h) ∙ P.shuffle_zero_left (coefficient_of R u) (a ∷ []))
      go false true p q h i j k = sym (ap (λ x. shuffle_series R (coefficient_of R t) (coefficient_of R x) (a ∷ [])) (zero_is u i) ∙ P.shuffle_zero_right (coefficient_of R t) (a ∷ []))
      go false false true q h i j k = sym (ap (λ x. shuffle_series R (coefficient_of R x) (coefficient_of R u) (a ∷ [])) (one_is t j) ∙ P.shuffle_one_left (coefficient_of R u) a)
      go false false false true h i j k = sym (ap (λ x. shuffle_series R (coefficient_of R t) (coefficient_of R x) (a ∷ [])) (one_is u k) ∙ P.shuffle_one_right (coefficient_of R t) a)
      go false false false false h i j k = refl

  pub star_of-law : (t : Term V) (w : Word) → coefficient_of R (star_of t) w ≡ coefficient_of R (Star t) w
  star_of-law t w = go (is_zero t) refl
    where
      go : (b : Bool) → is_zero t ≡ b → coefficient_of R (cond b One (Star t)) w ≡ star_series R (coefficient_of R t) w
      go true p = sym (ap (λ x. star_series R (coefficient_of R x) w) (zero_is t p) ∙ P.star_zero w)
      go false p = refl
