-- The expansion of a tree brings its coefficient.
use Rattle.std.proofs.Common.{◌≡◌, ℕ, ◌+◌, List, [], ◌∷◌, ◌++◌, cond, Bool, true, false, refl, sym, ap, ap₂, ◌∙◌, subst, length, arith, Option, Some, None}
use Rattle.vc_model.specs.WeightSet.{WeightSet, SemiringLaws}
use Rattle.vc_model.specs.Lists.{IsEqualityTest}
use Rattle.vc_model.specs.Automata.{at_rest}
use Rattle.vc_model.specs.Rearranged.{zero_plus, plus_zero, times_zero, one_times, times_one, plus-plus}
use Rattle.vc_model.specs.Choices.{cond-plus}
use Rattle.vc_model.specs.SumLaws.{sum_same, sum_zero}
use Rattle.vc_model.specs.Words.{Tape, Word, cut, empty_word, is_empty, size, IsLabel, IsLetter}
use Rattle.vc_model.specs.WordLaws.{join-cut, size-join, size-is_empty, empty_from_size}
use Rattle.vc_model.specs.Series.{Series, one_series, product_series, shuffle_series, star_or_zero}
use Rattle.vc_model.specs.Items.{brought, IsGiven, HaveLabels}
use Rattle.vc_terms.specs.ItemLists.{mapped, scaled_items, met_items}
use Rattle.vc_terms.specs.Terms.{Term, Terms, NoTerms, MoreTerms, list_of, coefficient_of, sum_coefficient, product_coefficient, constant_of, sum_constant, product_constant, Zero, One, Atom, Sum, Product, Star, Weight, Both, Shuffle, HasTapes, HaveTapes}
use Rattle.vc_terms.specs.Identities.{product_of_factors, both_of, shuffle_of}
use Rattle.vc_terms.specs.Expansions.{Entry, collected, product_of_two, expand, expand_sum, expand_product, AtomsAre, AllAtomsAre, JoinsLetters, AllJoinLetters}
use Rattle.vc_terms.specs.SeriesLaws.{SeriesLaws}
use Rattle.vc_terms.specs.ItemLaws.{ItemLaws}
use Rattle.vc_terms.proofs.IdentityLaws.{product_of-law, product_of_factors-law, both_of-law, shuffle_of-law, terms_of-list_of}
use Rattle.vc_terms.proofs.EntryLabels.{labels_of}

module _ {V : Type 0} (tapes : ℕ) where
  mutual
    tapes_atoms : (t : Term V) → HasTapes tapes t → AtomsAre (IsLabel tapes) t
    tapes_atoms Zero h = tt
    tapes_atoms One h = tt
    tapes_atoms (Atom a) h = h
    tapes_atoms (Sum ts) h = tapes_all_atoms ts h
    tapes_atoms (Product ts) h = tapes_all_atoms ts h
    tapes_atoms (Star t) h = tapes_atoms t h
    tapes_atoms (Weight k t) h = tapes_atoms t h
    tapes_atoms (Both t u) h = (tapes_atoms t h.0, tapes_atoms u h.1)
    tapes_atoms (Shuffle t u) h = (tapes_atoms t h.1, tapes_atoms u h.2)

    tapes_all_atoms : (ts : Terms V) → HaveTapes tapes ts → AllAtomsAre (IsLabel tapes) ts
    tapes_all_atoms NoTerms h = tt
    tapes_all_atoms (MoreTerms t ts) h = (tapes_atoms t h.0, tapes_all_atoms ts h.1)

cut_empty : (a w : Word) → is_empty w ≡ true → (size a ≡ 0 → ⊥) → cut a w ≡ None
cut_empty a w e h = go (cut a w) refl
  where
    go : (r : Option Word) → cut a w ≡ r → r ≡ None
    go None q = refl
    go (Some v) q =
        let j = join-cut a w v q in
        let s = size-join a v (j.2 ∙ sym j.1) in
        let z : size w ≡ 0 = size-is_empty w e in
        let t : size a + size v ≡ size w = sym s ∙ ap (λ x. size x) j.0 in
        absurd (h (omega (arith, t, z)))

module _ {V : Type 0} {R : WeightSet V} (L : SemiringLaws R) (P : SeriesLaws R) (equal : V → V → Bool) (Q : IsEqualityTest equal) (I : ItemLaws R equal) (tapes : ℕ) where
  abbrev C : Term V → Series V
  C t = coefficient_of R t

  abbrev H : Word → Word → Term V → V
  H w a t = at_rest R.zero (C t) (cut a w)

  abbrev Given : Series V → V → List (Entry V) → Type 0
  Given f c xs = IsGiven R tapes f c C xs

  product_alike : (f g h k : Series V) (w : Word) → ((v : Word) → f v ≡ g v) → ((v : Word) → h v ≡ k v) → product_series R f h w ≡ product_series R g k w
  product_alike f g h k w p q = P.product_same (length w) f g h k (λ v e. p v) (λ v e. q v) w refl

  two-law : (t u : Term V) (w : Word) → C (product_of_two R equal t u) w ≡ product_series R (C t) (C u) w
  two-law t u w = product_of-law L P equal Q (t ∷ u ∷ []) w ∙ product_alike (C t) (C t) (product_series R (C u) (one_series R)) (C u) w (λ v. refl) (P.one_right (C u))

  brought-alike : (X Y : Term V → Series V) → ((t : Term V) (v : Word) → length v ≡ tapes → X t v ≡ Y t v) → (w : Word) → length w ≡ tapes → (xs : List (Entry V)) → brought R X w xs ≡ brought R Y w xs
  brought-alike X Y h w l xs = sum_same L _ _ xs (λ m i. ap (R.times m.weight) (go m (cut m.label w) refl))
    where
      go : (m : Entry V) (r : Option Word) → cut m.label w ≡ r → at_rest R.zero (X m.to) r ≡ at_rest R.zero (Y m.to) r
      go m None q = refl
      go m (Some v) q = h m.to v ((join-cut m.label w v q).1 ∙ l)

  brought-empty : (xs : List (Entry V)) → HaveLabels tapes xs → (w : Word) → is_empty w ≡ true → brought R C w xs ≡ R.zero
  brought-empty xs h w e = sum_zero L _ xs (λ m i. ap (λ r. R.times m.weight (at_rest R.zero (C m.to) r)) (cut_empty m.label w e (h m i).1) ∙ times_zero L m.weight)

  if_so : {X : Type 0} (b : Bool) (x y : X) → b ≡ true → cond b x y ≡ x
  if_so b x y e = ap (λ c. cond c x y) e

  if_not : {X : Type 0} (b : Bool) (x y : X) → b ≡ false → cond b x y ≡ y
  if_not b x y e = ap (λ c. cond c x y) e

  given_full : (f : Series V) (c : V) (xs : List (Entry V)) → Given f c xs → (w : Word) → length w ≡ tapes → is_empty w ≡ false → f w ≡ brought R C w xs
  given_full f c xs F w l e = F w l ∙ ap (λ x. R.plus x (brought R C w xs)) (if_not (is_empty w) c R.zero e) ∙ zero_plus L _

  at_all : (t : Term V) (xs : List (Entry V)) → HasTapes tapes t → HaveLabels tapes xs → ((w : Word) → length w ≡ tapes → is_empty w ≡ false → C t w ≡ brought R C w xs) → Given (C t) (constant_of R t) xs
  at_all t xs i h q w l = go (is_empty w) refl
    where
      go : (b : Bool) → is_empty w ≡ b → C t w ≡ R.plus (cond (is_empty w) (constant_of R t) R.zero) (brought R C w xs)
      go true e =
          ap (C t) (empty_from_size w (size-is_empty w e) ∙ ap (λ n. empty_word n) l) ∙ P.constants tapes t i
          ∙ sym (ap₂ R.plus (if_so (is_empty w) (constant_of R t) R.zero e) (brought-empty xs h w e) ∙ plus_zero L (constant_of R t))
      go false e = q w l e ∙ sym (ap (λ x. R.plus x (brought R C w xs)) (if_not (is_empty w) (constant_of R t) R.zero e) ∙ zero_plus L _)

  collected-given : (f : Series V) (c : V) (xs : List (Entry V)) → Given f c xs → Given f c (collected R equal xs)
  collected-given f c xs F w l = F w l ∙ ap (R.plus (cond (is_empty w) c R.zero)) (sym (I.gathered (H w) xs))

  brought-then : (u : Term V) (Y : Series V) → ((v : Word) → C u v ≡ Y v) → (w : Word) → length w ≡ tapes → (xs : List (Entry V))
      → brought R (λ t. product_series R (C t) Y) w xs ≡ brought R C w (mapped (λ t. product_of_two R equal t u) xs)
  brought-then u Y h w l xs =
      brought-alike (λ t. product_series R (C t) Y) (λ t. C (product_of_two R equal t u)) (λ t v e. sym (two-law t u v ∙ product_alike (C t) (C t) (C u) Y v (λ z. refl) h)) w l xs
      ∙ sym (I.led (H w) (λ t. product_of_two R equal t u) xs)

  pub labels : (t : Term V) → HasTapes tapes t → HaveLabels tapes (expand R equal t)
  labels t h = labels_of R equal I (IsLabel tapes) t (tapes_atoms tapes t h)

  shuffle_on : (t u f : Term V) (w : Word) → length w ≡ 1 → ((a : Tape) → C f (a ∷ []) ≡ shuffle_series R (C t) (C u) (a ∷ [])) → C f w ≡ shuffle_series R (C t) (C u) w
  shuffle_on t u f [] l h = absurd (omega arith)
  shuffle_on t u f (a ∷ []) l h = h a
  shuffle_on t u f (a ∷ b ∷ w) l h = absurd (omega arith)

  -- the product of a tree and the others, whose product is the tree u
  two-given : (t u : Term V) (ts : Terms V) (xs : List (Entry V)) → ((v : Word) → C u v ≡ product_coefficient R ts v) → HasTapes tapes t → Given (C t) (constant_of R t) (expand R equal t)
      → Given (product_coefficient R ts) (product_constant R ts) xs
      → Given (product_coefficient R (MoreTerms t ts)) (product_constant R (MoreTerms t ts))
      (mapped (λ v. product_of_two R equal v u) (expand R equal t) ++ cond (equal (constant_of R t) R.zero) [] (scaled_items R (constant_of R t) xs))
  two-given t u ts xs h i F G w l =
      I.product tapes (C t) (product_coefficient R ts) (constant_of R t) (product_constant R ts) C C (expand R equal t) xs F (labels t i) G w l
      ∙ ap (R.plus (cond (is_empty w) (R.times (constant_of R t) (product_constant R ts)) R.zero))
      (ap₂ R.plus (brought-then u (product_coefficient R ts) h w l (expand R equal t)) (sym (I.unless_zero (H w) (constant_of R t) xs))
      ∙ sym (I.joined (H w) (mapped (λ v. product_of_two R equal v u) (expand R equal t)) (cond (equal (constant_of R t) R.zero) [] (scaled_items R (constant_of R t) xs))))

  mutual
    pub expansion-law : (t : Term V) → HasTapes tapes t → JoinsLetters tapes t → Given (C t) (constant_of R t) (expand R equal t)
    expansion-law Zero h j = I.zero tapes C
    expansion-law One h j = I.one tapes C
    expansion-law (Atom a) h j = λ w l.
        sym (P.one_right (C (Atom a)) w) ∙ I.atoms a (one_series R) w (h.0 ∙ sym l)
        ∙ sym (ap₂ R.plus (sym (I.zero tapes C w l ∙ plus_zero L _)) (plus_zero L _ ∙ one_times L _) ∙ zero_plus L _)
    expansion-law (Sum ts) h j = collected-given (sum_coefficient R ts) (sum_constant R ts) (expand_sum R equal ts) (sum-law ts h j)
    expansion-law (Product ts) h j = product-law ts h j
    expansion-law (Star t) h j =
        collected-given (C (Star t)) (star_or_zero R (constant_of R t)) (scaled_items R (star_or_zero R (constant_of R t)) (mapped (λ v. product_of_two R equal v (Star t)) (expand R equal t)))
        (λ w l.
        I.star tapes (C t) (constant_of R t) C (expand R equal t) (expansion-law t h j) (labels t h) w l
        ∙ ap (R.plus (cond (is_empty w) (star_or_zero R (constant_of R t)) R.zero))
        (ap (R.times (star_or_zero R (constant_of R t))) (brought-then (Star t) (C (Star t)) (λ v. refl) w l (expand R equal t))
        ∙ sym (I.multiplied (H w) (star_or_zero R (constant_of R t)) (mapped (λ v. product_of_two R equal v (Star t)) (expand R equal t)))))
    expansion-law (Weight k t) h j =
        collected-given (C (Weight k t)) (R.times k (constant_of R t)) (scaled_items R k (expand R equal t))
        (λ w l. I.multiple tapes k (C t) (constant_of R t) C (expand R equal t) (expansion-law t h j) w l
        ∙ ap (R.plus (cond (is_empty w) (R.times k (constant_of R t)) R.zero)) (sym (I.multiplied (H w) k (expand R equal t))))
    expansion-law (Both t u) h j =
        at_all (Both t u) (expand R equal (Both t u)) h (labels (Both t u) h)
        (λ w l e. ap₂ R.times (given_full (C t) (constant_of R t) (expand R equal t) (expansion-law t h.0 j.3) w l e) (given_full (C u) (constant_of R u) (expand R equal u) (expansion-law u h.1 j.4) w l e)
        ∙ I.both both_of C C C (both_of-law L P) (expand R equal t) (expand R equal u) (labels_of R equal I IsLetter t j.1) (labels_of R equal I IsLetter u j.2) w (l ∙ j.0)
        ∙ sym (I.gathered (H w) (met_items R both_of (expand R equal t) (expand R equal u))))
    expansion-law (Shuffle t u) h j =
        at_all (Shuffle t u) (expand R equal (Shuffle t u)) h (labels (Shuffle t u) h)
        (λ w l e.
        I.shuffle (C t) (C u) (constant_of R t) (constant_of R u) C C (expand R equal t) (expand R equal u) (labels_of R equal I IsLetter t j.1) (labels_of R equal I IsLetter u j.2)
        (subst (λ n. IsGiven R n (C t) (constant_of R t) C (expand R equal t)) j.0 (expansion-law t h.1 j.3))
        (subst (λ n. IsGiven R n (C u) (constant_of R u) C (expand R equal u)) j.0 (expansion-law u h.2 j.4)) w (l ∙ j.0) e
        ∙ ap₂ R.plus
        (brought-alike (λ s. shuffle_series R (C s) (C u)) (λ s. C (shuffle_of s u)) (λ s v m. sym (shuffle_on s u (shuffle_of s u) v (m ∙ j.0) (shuffle_of-law L P s u))) w l (expand R equal t)
        ∙ sym (I.led (H w) (λ s. shuffle_of s u) (expand R equal t)))
        (brought-alike (λ s. shuffle_series R (C t) (C s)) (λ s. C (shuffle_of t s)) (λ s v m. sym (shuffle_on t s (shuffle_of t s) v (m ∙ j.0) (shuffle_of-law L P t s))) w l (expand R equal u)
        ∙ sym (I.led (H w) (λ s. shuffle_of t s) (expand R equal u)))
        ∙ sym (I.joined (H w) (mapped (λ s. shuffle_of s u) (expand R equal t)) (mapped (λ s. shuffle_of t s) (expand R equal u)))
        ∙ sym (I.gathered (H w) (mapped (λ s. shuffle_of s u) (expand R equal t) ++ mapped (λ s. shuffle_of t s) (expand R equal u))))

    pub sum-law : (ts : Terms V) → HaveTapes tapes ts → AllJoinLetters tapes ts → Given (sum_coefficient R ts) (sum_constant R ts) (expand_sum R equal ts)
    sum-law NoTerms h j = I.zero tapes C
    sum-law (MoreTerms t ts) h j = λ w l.
        ap₂ R.plus (expansion-law t h.0 j.0 w l) (sum-law ts h.1 j.1 w l)
        ∙ plus-plus L (cond (is_empty w) (constant_of R t) R.zero) (brought R C w (expand R equal t)) (cond (is_empty w) (sum_constant R ts) R.zero) (brought R C w (expand_sum R equal ts))
        ∙ ap₂ R.plus (sym (cond-plus L (is_empty w) (constant_of R t) (sum_constant R ts))) (sym (I.joined (H w) (expand R equal t) (expand_sum R equal ts)))

    pub product-law : (ts : Terms V) → HaveTapes tapes ts → AllJoinLetters tapes ts → Given (product_coefficient R ts) (product_constant R ts) (expand_product R equal ts)
    product-law NoTerms h j = I.one tapes C
    product-law (MoreTerms t NoTerms) h j = λ w l.
        P.one_right (C t) w ∙ expansion-law t h.0 j.0 w l ∙ ap (λ c. R.plus (cond (is_empty w) c R.zero) (brought R C w (expand R equal t))) (sym (times_one L (constant_of R t)))
    product-law (MoreTerms t (MoreTerms u us)) h j =
        collected-given (product_coefficient R (MoreTerms t (MoreTerms u us))) (product_constant R (MoreTerms t (MoreTerms u us)))
        (mapped (λ v. product_of_two R equal v (product_of_factors (list_of (MoreTerms u us)))) (expand R equal t) ++ cond (equal (constant_of R t) R.zero) [] (scaled_items R (constant_of R t) (expand_product R equal (MoreTerms u us))))
        (two-given t (product_of_factors (list_of (MoreTerms u us))) (MoreTerms u us) (expand_product R equal (MoreTerms u us))
        (λ v. product_of_factors-law L P equal Q (list_of (MoreTerms u us)) v ∙ ap (λ xs. product_coefficient R xs v) (terms_of-list_of (MoreTerms u us)))
        h.0 (expansion-law t h.0 j.0) (product-law (MoreTerms u us) h.1 j.1))
