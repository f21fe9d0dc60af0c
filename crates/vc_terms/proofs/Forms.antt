-- What the operations build has its form.
use Rattle.std.proofs.Common.{◌≡◌, List, [], ◌∷◌, ◌++◌, cond, Bool, true, false, refl, sym}
use Rattle.std.specs.List.{flat_map}
use Rattle.std.proofs.lemmas.Bool.{false≢true}
use Rattle.vc_model.specs.WeightSet.{WeightSet}
use Rattle.vc_model.specs.Words.{is_empty}
use Rattle.vc_terms.specs.Terms.{Term, Terms, NoTerms, MoreTerms, terms_of, list_of, Zero, One, Atom, Sum, Product, Star, Weight, Both, Shuffle}
use Rattle.vc_terms.specs.Trees.{is_zero, is_one}
use Rattle.vc_terms.specs.Identities.{members_of, sum_of_members, sum_of, put_weight, weight_of, any_zero, unweighted, factors_of, product_of_factors, weight_in_front, all_factors, product_of, both_of, shuffle_of, star_of, built_of, built_all}
use Rattle.vc_terms.specs.Forms.{AreMembers, IsFactor, AreFactors, IsBody, IsSome, IsMore, IsBuiltRoot, EverywhereIn, IsBuilt}

pub in_list_of : {V : Type 0} (P : Term V → Type 0) (ts : Terms V) → EverywhereIn P ts → EverywhereIn P (terms_of (list_of ts))
in_list_of P NoTerms h = tt
in_list_of P (MoreTerms t ts) h = (h.0, in_list_of P ts h.1)

pub in_append : {V : Type 0} (P : Term V → Type 0) (ts us : List (Term V)) → EverywhereIn P (terms_of ts) → EverywhereIn P (terms_of us) → EverywhereIn P (terms_of (ts ++ us))
in_append P [] us h k = k
in_append P (t ∷ ts) us h k = (h.0, in_append P ts us h.1 k)

members_list_of : {V : Type 0} (ts : Terms V) → AreMembers ts → AreMembers (terms_of (list_of ts))
members_list_of NoTerms h = tt
members_list_of (MoreTerms t ts) h = (h.0, members_list_of ts h.1)

members_append : {V : Type 0} (ts us : List (Term V)) → AreMembers (terms_of ts) → AreMembers (terms_of us) → AreMembers (terms_of (ts ++ us))
members_append [] us h k = k
members_append (t ∷ ts) us h k = (h.0, members_append ts us h.1 k)

pub factors_list_of : {V : Type 0} (ts : Terms V) → AreFactors ts → AreFactors (terms_of (list_of ts))
factors_list_of NoTerms h = tt
factors_list_of (MoreTerms t ts) h = (h.0, factors_list_of ts h.1)

pub factors_append : {V : Type 0} (ts us : List (Term V)) → AreFactors (terms_of ts) → AreFactors (terms_of us) → AreFactors (terms_of (ts ++ us))
factors_append [] us h k = k
factors_append (t ∷ ts) us h k = (h.0, factors_append ts us h.1 k)

-- a factor is built as a body is: in front of it there is no weight
pub factor_is_body : {V : Type 0} (t : Term V) → IsFactor t → IsBody t
factor_is_body Zero f = f
factor_is_body One f = absurd f
factor_is_body (Product ts) f = absurd f
factor_is_body (Weight k t) f = f
factor_is_body t f = tt

pub some_is : {V : Type 0} (t : Term V) → is_zero t ≡ false → IsSome t
some_is Zero e = absurd (false≢true (sym e))
some_is t e = tt

pub more_is : {V : Type 0} (t : Term V) → is_zero t ≡ false → is_one t ≡ false → IsMore t
more_is Zero e f = absurd (false≢true (sym e))
more_is One e f = absurd (false≢true (sym f))
more_is t e f = tt

module _ {V : Type 0} (R : WeightSet V) (equal : V → V → Bool) where
  -- each tree of the list is built
  abbrev AreBuilt : List (Term V) → Type 0
  AreBuilt ts = EverywhereIn (IsBuiltRoot R equal) (terms_of ts)

  -- sums
  member_parts : (t : Term V) → IsBuilt R equal t → AreMembers (terms_of (members_of t)) × AreBuilt (members_of t)
  member_parts Zero i = (tt, tt)
  member_parts (Sum ts) i = (members_list_of ts i.0.0, in_list_of (IsBuiltRoot R equal) ts i.1)
  member_parts t i = ((tt, tt), (i, tt))

  pub all_members : (ts : List (Term V)) → AreBuilt ts → AreMembers (terms_of (flat_map members_of ts)) × AreBuilt (flat_map members_of ts)
  all_members [] i = (tt, tt)
  all_members (t ∷ ts) i =
      let a = member_parts t i.0 in
      let b = all_members ts i.1 in
      (members_append (members_of t) (flat_map members_of ts) a.0 b.0, in_append (IsBuiltRoot R equal) (members_of t) (flat_map members_of ts) a.1 b.1)

  close_sum : (ts : List (Term V)) → AreMembers (terms_of ts) → AreBuilt ts → IsBuilt R equal (sum_of_members ts)
  close_sum [] a i = tt
  close_sum (t ∷ []) a i = i.0
  close_sum (t ∷ u ∷ us) a i = ((a, tt), i)

  pub sum_built : (ts : List (Term V)) → AreBuilt ts → IsBuilt R equal (sum_of ts)
  sum_built ts i = let a = all_members ts i in close_sum (flat_map members_of ts) a.0 a.1

  -- weights
  tested_built : (k : V) (t u : Term V) → IsBuilt R equal t → (equal k R.zero ≡ false → equal k R.one ≡ false → IsBuilt R equal u)
      → IsBuilt R equal (cond (equal k R.zero) Zero (cond (equal k R.one) t u))
  tested_built k t u i h = go (equal k R.zero) (equal k R.one) refl refl
    where
      go : (a b : Bool) → equal k R.zero ≡ a → equal k R.one ≡ b → IsBuilt R equal (cond a Zero (cond b t u))
      go true b p q = tt
      go false true p q = i
      go false false p q = h p q

  body_weighted : (k : V) (t : Term V) → equal k R.zero ≡ false → equal k R.one ≡ false → IsBody t → IsBuilt R equal t → IsBuilt R equal (put_weight R equal k t)
  body_weighted k Zero p q B i = absurd B
  body_weighted k (Weight h t) p q B i = absurd B
  body_weighted k t p q B i = ((p, q, tt), i)

  put_weight_built : (k : V) (t : Term V) → equal k R.zero ≡ false → equal k R.one ≡ false → IsBuilt R equal t → IsBuilt R equal (put_weight R equal k t)
  put_weight_built k Zero p q i = tt
  put_weight_built k (Weight h t) p q i = tested_built (R.times k h) t (put_weight R equal (R.times k h) t) i.1 (λ a b. body_weighted (R.times k h) t a b i.0.2 i.1)
  put_weight_built k t p q i = ((p, q, tt), i)

  pub weight_built : (k : V) (t : Term V) → IsBuilt R equal t → IsBuilt R equal (weight_of R equal k t)
  weight_built k t i = tested_built k t (put_weight R equal k t) i (λ p q. put_weight_built k t p q i)

  -- products
  body_parts : (t : Term V) → IsBody t → IsBuilt R equal t → AreFactors (terms_of (factors_of t)) × AreBuilt (factors_of t)
  body_parts Zero B i = absurd B
  body_parts (Weight k t) B i = absurd B
  body_parts One B i = (tt, tt)
  body_parts (Product ts) B i = (factors_list_of ts i.0.0, in_list_of (IsBuiltRoot R equal) ts i.1)
  body_parts t B i = ((tt, tt), (i, tt))

  factor_parts : (t : Term V) → is_zero t ≡ false → IsBuilt R equal t → AreFactors (terms_of (factors_of (unweighted t))) × AreBuilt (factors_of (unweighted t))
  factor_parts Zero e i = absurd (false≢true (sym e))
  factor_parts (Weight k t) e i = body_parts t i.0.2 i.1
  factor_parts t e i = body_parts t tt i

  none_zero : (a b : Bool) → cond a true b ≡ false → (a ≡ false) × (b ≡ false)
  none_zero true b e = absurd (false≢true (sym e))
  none_zero false b e = (refl, e)

  pub all_parts : (ts : List (Term V)) → any_zero ts ≡ false → AreBuilt ts → AreFactors (terms_of (all_factors ts)) × AreBuilt (all_factors ts)
  all_parts [] e i = (tt, tt)
  all_parts (t ∷ ts) e i =
      let n = none_zero (is_zero t) (any_zero ts) e in
      let a = factor_parts t n.0 i.0 in
      let b = all_parts ts n.1 i.1 in
      (factors_append (factors_of (unweighted t)) (all_factors ts) a.0 b.0, in_append (IsBuiltRoot R equal) (factors_of (unweighted t)) (all_factors ts) a.1 b.1)

  pub close_product : (ts : List (Term V)) → AreFactors (terms_of ts) → AreBuilt ts → IsBuilt R equal (product_of_factors ts)
  close_product [] a i = tt
  close_product (t ∷ []) a i = i.0
  close_product (t ∷ u ∷ us) a i = ((a, tt), i)

  pub product_built : (ts : List (Term V)) → AreBuilt ts → IsBuilt R equal (product_of R equal ts)
  product_built ts i = go (any_zero ts) refl
    where
      go : (b : Bool) → any_zero ts ≡ b → IsBuilt R equal (cond b Zero (weight_of R equal (weight_in_front R ts) (product_of_factors (all_factors ts))))
      go true e = tt
      go false e = let a = all_parts ts e i in weight_built (weight_in_front R ts) (product_of_factors (all_factors ts)) (close_product (all_factors ts) a.0 a.1)

  -- the others
  pub both_built : (t u : Term V) → IsBuilt R equal t → IsBuilt R equal u → IsBuilt R equal (both_of t u)
  both_built t u i j = go (is_zero t) (is_zero u) refl refl
    where
      go : (a b : Bool) → is_zero t ≡ a → is_zero u ≡ b → IsBuilt R equal (cond a Zero (cond b Zero (Both t u)))
      go true b p q = tt
      go false true p q = tt
      go false false p q = ((some_is t p, some_is u q), i, j)

  pub shuffle_built : (t u : Term V) → IsBuilt R equal t → IsBuilt R equal u → IsBuilt R equal (shuffle_of t u)
  shuffle_built t u i j = go (is_zero t) (is_zero u) (is_one t) (is_one u) refl refl refl refl
    where
      go : (m n p q : Bool) → is_zero t ≡ m → is_zero u ≡ n → is_one t ≡ p → is_one u ≡ q → IsBuilt R equal (cond m Zero (cond n Zero (cond p u (cond q t (Shuffle t u)))))
      go true n p q a b c d = tt
      go false true p q a b c d = tt
      go false false true q a b c d = j
      go false false false true a b c d = i
      go false false false false a b c d = ((more_is t a c, more_is u b d), i, j)

  pub star_built : (t : Term V) → IsBuilt R equal t → IsBuilt R equal (star_of t)
  star_built t i = go (is_zero t) refl
    where
      go : (b : Bool) → is_zero t ≡ b → IsBuilt R equal (cond b One (Star t))
      go true p = tt
      go false p = (some_is t p, i)

  mutual
    pub built_is_built : (t : Term V) → IsBuilt R equal (built_of R equal t)
    built_is_built Zero = tt
    built_is_built One = tt
    built_is_built (Atom a) = go (is_empty a) refl
      where
        go : (b : Bool) → is_empty a ≡ b → IsBuilt R equal (cond b One (Atom a))
        go true e = tt
        go false e = e
    built_is_built (Sum ts) = sum_built (built_all R equal ts) (built_are_built ts)
    built_is_built (Product ts) = product_built (built_all R equal ts) (built_are_built ts)
    built_is_built (Star t) = star_built (built_of R equal t) (built_is_built t)
    built_is_built (Weight k t) = weight_built k (built_of R equal t) (built_is_built t)
    built_is_built (Both t u) = both_built (built_of R equal t) (built_of R equal u) (built_is_built t) (built_is_built u)
    built_is_built (Shuffle t u) = shuffle_built (built_of R equal t) (built_of R equal u) (built_is_built t) (built_is_built u)

    pub built_are_built : (ts : Terms V) → AreBuilt (built_all R equal ts)
    built_are_built NoTerms = tt
    built_are_built (MoreTerms t ts) = (built_is_built t, built_are_built ts)
