-- What an operation keeps: what goes from parts to the whole is true of what is built where it is true of the operands.
use Rattle.std.specs.Prelude.{List, [], ◌∷◌, ◌++◌, cond, Bool, true, false}
use Rattle.std.specs.List.{flat_map}
use Rattle.vc_model.specs.WeightSet.{WeightSet}
use Rattle.vc_model.specs.Words.{Word, is_empty}
use Rattle.vc_terms.specs.Terms.{Term, Terms, NoTerms, MoreTerms, terms_of, list_of, Zero, One, Atom, Sum, Product, Star, Weight, Both, Shuffle}
use Rattle.vc_terms.specs.Trees.{is_zero, is_one}
use Rattle.vc_terms.specs.Identities.{members_of, sum_of_members, sum_of, put_weight, weight_of, any_zero, unweighted, factors_of, product_of_factors, weight_in_front, all_factors, product_of, both_of, shuffle_of, star_of, built_of, built_all}
use Rattle.vc_terms.specs.Forms.{Everywhere, EverywhereIn, HasRootLabel}
use Rattle.vc_terms.specs.Kept.{IsKept}

module _ {V : Type 0} (R : WeightSet V) (equal : V → V → Bool) (P : Term V → Type 0) (PS : Terms V → Type 0) (K : IsKept P PS) where
  pub listed : (ts : Terms V) → PS ts → PS (terms_of (list_of ts))
  listed NoTerms h = h
  listed (MoreTerms t ts) h = K.more t (terms_of (list_of ts)) (K.first t ts h) (listed ts (K.others t ts h))

  joined : (ts us : List (Term V)) → PS (terms_of ts) → PS (terms_of us) → PS (terms_of (ts ++ us))
  joined [] us h k = k
  joined (t ∷ ts) us h k = K.more t (terms_of (ts ++ us)) (K.first t (terms_of ts) h) (joined ts us (K.others t (terms_of ts) h) k)

  single : (t : Term V) → P t → PS (terms_of (t ∷ []))
  single t h = K.more t NoTerms h K.none

  members_kept : (t : Term V) → P t → PS (terms_of (members_of t))
  members_kept Zero h = K.none
  members_kept (Sum ts) h = listed ts (K.members ts h)
  members_kept t h = single t h

  all_members_kept : (ts : List (Term V)) → PS (terms_of ts) → PS (terms_of (flat_map members_of ts))
  all_members_kept [] h = h
  all_members_kept (t ∷ ts) h = joined (members_of t) (flat_map members_of ts) (members_kept t (K.first t (terms_of ts) h)) (all_members_kept ts (K.others t (terms_of ts) h))

  close_sum_kept : (ts : List (Term V)) → PS (terms_of ts) → P (sum_of_members ts)
  close_sum_kept [] h = K.zero
  close_sum_kept (t ∷ []) h = K.first t NoTerms h
  close_sum_kept (t ∷ u ∷ us) h = K.sum (terms_of (t ∷ u ∷ us)) h

  pub sum_kept : (ts : List (Term V)) → PS (terms_of ts) → P (sum_of ts)
  sum_kept ts h = close_sum_kept (flat_map members_of ts) (all_members_kept ts h)

  tested_kept : (k : V) (t u : Term V) → P t → P u → P (cond (equal k R.zero) Zero (cond (equal k R.one) t u))
  tested_kept k t u h i = go (equal k R.zero) (equal k R.one)
    where
      go : (a b : Bool) → P (cond a Zero (cond b t u))
      go true b = K.zero
      go false true = h
      go false false = i

  put_weight_kept : (k : V) (t : Term V) → P t → P (put_weight R equal k t)
  put_weight_kept k Zero h = K.zero
  put_weight_kept k (Weight l t) h = tested_kept (R.times k l) t (put_weight R equal (R.times k l) t) (K.body l t h) (put_weight_kept (R.times k l) t (K.body l t h))
  put_weight_kept k t h = K.weight k t h

  pub weight_kept : (k : V) (t : Term V) → P t → P (weight_of R equal k t)
  weight_kept k t h = tested_kept k t (put_weight R equal k t) h (put_weight_kept k t h)

  factors_kept : (t : Term V) → P t → PS (terms_of (factors_of t))
  factors_kept One h = K.none
  factors_kept (Product ts) h = listed ts (K.factors ts h)
  factors_kept t h = single t h

  unweighted_kept : (t : Term V) → P t → P (unweighted t)
  unweighted_kept (Weight k t) h = K.body k t h
  unweighted_kept t h = h

  all_factors_kept : (ts : List (Term V)) → PS (terms_of ts) → PS (terms_of (all_factors ts))
  all_factors_kept [] h = h
  all_factors_kept (t ∷ ts) h =
      joined (factors_of (unweighted t)) (all_factors ts) (factors_kept (unweighted t) (unweighted_kept t (K.first t (terms_of ts) h))) (all_factors_kept ts (K.others t (terms_of ts) h))

  pub close_product_kept : (ts : List (Term V)) → PS (terms_of ts) → P (product_of_factors ts)
  close_product_kept [] h = K.one
  close_product_kept (t ∷ []) h = K.first t NoTerms h
  close_product_kept (t ∷ u ∷ us) h = K.product (terms_of (t ∷ u ∷ us)) h

  pub product_kept : (ts : List (Term V)) → PS (terms_of ts) → P (product_of R equal ts)
  product_kept ts h = go (any_zero ts)
    where
      go : (b : Bool) → P (cond b Zero (weight_of R equal (weight_in_front R ts) (product_of_factors (all_factors ts))))
      go true = K.zero
      go false = weight_kept (weight_in_front R ts) (product_of_factors (all_factors ts)) (close_product_kept (all_factors ts) (all_factors_kept ts h))

  pub both_kept : (t u : Term V) → P (Both t u) → P (both_of t u)
  both_kept t u h = go (is_zero t) (is_zero u)
    where
      go : (a b : Bool) → P (cond a Zero (cond b Zero (Both t u)))
      go true b = K.zero
      go false true = K.zero
      go false false = h

  pub shuffle_kept : (t u : Term V) → P t → P u → P (Shuffle t u) → P (shuffle_of t u)
  shuffle_kept t u h i j = go (is_zero t) (is_zero u) (is_one t) (is_one u)
    where
      go : (m n p q : Bool) → P (cond m Zero (cond n Zero (cond p u (cond q t (Shuffle t u)))))
      go true n p q = K.zero
      go false true p q = K.zero
      go false false true q = i
      go false false false true = h
      go false false false false = j

  pub star_kept : (t : Term V) → P (Star t) → P (star_of t)
  star_kept t h = go (is_zero t)
    where
      go : (b : Bool) → P (cond b One (Star t))
      go true = K.one
      go false = h

-- what is true of the labels of a raw tree is true of those of the built tree
module _ {V : Type 0} (R : WeightSet V) (equal : V → V → Bool) (P : Word → Type 0) where
  labels_kept : IsKept {V = V} (Everywhere (HasRootLabel P)) (EverywhereIn (HasRootLabel P))
  labels_kept = record {
    zero = tt;
    one = tt;
    none = tt;
    more = λ t ts h k. (h, k);
    first = λ t ts h. h.0;
    others = λ t ts h. h.1;
    sum = λ ts h. (tt, h);
    members = λ ts h. h.1;
    product = λ ts h. (tt, h);
    factors = λ ts h. h.1;
    weight = λ k t h. (tt, h);
    body = λ k t h. h.1;
  }

  mutual
    pub built_labels : (t : Term V) → Everywhere (HasRootLabel P) t → Everywhere (HasRootLabel P) (built_of R equal t)
    built_labels Zero h = tt
    built_labels One h = tt
    built_labels (Atom a) h = go (is_empty a)
      where
        go : (b : Bool) → Everywhere (HasRootLabel {V = V} P) (cond b One (Atom a))
        go true = tt
        go false = h
    built_labels (Sum ts) h = sum_kept R equal (Everywhere (HasRootLabel P)) (EverywhereIn (HasRootLabel P)) labels_kept (built_all R equal ts) (all_built_labels ts h.1)
    built_labels (Product ts) h = product_kept R equal (Everywhere (HasRootLabel P)) (EverywhereIn (HasRootLabel P)) labels_kept (built_all R equal ts) (all_built_labels ts h.1)
    built_labels (Star t) h = star_kept R equal (Everywhere (HasRootLabel P)) (EverywhereIn (HasRootLabel P)) labels_kept (built_of R equal t) (tt, built_labels t h.1)
    built_labels (Weight k t) h = weight_kept R equal (Everywhere (HasRootLabel P)) (EverywhereIn (HasRootLabel P)) labels_kept k (built_of R equal t) (built_labels t h.1)
    built_labels (Both t u) h = both_kept R equal (Everywhere (HasRootLabel P)) (EverywhereIn (HasRootLabel P)) labels_kept (built_of R equal t) (built_of R equal u) (tt, built_labels t h.1, built_labels u h.2)
    built_labels (Shuffle t u) h =
        shuffle_kept R equal (Everywhere (HasRootLabel P)) (EverywhereIn (HasRootLabel P)) labels_kept (built_of R equal t) (built_of R equal u)
        (built_labels t h.1) (built_labels u h.2) (tt, built_labels t h.1, built_labels u h.2)

    all_built_labels : (ts : Terms V) → EverywhereIn (HasRootLabel P) ts → EverywhereIn (HasRootLabel P) (terms_of (built_all R equal ts))
    all_built_labels NoTerms h = tt
    all_built_labels (MoreTerms t ts) h = (built_labels t h.0, all_built_labels ts h.1)
