-- A built tree is a weight before a product of factors; so products of two are associative.
use Rattle.std.proofs.Common.{◌≡◌, List, [], ◌∷◌, ◌++◌, cond, Bool, true, false, refl, sym, ap, ap₂, ◌∙◌, subst}
use Rattle.std.specs.List.{flat_map}
use Rattle.std.proofs.lemmas.List.{append-nil, append_assoc}
use Rattle.vc_model.specs.WeightSet.{WeightSet, SemiringLaws}
use Rattle.vc_model.specs.Lists.{IsEqualityTest}
use Rattle.vc_model.specs.Rearranged.{zero_times}
use Rattle.vc_terms.specs.Terms.{Term, Terms, NoTerms, MoreTerms, terms_of, list_of, Zero, One, Atom, Sum, Product, Star, Weight, Both, Shuffle}
use Rattle.vc_terms.specs.Trees.{is_zero}
use Rattle.vc_terms.specs.Identities.{put_weight, weight_of, weights_in, unweighted, factors_of, product_of_factors, times_onto, any_zero, all_factors, weight_in_front, product_of}
use Rattle.vc_terms.specs.Expansions.{product_of_two}
use Rattle.vc_terms.specs.Forms.{IsFactor, AreFactors, IsBody, IsBuiltRoot, EverywhereIn, IsBuilt}
use Rattle.vc_terms.proofs.IdentityLaws.{terms_of-list_of}
use Rattle.vc_terms.proofs.Forms.{in_append, factors_append, in_list_of, factors_list_of}

pub list_of-terms_of : {V : Type 0} (ts : List (Term V)) → list_of (terms_of ts) ≡ ts
list_of-terms_of [] = refl
list_of-terms_of (t ∷ ts) = ap (λ us. t ∷ us) (list_of-terms_of ts)

-- a weight before the product of factors
abbrev pub before : {V : Type 0} → WeightSet V → (V → V → Bool) → V → List (Term V) → Term V
before R equal k l = weight_of R equal k (product_of_factors l)

pub record HasForm {V : Type 0} (R : WeightSet V) (equal : V → V → Bool) (t : Term V) : Type 0 where
  pub weight : V
  pub list : List (Term V)
  pub factors : AreFactors (terms_of list)
  pub built : EverywhereIn (IsBuiltRoot R equal) (terms_of list)
  pub is : t ≡ before R equal weight list

module _ {V : Type 0} {R : WeightSet V} (L : SemiringLaws R) (equal : V → V → Bool) (Q : IsEqualityTest equal) where
  abbrev AreBuilt : List (Term V) → Type 0
  AreBuilt ts = EverywhereIn (IsBuiltRoot R equal) (terms_of ts)

  abbrev two : Term V → Term V → Term V
  two t u = product_of_two R equal t u

  -- what a product reads of a part
  record Parts (t : Term V) (k : V) (l : List (Term V)) : Type 0 where
    some : is_zero t ≡ false
    weight : (a : V) (ws : List V) → times_onto R a (weights_in t ++ ws) ≡ times_onto R (R.times a k) ws
    factors : factors_of (unweighted t) ≡ l

  no_weight : (a : V) (ws : List V) → times_onto R a ws ≡ times_onto R (R.times a R.one) ws
  no_weight a ws = ap (λ b. times_onto R b ws) (sym (L.times_one a))

  factor_parts : (t : Term V) → IsFactor t → Parts t R.one (t ∷ [])
  factor_parts Zero F = absurd F
  factor_parts One F = absurd F
  factor_parts (Product ts) F = absurd F
  factor_parts (Weight k t) F = absurd F
  factor_parts t F = record { some = refl; weight = no_weight; factors = refl }

  weighted_parts : (k : V) (t : Term V) → IsFactor t → Parts (put_weight R equal k t) k (t ∷ [])
  weighted_parts k Zero F = absurd F
  weighted_parts k One F = absurd F
  weighted_parts k (Product ts) F = absurd F
  weighted_parts k (Weight h t) F = absurd F
  weighted_parts k t F = record { some = refl; weight = λ a ws. refl; factors = refl }

  product_parts : (l : List (Term V)) → AreFactors (terms_of l) → Parts (product_of_factors l) R.one l
  product_parts [] F = record { some = refl; weight = no_weight; factors = refl }
  product_parts (t ∷ []) F = factor_parts t F.0
  product_parts (t ∷ u ∷ us) F = record { some = refl; weight = no_weight; factors = list_of-terms_of (t ∷ u ∷ us) }

  put_parts : (k : V) (l : List (Term V)) → AreFactors (terms_of l) → Parts (put_weight R equal k (product_of_factors l)) k l
  put_parts k [] F = record { some = refl; weight = λ a ws. refl; factors = refl }
  put_parts k (t ∷ []) F = weighted_parts k t F.0
  put_parts k (t ∷ u ∷ us) F = record { some = refl; weight = λ a ws. refl; factors = list_of-terms_of (t ∷ u ∷ us) }

  before_parts : (k : V) (l : List (Term V)) → AreFactors (terms_of l) → equal k R.zero ≡ false → Parts (before R equal k l) k l
  before_parts k l F n = subst (λ b. Parts (cond b Zero (cond (equal k R.one) (product_of_factors l) (put_weight R equal k (product_of_factors l)))) k l) (sym n) (go (equal k R.one) refl)
    where
      go : (b : Bool) → equal k R.one ≡ b → Parts (cond b (product_of_factors l) (put_weight R equal k (product_of_factors l))) k l
      go true p = subst (λ h. Parts (product_of_factors l) h l) (sym ((Q k R.one).0 p)) (product_parts l F)
      go false p = put_parts k l F

  pub before-zero : (k : V) (l : List (Term V)) → k ≡ R.zero → before R equal k l ≡ Zero
  before-zero k l e = ap (λ b. cond b Zero (cond (equal k R.one) (product_of_factors l) (put_weight R equal k (product_of_factors l)))) ((Q k R.zero).1 e)

  one_not_zero : equal R.one R.zero ≡ false
  one_not_zero = go (equal R.one R.zero) refl
    where
      go : (b : Bool) → equal R.one R.zero ≡ b → b ≡ false
      go true p = absurd (L.one_is_not_zero ((Q R.one R.zero).0 p))
      go false p = refl

  pub before-one : (l : List (Term V)) → before R equal R.one l ≡ product_of_factors l
  before-one l = ap₂ (λ a b. cond a Zero (cond b (product_of_factors l) (put_weight R equal R.one (product_of_factors l)))) one_not_zero ((Q R.one R.one).1 refl)

  -- the product of two, where both are read
  whole : V → List (Term V) → Term V
  whole k l = before R equal k l

  two-zero_left : (u : Term V) → two Zero u ≡ Zero
  two-zero_left u = refl

  two-zero_right : (t : Term V) → two t Zero ≡ Zero
  two-zero_right t = go (is_zero t)
    where
      go : (b : Bool) → cond (cond b true true) Zero (weight_of R equal (times_onto R R.one (weights_in t ++ [])) (product_of_factors (factors_of (unweighted t) ++ (Zero ∷ [])))) ≡ Zero
      go true = refl
      go false = refl

  read_two : (t u : Term V) (k h : V) (l m : List (Term V)) → Parts t k l → Parts u h m → two t u ≡ before R equal (R.times k h) (l ++ m)
  read_two t u k h l m P S =
      ap₂ (λ a b. cond (cond a true (cond b true false)) Zero (weight_of R equal (times_onto R R.one (weights_in t ++ (weights_in u ++ []))) (product_of_factors (factors_of (unweighted t) ++ (factors_of (unweighted u) ++ []))))) P.some S.some
      ∙ ap (λ a. weight_of R equal a (product_of_factors (factors_of (unweighted t) ++ (factors_of (unweighted u) ++ [])))) (P.weight R.one (weights_in u ++ []) ∙ S.weight (R.times R.one k) [] ∙ ap (λ a. R.times a h) (L.times_comm R.one k ∙ L.times_one k))
      ∙ ap₂ (λ x y. weight_of R equal (R.times k h) (product_of_factors (x ++ (y ++ [])))) P.factors S.factors
      ∙ ap (λ y. weight_of R equal (R.times k h) (product_of_factors (l ++ y))) (append-nil m)

  pub two-before : (k h : V) (l m : List (Term V)) → AreFactors (terms_of l) → AreFactors (terms_of m) → two (before R equal k l) (before R equal h m) ≡ before R equal (R.times k h) (l ++ m)
  two-before k h l m F G = go (equal k R.zero) (equal h R.zero) refl refl
    where
      go : (a b : Bool) → equal k R.zero ≡ a → equal h R.zero ≡ b → two (before R equal k l) (before R equal h m) ≡ before R equal (R.times k h) (l ++ m)
      go true b p q =
          let e = (Q k R.zero).0 p in
          ap (λ t. two t (before R equal h m)) (before-zero k l e) ∙ sym (before-zero (R.times k h) (l ++ m) (ap (λ x. R.times x h) e ∙ zero_times L h))
      go false true p q =
          let e = (Q h R.zero).0 q in
          ap (two (before R equal k l)) (before-zero h m e) ∙ two-zero_right (before R equal k l) ∙ sym (before-zero (R.times k h) (l ++ m) (ap (R.times k) e ∙ L.times_zero k))
      go false false p q = read_two (before R equal k l) (before R equal h m) k h l m (before_parts k l F p) (before_parts h m G q)

  pub two-form : (t u : Term V) → HasForm R equal t → HasForm R equal u → HasForm R equal (two t u)
  two-form t u a b = record {
    weight = R.times a.weight b.weight;
    list = a.list ++ b.list;
    factors = factors_append a.list b.list a.factors b.factors;
    built = in_append (IsBuiltRoot R equal) a.list b.list a.built b.built;
    is = ap₂ two a.is b.is ∙ two-before a.weight b.weight a.list b.list a.factors b.factors;
  }

  pub two-assoc : (t u v : Term V) → HasForm R equal t → HasForm R equal u → HasForm R equal v → two (two t u) v ≡ two t (two u v)
  two-assoc t u v a b c =
      ap₂ two (ap₂ two a.is b.is ∙ two-before a.weight b.weight a.list b.list a.factors b.factors) c.is
      ∙ two-before (R.times a.weight b.weight) c.weight (a.list ++ b.list) c.list (factors_append a.list b.list a.factors b.factors) c.factors
      ∙ ap₂ (λ k l. before R equal k l) (L.times_assoc a.weight b.weight c.weight) (append_assoc a.list b.list c.list)
      ∙ sym (ap₂ two a.is (ap₂ two b.is c.is ∙ two-before b.weight c.weight b.list c.list b.factors c.factors)
      ∙ two-before a.weight (R.times b.weight c.weight) a.list (b.list ++ c.list) a.factors (factors_append b.list c.list b.factors c.factors))

  pub product-form : (l : List (Term V)) → AreFactors (terms_of l) → AreBuilt l → HasForm R equal (product_of_factors l)
  product-form l F B = record { weight = R.one; list = l; factors = F; built = B; is = sym (before-one l) }

  factor-form : (t : Term V) → IsFactor t → IsBuilt R equal t → HasForm R equal t
  factor-form t F B = product-form (t ∷ []) (F, tt) (B, tt)

  zero-form : HasForm R equal Zero
  zero-form = record { weight = R.zero; list = []; factors = tt; built = tt; is = sym (before-zero R.zero [] refl) }

  one-form : HasForm R equal One
  one-form = product-form [] tt tt

  pub two-one : (t : Term V) → HasForm R equal t → two t One ≡ t
  two-one t a =
      ap₂ two a.is (sym (before-one [])) ∙ two-before a.weight R.one a.list [] a.factors tt
      ∙ ap₂ (λ k l. before R equal k l) (L.times_one a.weight) (append-nil a.list) ∙ sym a.is

  pub two-products : (l m : List (Term V)) → AreFactors (terms_of l) → AreFactors (terms_of m) → two (product_of_factors l) (product_of_factors m) ≡ product_of_factors (l ++ m)
  two-products l m F G =
      ap₂ two (sym (before-one l)) (sym (before-one m)) ∙ two-before R.one R.one l m F G
      ∙ ap (λ k. before R equal k (l ++ m)) (L.times_one R.one) ∙ before-one (l ++ m)

  weigh : (k : V) (t : Term V) → equal k R.zero ≡ false → equal k R.one ≡ false → weight_of R equal k t ≡ put_weight R equal k t
  weigh k t p q = ap₂ (λ a b. cond a Zero (cond b t (put_weight R equal k t))) p q

  -- a product in a tree is that of its listed factors
  listed_product : (t u : Term V) (us : Terms V) → product_of_factors (list_of (MoreTerms t (MoreTerms u us))) ≡ Product (MoreTerms t (MoreTerms u us))
  listed_product t u us = ap (λ z. Product (MoreTerms t (MoreTerms u z))) (terms_of-list_of us)

  weighted-form : (k : V) (t : Term V) → equal k R.zero ≡ false → equal k R.one ≡ false → IsBody t → IsBuilt R equal t → HasForm R equal (Weight k t)
  weighted-form k Zero p q B i = absurd B
  weighted-form k (Weight h t) p q B i = absurd B
  weighted-form k One p q B i = record { weight = k; list = []; factors = tt; built = tt; is = sym (weigh k One p q) }
  weighted-form k (Product NoTerms) p q B i = absurd i.0.1
  weighted-form k (Product (MoreTerms t NoTerms)) p q B i = absurd i.0.1
  weighted-form k (Product (MoreTerms t (MoreTerms u us))) p q B i = record {
    weight = k;
    list = t ∷ u ∷ list_of us;
    factors = factors_list_of (MoreTerms t (MoreTerms u us)) i.0.0;
    built = in_list_of (IsBuiltRoot R equal) (MoreTerms t (MoreTerms u us)) i.1;
    is = sym (weigh k (product_of_factors (list_of (MoreTerms t (MoreTerms u us)))) p q ∙ ap (λ z. put_weight R equal k z) (listed_product t u us));
  }
  weighted-form k (Atom a) p q B i = record { weight = k; list = Atom a ∷ []; factors = (tt, tt); built = (i, tt); is = sym (weigh k (Atom a) p q) }
  weighted-form k (Sum ts) p q B i = record { weight = k; list = Sum ts ∷ []; factors = (tt, tt); built = (i, tt); is = sym (weigh k (Sum ts) p q) }
  weighted-form k (Star t) p q B i = record { weight = k; list = Star t ∷ []; factors = (tt, tt); built = (i, tt); is = sym (weigh k (Star t) p q) }
  weighted-form k (Both t u) p q B i = record { weight = k; list = Both t u ∷ []; factors = (tt, tt); built = (i, tt); is = sym (weigh k (Both t u) p q) }
  weighted-form k (Shuffle t u) p q B i = record { weight = k; list = Shuffle t u ∷ []; factors = (tt, tt); built = (i, tt); is = sym (weigh k (Shuffle t u) p q) }

  pub built-form : (t : Term V) → IsBuilt R equal t → HasForm R equal t
  built-form Zero i = zero-form
  built-form One i = one-form
  built-form (Product NoTerms) i = absurd i.0.1
  built-form (Product (MoreTerms t NoTerms)) i = absurd i.0.1
  built-form (Product (MoreTerms t (MoreTerms u us))) i =
      let f = product-form (t ∷ u ∷ list_of us) (factors_list_of (MoreTerms t (MoreTerms u us)) i.0.0) (in_list_of (IsBuiltRoot R equal) (MoreTerms t (MoreTerms u us)) i.1) in
      subst (λ z. HasForm R equal z) (listed_product t u us) f
  built-form (Weight k t) i = weighted-form k t i.0.0 i.0.1 i.0.2 i.1
  built-form t i = factor-form t tt i

  -- what products of factors read and make
  any_factors : (ts : List (Term V)) → AreFactors (terms_of ts) → any_zero ts ≡ false
  any_factors [] F = refl
  any_factors (t ∷ ts) F = ap₂ (λ a b. cond a true b) (factor_parts t F.0).some (any_factors ts F.1)

  all_factors-are : (ts : List (Term V)) → AreFactors (terms_of ts) → all_factors ts ≡ ts
  all_factors-are [] F = refl
  all_factors-are (t ∷ ts) F = ap₂ (λ x y. x ++ y) (factor_parts t F.0).factors (all_factors-are ts F.1)

  front-is : (a : V) (ts : List (Term V)) → AreFactors (terms_of ts) → times_onto R a (flat_map weights_in ts) ≡ a
  front-is a [] F = refl
  front-is a (t ∷ ts) F = (factor_parts t F.0).weight a (flat_map weights_in ts) ∙ ap (λ b. times_onto R b (flat_map weights_in ts)) (L.times_one a) ∙ front-is a ts F.1

  pub product-factors : (ts : List (Term V)) → AreFactors (terms_of ts) → product_of R equal ts ≡ product_of_factors ts
  product-factors ts F =
      ap (λ b. cond b Zero (weight_of R equal (weight_in_front R ts) (product_of_factors (all_factors ts)))) (any_factors ts F)
      ∙ ap₂ (λ k l. before R equal k l) (front-is R.one ts F) (all_factors-are ts F)
      ∙ before-one ts
