-- What the operations build of parts that stand as they build them.
use Rattle.std.proofs.Common.{◌≡◌, Bool, true, false, [], ◌∷◌, ◌++◌, refl, ap, ap₂, ◌∙◌}
use Rattle.std.specs.Prelude.{if◌then◌else◌}
use Rattle.std.specs.List.{flat_map}
use Rattle.vc_model.specs.Lists.{IsEqualityTest}
use Rattle.vc_terms.specs.Terms.{Term, Terms, Zero, One, Sum, Product, Star, Weight, Both, Shuffle, NoTerms, MoreTerms, terms_of, list_of}
use Rattle.vc_terms.specs.Trees.{is_zero, is_one}
use Rattle.vc_terms.specs.Forms.{IsMember, AreMembers, IsFactor, AreFactors, AreMany, IsBody, IsSome, IsMore}
use Rattle.vc_terms.specs.Identities.{members_of, sum_of_members, sum_of, any_zero, weights_in, unweighted, factors_of, product_of_factors, times_onto, all_factors, both_of, shuffle_of, star_of, put_weight, weight_of, product_of, built_of, built_all}
use Rattle.vc_model.specs.WeightSet.{WeightSet, SemiringLaws}
use Rattle.vc_exprio.specs.Meaning.{append}

listed : {V : Type 0} (ts : Terms V) → terms_of (list_of ts) ≡ ts
listed NoTerms = refl
listed (MoreTerms t ts) = ap (MoreTerms t) (listed ts)

one_member : {V : Type 0} (t : Term V) → IsMember t → members_of t ≡ t ∷ []
one_member Zero m = absurd m
one_member (Sum ts) m = absurd m
one_member t m = refl

one_factor : {V : Type 0} (t : Term V) → IsFactor t → factors_of (unweighted t) ≡ t ∷ []
one_factor Zero m = absurd m
one_factor One m = absurd m
one_factor (Product ts) m = absurd m
one_factor (Weight k t) m = absurd m
one_factor t m = refl

no_weight : {V : Type 0} (t : Term V) → IsFactor t → weights_in t ≡ []
no_weight (Weight k t) m = absurd m
no_weight t m = refl

factor_not_zero : {V : Type 0} (t : Term V) → IsFactor t → is_zero t ≡ false
factor_not_zero Zero m = absurd m
factor_not_zero t m = refl

some_not_zero : {V : Type 0} (t : Term V) → IsSome t → is_zero t ≡ false
some_not_zero Zero m = absurd m
some_not_zero t m = refl

more_not_zero : {V : Type 0} (t : Term V) → IsMore t → is_zero t ≡ false
more_not_zero Zero m = absurd m
more_not_zero t m = refl

more_not_one : {V : Type 0} (t : Term V) → IsMore t → is_one t ≡ false
more_not_one One m = absurd m
more_not_one t m = refl

pub star_kept : {V : Type 0} (t : Term V) → IsSome t → star_of t ≡ Star t
star_kept t m = ap (λ b. if b then One else Star t) (some_not_zero t m)

pub both_kept : {V : Type 0} (t u : Term V) → IsSome t → IsSome u → both_of t u ≡ Both t u
both_kept t u m n = ap₂ (λ a b. if a then Zero else if b then Zero else Both t u) (some_not_zero t m) (some_not_zero u n)

pub shuffle_kept : {V : Type 0} (t u : Term V) → IsMore t → IsMore u → shuffle_of t u ≡ Shuffle t u
shuffle_kept t u m n =
    ap₂ (λ a b. if a then Zero else if b then Zero else if is_one t then u else if is_one u then t else Shuffle t u) (more_not_zero t m) (more_not_zero u n)
    ∙ ap₂ (λ a b. if a then u else if b then t else Shuffle t u) (more_not_one t m) (more_not_one u n)

members_kept : {V : Type 0} (ts : Terms V) → AreMembers ts → flat_map members_of (list_of ts) ≡ list_of ts
members_kept NoTerms h = refl
members_kept (MoreTerms t ts) (one, more) = ap₂ (λ a b. a ++ b) (one_member t one) (members_kept ts more)

sum_two : {V : Type 0} (ts : Terms V) → AreMany ts → sum_of_members (list_of ts) ≡ Sum ts
sum_two NoTerms h = absurd h
sum_two (MoreTerms t NoTerms) h = absurd h
sum_two (MoreTerms t (MoreTerms u us)) h = ap (λ x. Sum (MoreTerms t (MoreTerms u x))) (listed us)

pub sum_kept : {V : Type 0} (ts : Terms V) → AreMany ts → AreMembers ts → sum_of (list_of ts) ≡ Sum ts
sum_kept ts many h = ap sum_of_members (members_kept ts h) ∙ sum_two ts many

factors_kept : {V : Type 0} (ts : Terms V) → AreFactors ts → all_factors (list_of ts) ≡ list_of ts
factors_kept NoTerms h = refl
factors_kept (MoreTerms t ts) (one, more) = ap₂ (λ a b. a ++ b) (one_factor t one) (factors_kept ts more)

weights_kept : {V : Type 0} (ts : Terms V) → AreFactors ts → flat_map weights_in (list_of ts) ≡ []
weights_kept NoTerms h = refl
weights_kept (MoreTerms t ts) (one, more) = ap₂ (λ a b. a ++ b) (no_weight t one) (weights_kept ts more)

none_zero : {V : Type 0} (ts : Terms V) → AreFactors ts → any_zero (list_of ts) ≡ false
none_zero NoTerms h = refl
none_zero (MoreTerms t ts) (one, more) = ap (λ b. if b then true else any_zero (list_of ts)) (factor_not_zero t one) ∙ none_zero ts more

product_two : {V : Type 0} (ts : Terms V) → AreMany ts → product_of_factors (list_of ts) ≡ Product ts
product_two NoTerms h = absurd h
product_two (MoreTerms t NoTerms) h = absurd h
product_two (MoreTerms t (MoreTerms u us)) h = ap (λ x. Product (MoreTerms t (MoreTerms u x))) (listed us)

module _ {V : Type 0} (R : WeightSet V) (L : SemiringLaws R) (same : V → V → Bool) (test : IsEqualityTest same) where
  one_same : same R.one R.one ≡ true
  one_same = (test R.one R.one).1 refl

  one_not_zero : same R.one R.zero ≡ false
  one_not_zero = go (same R.one R.zero) refl
    where
      go : (b : Bool) → same R.one R.zero ≡ b → b ≡ false
      go true e = absurd (L.one_is_not_zero ((test R.one R.zero).0 e))
      go false e = refl

  weight_one : (t : Term V) → weight_of R same R.one t ≡ t
  weight_one t = ap₂ (λ a b. if a then Zero else if b then t else put_weight R same R.one t) one_not_zero one_same

  pub product_kept : (ts : Terms V) → AreMany ts → AreFactors ts → product_of R same (list_of ts) ≡ Product ts
  product_kept ts many h =
      ap (λ b. if b then Zero else weight_of R same (times_onto R R.one (flat_map weights_in (list_of ts))) (product_of_factors (all_factors (list_of ts)))) (none_zero ts h)
      ∙ ap₂ (weight_of R same) (ap (times_onto R R.one) (weights_kept ts h)) (ap product_of_factors (factors_kept ts h) ∙ product_two ts many)
      ∙ weight_one (Product ts)

  put_kept : (k : V) (t : Term V) → IsBody t → put_weight R same k t ≡ Weight k t
  put_kept k Zero m = absurd m
  put_kept k (Weight h t) m = absurd m
  put_kept k t m = refl

  pub weight_kept : (k : V) (t : Term V) → same k R.zero ≡ false → same k R.one ≡ false → IsBody t → weight_of R same k t ≡ Weight k t
  weight_kept k t e f m = ap₂ (λ a b. if a then Zero else if b then t else put_weight R same k t) e f ∙ put_kept k t m

  pub built_append : (ts us : Terms V) → built_all R same (append ts us) ≡ built_all R same ts ++ built_all R same us
  built_append NoTerms us = refl
  built_append (MoreTerms t ts) us = ap (λ xs. built_of R same t ∷ xs) (built_append ts us)
