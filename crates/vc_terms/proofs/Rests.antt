-- The expansion of a product of two built trees, by sums over its entries.
use Rattle.std.proofs.Common.{◌≡◌, List, [], ◌∷◌, ◌++◌, cond, Bool, true, false, refl, sym, ap, ap₂, ◌∙◌}
use Rattle.vc_model.specs.WeightSet.{WeightSet, SemiringLaws}
use Rattle.vc_model.specs.Lists.{In, IsEqualityTest}
use Rattle.vc_model.specs.Rearranged.{zero_plus, zero_times, one_times}
use Rattle.vc_model.specs.SumLaws.{sum_same}
use Rattle.vc_model.specs.Words.{Word}
use Rattle.vc_model.specs.Items.{taken}
use Rattle.vc_terms.specs.ItemLists.{mapped, scaled_items}
use Rattle.vc_terms.specs.Terms.{Term, MoreTerms, terms_of, constant_of, product_constant, Zero, Weight}
use Rattle.vc_terms.specs.Identities.{put_weight, weight_of, product_of_factors}
use Rattle.vc_terms.specs.Expansions.{Entry, collected, product_of_two, expand, expand_product}
use Rattle.vc_terms.specs.Forms.{AreFactors, IsBuiltRoot, EverywhereIn, IsBuilt}
use Rattle.vc_terms.specs.ItemLaws.{ItemLaws}
use Rattle.vc_terms.proofs.NormalForms.{before, HasForm, list_of-terms_of, before-one, two-before, two-assoc, two-one, two-products, product-form, built-form}
use Rattle.vc_terms.proofs.DerivedKept.{derived_built}
use Rattle.vc_terms.proofs.Within.{within}

module _ {V : Type 0} {R : WeightSet V} (L : SemiringLaws R) (equal : V → V → Bool) (Q : IsEqualityTest equal) (I : ItemLaws R equal) where
  abbrev AreBuilt : List (Term V) → Type 0
  AreBuilt ts = EverywhereIn (IsBuiltRoot R equal) (terms_of ts)

  abbrev two : Term V → Term V → Term V
  two t u = product_of_two R equal t u

  -- the sum over the entries of a tree
  abbrev Over : (Word → Term V → V) → Term V → V
  Over h t = taken R h (expand R equal t)

  entry-form : (t : Term V) → IsBuilt R equal t → (e : Entry V) → In e (expand R equal t) → HasForm R equal e.to
  entry-form t i e j = built-form L equal Q e.to (derived_built R equal t i e.to (within R equal I t e j))

  taken_same : (h g : Word → Term V → V) (xs : List (Entry V)) → ((e : Entry V) → In e xs → h e.label e.to ≡ g e.label e.to) → taken R h xs ≡ taken R g xs
  taken_same h g xs r = sum_same L _ _ xs (λ e i. ap (R.times e.weight) (r e i))

  pub expand-product : (l : List (Term V)) → expand R equal (product_of_factors l) ≡ expand_product R equal (terms_of l)
  expand-product [] = refl
  expand-product (t ∷ []) = refl
  expand-product (t ∷ u ∷ us) = refl

  constant-product : (l : List (Term V)) → constant_of R (product_of_factors l) ≡ product_constant R (terms_of l)
  constant-product [] = refl
  constant-product (t ∷ []) = sym (L.times_one (constant_of R t))
  constant-product (t ∷ u ∷ us) = refl

  -- weights
  tested : (h : Word → Term V → V) (k : V) (t u : Term V) → Over h u ≡ R.times k (Over h t) → Over h (cond (equal k R.zero) Zero (cond (equal k R.one) t u)) ≡ R.times k (Over h t)
  tested h k t u r = go (equal k R.zero) (equal k R.one) refl refl
    where
      go : (a b : Bool) → equal k R.zero ≡ a → equal k R.one ≡ b → Over h (cond a Zero (cond b t u)) ≡ R.times k (Over h t)
      go true b p q = sym (ap (λ x. R.times x (Over h t)) ((Q k R.zero).0 p) ∙ zero_times L (Over h t))
      go false true p q = sym (ap (λ x. R.times x (Over h t)) ((Q k R.one).0 q) ∙ one_times L (Over h t))
      go false false p q = r

  taken-weight : (h : Word → Term V → V) (k : V) (t : Term V) → Over h (Weight k t) ≡ R.times k (Over h t)
  taken-weight h k t = I.gathered h (scaled_items R k (expand R equal t)) ∙ I.multiplied h k (expand R equal t)

  taken-put_weight : (h : Word → Term V → V) (k : V) (t : Term V) → Over h (put_weight R equal k t) ≡ R.times k (Over h t)
  taken-put_weight h k Zero = sym (L.times_zero k)
  taken-put_weight h k (Weight j t) =
      tested h (R.times k j) t (put_weight R equal (R.times k j) t) (taken-put_weight h (R.times k j) t)
      ∙ L.times_assoc k j (Over h t) ∙ ap (R.times k) (sym (taken-weight h j t))
  taken-put_weight h k t = taken-weight h k t

  taken-weight_of : (h : Word → Term V → V) (k : V) (t : Term V) → Over h (weight_of R equal k t) ≡ R.times k (Over h t)
  taken-weight_of h k t = tested h k t (put_weight R equal k t) (taken-put_weight h k t)

  tested_constant : (k : V) (t u : Term V) → constant_of R u ≡ R.times k (constant_of R t) → constant_of R (cond (equal k R.zero) Zero (cond (equal k R.one) t u)) ≡ R.times k (constant_of R t)
  tested_constant k t u r = go (equal k R.zero) (equal k R.one) refl refl
    where
      go : (a b : Bool) → equal k R.zero ≡ a → equal k R.one ≡ b → constant_of R (cond a Zero (cond b t u)) ≡ R.times k (constant_of R t)
      go true b p q = sym (ap (λ x. R.times x (constant_of R t)) ((Q k R.zero).0 p) ∙ zero_times L (constant_of R t))
      go false true p q = sym (ap (λ x. R.times x (constant_of R t)) ((Q k R.one).0 q) ∙ one_times L (constant_of R t))
      go false false p q = r

  constant-put_weight : (k : V) (t : Term V) → constant_of R (put_weight R equal k t) ≡ R.times k (constant_of R t)
  constant-put_weight k Zero = sym (L.times_zero k)
  constant-put_weight k (Weight j t) = tested_constant (R.times k j) t (put_weight R equal (R.times k j) t) (constant-put_weight (R.times k j) t) ∙ L.times_assoc k j (constant_of R t)
  constant-put_weight k t = refl

  constant-weight_of : (k : V) (t : Term V) → constant_of R (weight_of R equal k t) ≡ R.times k (constant_of R t)
  constant-weight_of k t = tested_constant k t (put_weight R equal k t) (constant-put_weight k t)

  -- before a list of factors
  abbrev Then : (Word → Term V → V) → List (Term V) → Word → Term V → V
  Then h l a v = h a (two v (product_of_factors l))

  -- the expansion of a product, at each number of factors
  taken-first : (h : Word → Term V → V) (t : Term V) (l : List (Term V)) → IsBuilt R equal t
      → taken R h (expand_product R equal (MoreTerms t (terms_of l))) ≡ R.plus (taken R (Then h l) (expand R equal t)) (R.times (constant_of R t) (taken R h (expand_product R equal (terms_of l))))
  taken-first h t [] i =
      taken_same h (Then h []) (expand R equal t) (λ e j. ap (h e.label) (sym (two-one L equal Q e.to (entry-form t i e j))))
      ∙ sym (ap (R.plus (taken R (Then h []) (expand R equal t))) (L.times_zero (constant_of R t)) ∙ L.plus_zero (taken R (Then h []) (expand R equal t)))
  taken-first h t (u ∷ us) i =
      let back = cond (equal (constant_of R t) R.zero) [] (scaled_items R (constant_of R t) (expand_product R equal (MoreTerms u (terms_of us)))) in
      ap (λ z. taken R h (collected R equal (mapped (λ v. two v (product_of_factors z)) (expand R equal t) ++ back))) (list_of-terms_of (u ∷ us))
      ∙ I.gathered h (mapped (λ v. two v (product_of_factors (u ∷ us))) (expand R equal t) ++ back)
      ∙ I.joined h (mapped (λ v. two v (product_of_factors (u ∷ us))) (expand R equal t)) back
      ∙ ap₂ R.plus (I.led h (λ v. two v (product_of_factors (u ∷ us))) (expand R equal t)) (I.unless_zero h (constant_of R t) (expand_product R equal (MoreTerms u (terms_of us))))

  taken-append : (h : Word → Term V → V) (l m : List (Term V)) → AreFactors (terms_of l) → AreBuilt l → AreFactors (terms_of m) → AreBuilt m
      → taken R h (expand_product R equal (terms_of (l ++ m))) ≡ R.plus (taken R (Then h m) (expand_product R equal (terms_of l))) (R.times (product_constant R (terms_of l)) (taken R h (expand_product R equal (terms_of m))))
  taken-append h [] m F B G C = sym (zero_plus L _ ∙ one_times L _)
  taken-append h (t ∷ l) m F B G C =
      taken-first h t (l ++ m) B.0
      ∙ ap₂ R.plus
      (taken_same (Then h (l ++ m)) (Then (Then h m) l) (expand R equal t) (λ e j. ap (h e.label)
      (ap (two e.to) (sym (two-products L equal Q l m F.1 G)) ∙ sym (two-assoc L equal Q e.to (product_of_factors l) (product_of_factors m) (entry-form t B.0 e j) (product-form L equal Q l F.1 B.1) (product-form L equal Q m G C)))))
      (ap (R.times (constant_of R t)) (taken-append h l m F.1 B.1 G C))
      ∙ spread (taken R (Then (Then h m) l) (expand R equal t)) (constant_of R t) (taken R (Then h m) (expand_product R equal (terms_of l))) (product_constant R (terms_of l)) (taken R h (expand_product R equal (terms_of m)))
      ∙ ap (λ x. R.plus x (R.times (R.times (constant_of R t) (product_constant R (terms_of l))) (taken R h (expand_product R equal (terms_of m))))) (sym (taken-first (Then h m) t l B.0))
    where
      spread : (a c b d x : V) → R.plus a (R.times c (R.plus b (R.times d x))) ≡ R.plus (R.plus a (R.times c b)) (R.times (R.times c d) x)
      spread a c b d x = ap (R.plus a) (L.times_plus c b (R.times d x) ∙ ap (R.plus (R.times c b)) (sym (L.times_assoc c d x))) ∙ sym (L.plus_assoc a (R.times c b) (R.times (R.times c d) x))

  -- the expansion of a product of two, by its sums
  pub two-expansion : (h : Word → Term V → V) (t : Term V) (m : List (Term V)) → IsBuilt R equal t → AreFactors (terms_of m) → AreBuilt m
      → Over h (two t (product_of_factors m)) ≡ R.plus (Over (Then h m) t) (R.times (constant_of R t) (Over h (product_of_factors m)))
  two-expansion h t m i G C =
      let f = built-form L equal Q t i in
      ap (Over h) (ap₂ two f.is (sym (before-one L equal Q m)) ∙ two-before L equal Q f.weight R.one f.list m f.factors G ∙ ap (λ k. before R equal k (f.list ++ m)) (L.times_one f.weight))
      ∙ taken-weight_of h f.weight (product_of_factors (f.list ++ m))
      ∙ ap (R.times f.weight) (ap (taken R h) (expand-product (f.list ++ m)) ∙ taken-append h f.list m f.factors f.built G C)
      ∙ L.times_plus f.weight (taken R (Then h m) (expand_product R equal (terms_of f.list))) (R.times (product_constant R (terms_of f.list)) (taken R h (expand_product R equal (terms_of m))))
      ∙ ap₂ R.plus
      (sym (ap (Over (Then h m)) f.is ∙ taken-weight_of (Then h m) f.weight (product_of_factors f.list) ∙ ap (R.times f.weight) (ap (taken R (Then h m)) (expand-product f.list))))
      (sym (L.times_assoc f.weight (product_constant R (terms_of f.list)) (taken R h (expand_product R equal (terms_of m))))
      ∙ ap₂ R.times (sym (ap (constant_of R) f.is ∙ constant-weight_of f.weight (product_of_factors f.list) ∙ ap (R.times f.weight) (constant-product f.list))) (ap (taken R h) (sym (expand-product m))))
