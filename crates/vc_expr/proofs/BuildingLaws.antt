-- What the operations compute of their operands.
use Rattle.std.proofs.Common.{◌≡◌, ◌≤◌, ◌+◌, ◌*◌, ℕ, arith, Bool, true, false, cond, IsTrue, Result, Ok, Err, List, [], ◌∷◌, ◌++◌, length, map, sym, ap, ap₂, ◌∙◌, refl, subst, All}
use Rattle.std.specs.List.{flat_map}
use Rattle.vc_model.specs.WeightSet.{WeightSet, SemiringLaws, RangeLaws}
use Rattle.vc_model.specs.Sums.{sum_onto}
use Rattle.vc_model.specs.OutcomeLaws.{outcome-append_ok, outcome-append_err, outcome-ok}
use Rattle.vc_model.specs.Rearranged.{zero_plus, one_times, times_assoc, times_one, plus_assoc, plus_zero}
use Rattle.vc_terms.specs.Terms.{Term, terms_of, Zero, Sum, Product, Both, constant_of, sum_constant, product_constant, letter_count, letter_counts, bound_of, bounds_of}
use Rattle.vc_ring.specs.Steps.{outcome, fits, multiplied}
use Rattle.vc_ring.specs.Sums.{sum_steps}
use Rattle.vc_ring.specs.declared.faults.Overflow.{Overflow}
use Rattle.vc_ring.specs.declared.faults.Overflow.TheVariants.{Mul, Add}
use Rattle.vc_terms.specs.Trees.{are_basic}
use Rattle.vc_terms.specs.Forms.{AreMembers, AreFactors, AreMany}
use Rattle.vc_terms.specs.Identities.{times_onto, sum_of_members, product_of_factors, any_zero, weights_in, weight_in_front, weight_of, all_factors}
use Rattle.std.specs.Prelude.{slice_index_or}
use Rattle.vc_expr.specs.Answers.{IsMade, weight_answer, product_answer}
use Rattle.vc_expr.specs.Rows.{tree_at}
use Rattle.vc_expr.specs.Nodes.{places}
use Rattle.vc_expr.specs.declared.expr.Expr.{Expr}
use Rattle.vc_expr.specs.declared.fault.ExprFault.{ExprFault}
use Rattle.vc_expr.specs.declared.fault.ExprFault.TheVariants.{InvalidStar, Overflow as Unfit, Memory}
use Rattle.vc_expr.proofs.StoreLaws.{trees_at_places, constant_in}
use Rattle.vc_expr.specs.Facts.{saturated, facts_of, IsStoredRoot, IsStore}
use Rattle.vc_expr.specs.Names.{Has, tree_of, trees_of}
use Rattle.vc_expr.specs.Steps.{constants, times_steps, product_steps, weight_of_steps}
use Rattle.vc_expr.specs.declared.facts.Facts.{Facts}
use Rattle.vc_expr.proofs.Saturated.{saturated_times}

module _ {V : Type 0} (R : WeightSet V) where
  -- a product that fits is the product
  pub times_is : (a b v : V) → Ok v ≡ multiplied R a b → v ≡ R.times a b
  times_is a b v e = go (R.fits_times a b) e
    where
      go : (c : Bool) → ◌≡◌ {A = Result V (Overflow V)} (Ok v) (cond c (Ok (R.times a b)) (Err (Mul a b))) → v ≡ R.times a b
      go true x = cc
      go false x = absurd (cc)

  saturated_plus : (a b x y r : ℕ) → x ≡ saturated a → y ≡ saturated b → r ≡ saturated (x + y) → r ≡ saturated (a + b)
  saturated_plus a b x y r p q e = omega (arith, p, q, e)

  same_facts : (c d : V) (l m b n : ℕ) (x y : Bool) → c ≡ d → l ≡ m → b ≡ n → x ≡ y
      → ◌≡◌ {A = Facts V} (record { constant = c; letters = l; bound = b; basic = x }) (record { constant = d; letters = m; bound = n; basic = y })
  same_facts c d l m b n x y p q r s = cc

  pub both_facts : (t u : Term V) (a b c : V) (l m d e s p : ℕ) → a ≡ constant_of R t → b ≡ constant_of R u → Ok c ≡ multiplied R a b
      → l ≡ saturated (letter_count t) → m ≡ saturated (letter_count u) → d ≡ saturated (bound_of t) → e ≡ saturated (bound_of u) → s ≡ saturated (l + m) → p ≡ saturated (d * e)
      → ◌≡◌ {A = Facts V} (record { constant = c; letters = s; bound = p; basic = false }) (facts_of R (Both t u))
  both_facts t u a b c l m d e s p h i j k n o q v w =
      same_facts c (R.times (constant_of R t) (constant_of R u)) s (saturated (letter_count t + letter_count u)) p (saturated (bound_of t * bound_of u)) false false
      (times_is a b c j ∙ ap₂ R.times h i) (saturated_plus (letter_count t) (letter_count u) l m s k n v) (saturated_times (bound_of t) (bound_of u) d e p o q w) refl

  -- a computation that fits fits for every value, and one that does not fails for every value
  pub fits_any : {X Y : Type 0} (ss : List (Overflow V)) (x u : X) (v : Y) → Ok x ≡ outcome R ss u → outcome R ss v ≡ Ok v
  fits_any {X} {Y} [] x u v h = refl
  fits_any {X} {Y} (s ∷ ss) x u v h = go (fits R s) h (λ k. fits_any ss x u v k)
    where
      go : (b : Bool) → ◌≡◌ {A = Result X (Overflow V)} (Ok x) (cond b (outcome R ss u) (Err s)) → (Ok x ≡ outcome R ss u → outcome R ss v ≡ Ok v) → cond b (outcome R ss v) (Err s) ≡ Ok v
      go true k q = q k
      go false k q = absurd (cc)

  pub fails_any : {X Y : Type 0} (ss : List (Overflow V)) (o : Overflow V) (u : X) (v : Y) → Err o ≡ outcome R ss u → outcome R ss v ≡ Err o
  fails_any {X} {Y} [] o u v h = absurd (cc)
  fails_any {X} {Y} (s ∷ ss) o u v h = go (fits R s) h (λ k. fails_any ss o u v k)
    where
      go : (b : Bool) → ◌≡◌ {A = Result X (Overflow V)} (Err o) (cond b (outcome R ss u) (Err s)) → (Err o ≡ outcome R ss u → outcome R ss v ≡ Err o) → cond b (outcome R ss v) (Err s) ≡ Err o
      go true k q = q k
      go false k q = let e : o ≡ s = cc in ap Err (sym e)

  -- the constant term of a sum and of a product, as they are computed
  module _ (L : SemiringLaws R) where
    sum_from : (a : V) (ts : List (Term V)) → sum_onto R a (constants R ts) ≡ R.plus a (sum_constant R (terms_of ts))
    sum_from a [] = sym (plus_zero L a)
    sum_from a (t ∷ ts) = sum_from (R.plus a (constant_of R t)) ts ∙ plus_assoc L a (constant_of R t) (sum_constant R (terms_of ts))

    times_from : (a : V) (ts : List (Term V)) → times_onto R a (constants R ts) ≡ R.times a (product_constant R (terms_of ts))
    times_from a [] = sym (times_one L a)
    times_from a (t ∷ ts) = times_from (R.times a (constant_of R t)) ts ∙ times_assoc L a (constant_of R t) (product_constant R (terms_of ts))

    pub sum_facts_are : (ts : List (Term V)) (c : V) (l b : ℕ) (x : Bool) → Ok c ≡ outcome R (sum_steps R R.zero (constants R ts)) (sum_onto R R.zero (constants R ts))
        → l ≡ saturated (letter_counts (terms_of ts)) → b ≡ saturated (bounds_of (terms_of ts)) → x ≡ are_basic (terms_of ts)
        → (Ok (record { constant = c; letters = l; bound = b; basic = x }) ≡ outcome R (sum_steps R R.zero (constants R ts)) (facts_of R (Sum (terms_of ts)))) × (c ≡ sum_constant R (terms_of ts))
    sum_facts_are ts c l b x h p q r =
        let v : sum_onto R R.zero (constants R ts) ≡ c = outcome-ok (fits R) (sum_steps R R.zero (constants R ts)) (sum_onto R R.zero (constants R ts)) c (sym h) in
        let d : c ≡ sum_constant R (terms_of ts) = sym v ∙ sum_from R.zero ts ∙ zero_plus L (sum_constant R (terms_of ts)) in
        let f = same_facts c (sum_constant R (terms_of ts)) l (saturated (letter_counts (terms_of ts))) b (saturated (bounds_of (terms_of ts))) x (are_basic (terms_of ts)) d p q r in
        (ap Ok f ∙ sym (fits_any (sum_steps R R.zero (constants R ts)) c (sum_onto R R.zero (constants R ts)) (facts_of R (Sum (terms_of ts))) h), d)

    pub product_facts_are : (ts : List (Term V)) (c : V) (l b : ℕ) (x : Bool) → Ok c ≡ outcome R (times_steps R R.one (constants R ts)) (times_onto R R.one (constants R ts))
        → l ≡ saturated (letter_counts (terms_of ts)) → b ≡ saturated (bounds_of (terms_of ts)) → x ≡ are_basic (terms_of ts)
        → (Ok (record { constant = c; letters = l; bound = b; basic = x }) ≡ outcome R (times_steps R R.one (constants R ts)) (facts_of R (Product (terms_of ts)))) × (c ≡ product_constant R (terms_of ts))
    product_facts_are ts c l b x h p q r =
        let v : times_onto R R.one (constants R ts) ≡ c = outcome-ok (fits R) (times_steps R R.one (constants R ts)) (times_onto R R.one (constants R ts)) c (sym h) in
        let d : c ≡ product_constant R (terms_of ts) = sym v ∙ times_from R.one ts ∙ one_times L (product_constant R (terms_of ts)) in
        let f = same_facts c (product_constant R (terms_of ts)) l (saturated (letter_counts (terms_of ts))) b (saturated (bounds_of (terms_of ts))) x (are_basic (terms_of ts)) d p q r in
        (ap Ok f ∙ sym (fits_any (times_steps R R.one (constants R ts)) c (times_onto R R.one (constants R ts)) (facts_of R (Product (terms_of ts))) h), d)

module _ {V : Type 0} (R : WeightSet V) (equal : V → V → Bool) where
  are_many : (s : List (Term V)) (es : List Expr) → 2 ≤ length es → AreMany (terms_of (trees_of s es))
  are_many s [] h = absurd (omega arith)
  are_many s (e ∷ []) h = absurd (omega arith)
  are_many s (e ∷ d ∷ es) h = tt

  -- the facts and the root of a new sum, and of a new product
  pub sum_is_stored : (s : List (Term V)) (es : List Expr) (f : Facts V) → Ok f ≡ outcome R (sum_steps R R.zero (constants R (trees_of s es))) (facts_of R (Sum (terms_of (trees_of s es))))
      → 2 ≤ length es → AreMembers (terms_of (trees_of s es)) → IsTrue (R.in_range (constant_of R (Sum (terms_of (trees_of s es)))))
      → (f ≡ facts_of R (Sum (terms_of (map (tree_at s) (places es))))) × IsStoredRoot R equal (Sum (terms_of (map (tree_at s) (places es))))
  sum_is_stored s es f h m A i =
      let known : facts_of R (Sum (terms_of (trees_of s es))) ≡ f = outcome-ok (fits R) (sum_steps R R.zero (constants R (trees_of s es))) (facts_of R (Sum (terms_of (trees_of s es)))) f (sym h) in
      let root : IsStoredRoot R equal (Sum (terms_of (trees_of s es))) = record { built = (A, are_many s es m); values = tt; constant = i } in
      (sym known ∙ ap (λ ts. facts_of R (Sum (terms_of ts))) (sym (trees_at_places s es)), subst (λ ts. IsStoredRoot R equal (Sum (terms_of ts))) (sym (trees_at_places s es)) root)

  pub product_is_stored : (s : List (Term V)) (es : List Expr) (f : Facts V) → Ok f ≡ outcome R (times_steps R R.one (constants R (trees_of s es))) (facts_of R (Product (terms_of (trees_of s es))))
      → 2 ≤ length es → AreFactors (terms_of (trees_of s es)) → IsTrue (R.in_range (constant_of R (Product (terms_of (trees_of s es)))))
      → (f ≡ facts_of R (Product (terms_of (map (tree_at s) (places es))))) × IsStoredRoot R equal (Product (terms_of (map (tree_at s) (places es))))
  product_is_stored s es f h m A i =
      let known : facts_of R (Product (terms_of (trees_of s es))) ≡ f = outcome-ok (fits R) (times_steps R R.one (constants R (trees_of s es))) (facts_of R (Product (terms_of (trees_of s es)))) f (sym h) in
      let root : IsStoredRoot R equal (Product (terms_of (trees_of s es))) = record { built = (A, are_many s es m); values = tt; constant = i } in
      (sym known ∙ ap (λ ts. facts_of R (Product (terms_of ts))) (sym (trees_at_places s es)), subst (λ ts. IsStoredRoot R equal (Product (terms_of ts))) (sym (trees_at_places s es)) root)

  -- one member is the sum, and one factor the product
  pub one_member : RangeLaws R → (s : List (Term V)) (es : List Expr) (e : Expr) → length es ≡ 1 → e ≡ slice_index_or es 0 e → All (Has s) es → IsStore R equal s
      → Has s e × (outcome R (sum_steps R R.zero (constants R (trees_of s es))) (sum_of_members (trees_of s es)) ≡ Ok (tree_of s e))
  one_member G s [] e l i h S = absurd (omega arith)
  one_member G s (d ∷ []) e l i h S =
      let k : Has s d = h 0 d (omega arith) in
      let p : R.fits_plus R.zero (constant_of R (tree_of s d)) ≡ true = G.zero_plus_fits (constant_of R (tree_of s d)) (constant_in R equal s d S k) in
      subst (λ x. Has s x × (outcome R (sum_steps R R.zero (constants R (trees_of s (d ∷ [])))) (sum_of_members (trees_of s (d ∷ []))) ≡ Ok (tree_of s x))) (sym i)
      (k, ap (λ b. cond b (Ok (tree_of s d)) (Err (Add R.zero (constant_of R (tree_of s d))))) p)
  one_member G s (d ∷ c ∷ es) e l i h S = absurd (omega arith)

  pub one_factor : RangeLaws R → (s : List (Term V)) (es : List Expr) (e : Expr) → length es ≡ 1 → e ≡ slice_index_or es 0 e → All (Has s) es → IsStore R equal s
      → Has s e × (outcome R (times_steps R R.one (constants R (trees_of s es))) (product_of_factors (trees_of s es)) ≡ Ok (tree_of s e))
  one_factor G s [] e l i h S = absurd (omega arith)
  one_factor G s (d ∷ []) e l i h S =
      let k : Has s d = h 0 d (omega arith) in
      let p : R.fits_times R.one (constant_of R (tree_of s d)) ≡ true = G.one_times_fits (constant_of R (tree_of s d)) (constant_in R equal s d S k) in
      subst (λ x. Has s x × (outcome R (times_steps R R.one (constants R (trees_of s (d ∷ [])))) (product_of_factors (trees_of s (d ∷ []))) ≡ Ok (tree_of s x))) (sym i)
      (k, ap (λ b. cond b (Ok (tree_of s d)) (Err (Mul R.one (constant_of R (tree_of s d))))) p)
  one_factor G s (d ∷ c ∷ es) e l i h S = absurd (omega arith)

  -- what a product comes to, part by part
  -- where no part is Zero, all steps count
  no_zero : (ts : List (Term V)) → any_zero ts ≡ false
      → product_answer R equal ts ≡ outcome R (product_steps R equal ts) (weight_of R equal (weight_in_front R ts) (product_of_factors (all_factors ts)))
  no_zero ts z = ap (λ b. outcome R (cond b [] (product_steps R equal ts)) (cond b Zero (weight_of R equal (weight_in_front R ts) (product_of_factors (all_factors ts))))) z

  pub weights_fail : (ts : List (Term V)) (o : Overflow V) → any_zero ts ≡ false → Err o ≡ outcome R (times_steps R R.one (flat_map weights_in ts)) (weight_in_front R ts) → product_answer R equal ts ≡ Err o
  weights_fail ts o z h =
      no_zero ts z
      ∙ outcome-append_err (fits R) (times_steps R R.one (flat_map weights_in ts)) (times_steps R R.one (constants R (all_factors ts)) ++ weight_of_steps R equal (weight_in_front R ts) (product_of_factors (all_factors ts)))
      (weight_in_front R ts) (weight_of R equal (weight_in_front R ts) (product_of_factors (all_factors ts))) o (sym h)

  weights_pass : (ts : List (Term V)) (k : V) → any_zero ts ≡ false → Ok k ≡ outcome R (times_steps R R.one (flat_map weights_in ts)) (weight_in_front R ts)
      → (k ≡ weight_in_front R ts) × (product_answer R equal ts ≡ outcome R (times_steps R R.one (constants R (all_factors ts)) ++ weight_of_steps R equal (weight_in_front R ts) (product_of_factors (all_factors ts)))
      (weight_of R equal (weight_in_front R ts) (product_of_factors (all_factors ts))))
  weights_pass ts k z h =
      let v : weight_in_front R ts ≡ k = outcome-ok (fits R) (times_steps R R.one (flat_map weights_in ts)) (weight_in_front R ts) k (sym h) in (
        sym v,
        no_zero ts z
            ∙ outcome-append_ok (fits R) (times_steps R R.one (flat_map weights_in ts)) (times_steps R R.one (constants R (all_factors ts)) ++ weight_of_steps R equal (weight_in_front R ts) (product_of_factors (all_factors ts)))
            (weight_in_front R ts) (weight_of R equal (weight_in_front R ts) (product_of_factors (all_factors ts))) (sym h ∙ ap Ok (sym v)),
      )

  pub factors_fail : (ts fs : List (Term V)) (k : V) (o : Overflow V) → any_zero ts ≡ false → Ok k ≡ outcome R (times_steps R R.one (flat_map weights_in ts)) (weight_in_front R ts) → fs ≡ all_factors ts
      → outcome R (times_steps R R.one (constants R fs)) (product_of_factors fs) ≡ Err o → product_answer R equal ts ≡ Err o
  factors_fail ts fs k o z h e f =
      (weights_pass ts k z h).1
      ∙ outcome-append_err (fits R) (times_steps R R.one (constants R (all_factors ts))) (weight_of_steps R equal (weight_in_front R ts) (product_of_factors (all_factors ts)))
      (product_of_factors (all_factors ts)) (weight_of R equal (weight_in_front R ts) (product_of_factors (all_factors ts))) o
      (subst (λ xs. outcome R (times_steps R R.one (constants R xs)) (product_of_factors xs) ≡ Err o) e f)

  pub factors_pass : (ts fs : List (Term V)) (k : V) (u : Term V) → any_zero ts ≡ false → Ok k ≡ outcome R (times_steps R R.one (flat_map weights_in ts)) (weight_in_front R ts) → fs ≡ all_factors ts
      → outcome R (times_steps R R.one (constants R fs)) (product_of_factors fs) ≡ Ok u → weight_answer R equal k u ≡ product_answer R equal ts
  factors_pass ts fs k u z h e f =
      let p = weights_pass ts k z h in
      let g : outcome R (times_steps R R.one (constants R (all_factors ts))) (product_of_factors (all_factors ts)) ≡ Ok u = subst (λ xs. outcome R (times_steps R R.one (constants R xs)) (product_of_factors xs) ≡ Ok u) e f in
      let v : product_of_factors (all_factors ts) ≡ u = outcome-ok (fits R) (times_steps R R.one (constants R (all_factors ts))) (product_of_factors (all_factors ts)) u g in
      ap₂ (weight_answer R equal) p.0 (sym v)
      ∙ sym (p.1 ∙ outcome-append_ok (fits R) (times_steps R R.one (constants R (all_factors ts))) (weight_of_steps R equal (weight_in_front R ts) (product_of_factors (all_factors ts)))
      (product_of_factors (all_factors ts)) (weight_of R equal (weight_in_front R ts) (product_of_factors (all_factors ts))) (g ∙ ap Ok (sym v)))

-- a refusal that stays one
pub refused_on : {V : Type 0} (s n : List (Term V)) (a b : Result (Term V) (Overflow V)) (f : ExprFault V) → ((o : Overflow V) → a ≡ Err o → b ≡ Err o) → IsMade s a (Err f) → IsMade n b (Err f)
refused_on s n a b (Unfit o) h i = h o i
refused_on s n a b (InvalidStar d c) h i = i
refused_on s n a b (Memory e) h i = tt
