-- There are as many derived terms as the bound says.
use Rattle.std.proofs.Common.{◌≡◌, ℕ, suc, ◌+◌, ◌*◌, ◌-◌, arith, List, [], ◌∷◌, ◌++◌, map, Bool, length, length-append, refl, sym, ap₂, ◌∙◌}
use Rattle.std.proofs.lemmas.List.{length-map}
use Rattle.vc_model.specs.WeightSet.{WeightSet}
use Rattle.vc_terms.specs.Terms.{Term, Terms, NoTerms, MoreTerms, list_of, Zero, One, Atom, Sum, Product, Star, Weight, Both, Shuffle, bound_of, bounds_of}
use Rattle.vc_terms.specs.Identities.{product_of_factors, both_of, shuffle_of}
use Rattle.vc_terms.specs.Expansions.{product_of_two}
use Rattle.vc_terms.specs.DerivedTerms.{paired, derived_of, derived_of_sum, derived_of_product}

length-paired : {V : Type 0} (f : Term V → Term V → Term V) (ts us : List (Term V)) → length (paired f ts us) ≡ length ts * length us
length-paired f [] us = omega arith
length-paired f (t ∷ ts) us =
    let a : length (paired f (t ∷ ts) us) ≡ length us + length ts * length us =
    length-append (map (f t) us) (paired f ts us) ∙ ap₂ (λ m n. m + n) (length-map us (f t)) (length-paired f ts us) in
    let b : suc (length ts) * length us ≡ length us + length ts * length us = omega arith in
    a ∙ sym b

shuffle_number : (b c : ℕ) → b * c + (b + c) ≡ (b + 1) * (c + 1) - 1
shuffle_number b c = let e : (b + 1) * (c + 1) ≡ b * c + (b + c) + 1 = omega arith in omega (arith, e)

module _ {V : Type 0} (R : WeightSet V) (equal : V → V → Bool) where
  mutual
    pub derived-number : (t : Term V) → length (derived_of R equal t) ≡ bound_of t
    derived-number Zero = refl
    derived-number One = refl
    derived-number (Atom a) = refl
    derived-number (Sum ts) = sum-number ts
    derived-number (Product ts) = product-number ts
    derived-number (Star t) = length-map (derived_of R equal t) (λ v. product_of_two R equal v (Star t)) ∙ derived-number t
    derived-number (Weight k t) = derived-number t
    derived-number (Both t u) = length-paired both_of (derived_of R equal t) (derived_of R equal u) ∙ ap₂ (λ m n. m * n) (derived-number t) (derived-number u)
    derived-number (Shuffle t u) =
        length-append (paired shuffle_of (derived_of R equal t) (derived_of R equal u)) (map (λ v. shuffle_of v u) (derived_of R equal t) ++ map (λ v. shuffle_of t v) (derived_of R equal u))
        ∙ ap₂ (λ m n. m + n)
        (length-paired shuffle_of (derived_of R equal t) (derived_of R equal u) ∙ ap₂ (λ m n. m * n) (derived-number t) (derived-number u))
        (length-append (map (λ v. shuffle_of v u) (derived_of R equal t)) (map (λ v. shuffle_of t v) (derived_of R equal u))
        ∙ ap₂ (λ m n. m + n) (length-map (derived_of R equal t) (λ v. shuffle_of v u) ∙ derived-number t) (length-map (derived_of R equal u) (λ v. shuffle_of t v) ∙ derived-number u))
        ∙ shuffle_number (bound_of t) (bound_of u)

    pub sum-number : (ts : Terms V) → length (derived_of_sum R equal ts) ≡ bounds_of ts
    sum-number NoTerms = refl
    sum-number (MoreTerms t ts) = length-append (derived_of R equal t) (derived_of_sum R equal ts) ∙ ap₂ (λ m n. m + n) (derived-number t) (sum-number ts)

    pub product-number : (ts : Terms V) → length (derived_of_product R equal ts) ≡ bounds_of ts
    product-number NoTerms = refl
    product-number (MoreTerms t NoTerms) = derived-number t ∙ sym (last (bound_of t))
      where
        last : (n : ℕ) → n + 0 ≡ n
        last n = omega arith
    product-number (MoreTerms t (MoreTerms u us)) =
        length-append (map (λ v. product_of_two R equal v (product_of_factors (list_of (MoreTerms u us)))) (derived_of R equal t)) (derived_of_product R equal (MoreTerms u us))
        ∙ ap₂ (λ m n. m + n) (length-map (derived_of R equal t) (λ v. product_of_two R equal v (product_of_factors (list_of (MoreTerms u us)))) ∙ derived-number t) (product-number (MoreTerms u us))
