-- Derived terms.
use Rattle.std.specs.Prelude.{◌≡◌, ℕ, zero, suc, List, [], ◌∷◌, ◌++◌, map, Bool}
use Rattle.std.specs.List.{flat_map}
use Rattle.vc_model.specs.WeightSet.{WeightSet}
use Rattle.vc_model.specs.Lists.{In}
use Rattle.vc_terms.specs.Terms.{Term, Terms, NoTerms, MoreTerms, list_of, Zero, One, Atom, Sum, Product, Star, Weight, Both, Shuffle}
use Rattle.vc_terms.specs.Identities.{product_of_factors, both_of, shuffle_of}
use Rattle.vc_terms.specs.Expansions.{product_of_two, expand}

-- for each tree of the first list and each of the second, what f makes of them
abbrev pub paired : {V : Type 0} → (Term V → Term V → Term V) → List (Term V) → List (Term V) → List (Term V)
paired f ts us = flat_map (λ t. map (f t) us) ts

abbrev mutual
  -- the derived terms, some of which may be equal
  pub derived_of : {V : Type 0} → WeightSet V → (V → V → Bool) → Term V → List (Term V)
  derived_of R equal Zero = []
  derived_of R equal One = []
  derived_of R equal (Atom a) = One ∷ []
  derived_of R equal (Sum ts) = derived_of_sum R equal ts
  derived_of R equal (Product ts) = derived_of_product R equal ts
  derived_of R equal (Star t) = map (λ v. product_of_two R equal v (Star t)) (derived_of R equal t)
  derived_of R equal (Weight k t) = derived_of R equal t
  derived_of R equal (Both t u) = paired both_of (derived_of R equal t) (derived_of R equal u)
  derived_of R equal (Shuffle t u) =
      paired shuffle_of (derived_of R equal t) (derived_of R equal u)
      ++ (map (λ v. shuffle_of v u) (derived_of R equal t) ++ map (λ v. shuffle_of t v) (derived_of R equal u))

  -- those of all members
  pub derived_of_sum : {V : Type 0} → WeightSet V → (V → V → Bool) → Terms V → List (Term V)
  derived_of_sum R equal NoTerms = []
  derived_of_sum R equal (MoreTerms t ts) = derived_of R equal t ++ derived_of_sum R equal ts

  -- those of the first factor before the product of the others, and those of the others
  pub derived_of_product : {V : Type 0} → WeightSet V → (V → V → Bool) → Terms V → List (Term V)
  derived_of_product R equal NoTerms = []
  derived_of_product R equal (MoreTerms t NoTerms) = derived_of R equal t
  derived_of_product R equal (MoreTerms t (MoreTerms u us)) =
      map (λ v. product_of_two R equal v (product_of_factors (list_of (MoreTerms u us)))) (derived_of R equal t) ++ derived_of_product R equal (MoreTerms u us)

-- the trees that the entries of a tree lead to, in their order
abbrev pub next_terms : {V : Type 0} → WeightSet V → (V → V → Bool) → Term V → List (Term V)
next_terms R equal t = map (λ e. e.to) (expand R equal t)

-- n entries, one behind the other, lead from t to u
abbrev pub Leads : {V : Type 0} → WeightSet V → (V → V → Bool) → ℕ → Term V → Term V → Type 0
Leads R equal zero t u = u ≡ t
Leads {V} R equal (suc n) t u = (v : Term V) × Leads R equal n t v × In u (next_terms R equal v)
