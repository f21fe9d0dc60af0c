-- The steps of the operations: products of weights, and the sums, products and stars of constant terms.
use Rattle.std.specs.Prelude.{List, [], ◌∷◌, ◌++◌, map, Bool, Option, None, Some, Result, if◌then◌else◌}
use Rattle.std.specs.List.{flat_map}
use Rattle.vc_model.specs.WeightSet.{WeightSet}
use Rattle.vc_terms.specs.Terms.{Term, constant_of, Zero, Weight}
use Rattle.vc_ring.specs.Steps.{outcome}
use Rattle.vc_ring.specs.Sums.{sum_steps}
use Rattle.vc_ring.specs.declared.faults.Overflow.{Overflow}
use Rattle.vc_ring.specs.declared.faults.Overflow.TheVariants.{Mul}
use Rattle.vc_terms.specs.Trees.{is_zero, is_one}
use Rattle.vc_terms.specs.Identities.{members_of, any_zero, weights_in, weight_in_front, times_onto, all_factors, product_of_factors}

-- a list of what is there
abbrev pub listed : {X : Type 0} → Option X → List X
listed None = []
listed (Some x) = x ∷ []

-- the constant terms of trees
abbrev pub constants : {V : Type 0} → WeightSet V → List (Term V) → List V
constants R ts = map (constant_of R) ts

-- the products of the list from left to right, onto a
abbrev pub times_steps : {V : Type 0} → WeightSet V → V → List V → List (Overflow V)
times_steps R a [] = []
times_steps R a (x ∷ xs) = Mul a x ∷ times_steps R (R.times a x) xs

-- x where the constant terms of the trees add up, from left to right, else the first sum that does not fit
abbrev pub when_added : {V X : Type 0} → WeightSet V → List (Term V) → X → Result X (Overflow V)
when_added R ts x = outcome R (sum_steps R R.zero (constants R ts)) x

-- x where the product of the constant terms of the trees fits, from left to right, else the first product that does not fit
abbrev pub when_multiplied : {V X : Type 0} → WeightSet V → List (Term V) → X → Result X (Overflow V)
when_multiplied R ts x = outcome R (times_steps R R.one (constants R ts)) x

-- the product of the list from left to right, onto a, or the first product that does not fit
abbrev pub product_from : {V : Type 0} → WeightSet V → V → List V → Result V (Overflow V)
product_from R a xs = outcome R (times_steps R a xs) (times_onto R a xs)

-- of a sum: the constant terms of all members are added
abbrev pub sum_of_steps : {V : Type 0} → WeightSet V → List (Term V) → List (Overflow V)
sum_of_steps R ts = sum_steps R R.zero (constants R (flat_map members_of ts))

-- of k, which is neither zero nor one, before a tree
abbrev pub put_weight_steps : {V : Type 0} → WeightSet V → (V → V → Bool) → V → Term V → List (Overflow V)
put_weight_steps R equal k Zero = []
put_weight_steps R equal k (Weight h t) = Mul k h ∷ (if equal (R.times k h) R.zero then [] else if equal (R.times k h) R.one then [] else put_weight_steps R equal (R.times k h) t)
put_weight_steps R equal k t = Mul k (constant_of R t) ∷ []

-- of a left multiple: k times the weight in front of the tree, and the weight times the constant term
abbrev pub weight_of_steps : {V : Type 0} → WeightSet V → (V → V → Bool) → V → Term V → List (Overflow V)
weight_of_steps R equal k t = if equal k R.zero then [] else if equal k R.one then [] else put_weight_steps R equal k t

-- of a product without a part that is Zero: the weights of the parts are multiplied, then the constant terms of all factors, and then the weight stands before the product of the factors
abbrev pub product_steps : {V : Type 0} → WeightSet V → (V → V → Bool) → List (Term V) → List (Overflow V)
product_steps R equal ts =
    times_steps R R.one (flat_map weights_in ts)
    ++ (times_steps R R.one (constants R (all_factors ts)) ++ weight_of_steps R equal (weight_in_front R ts) (product_of_factors (all_factors ts)))

-- of a product
abbrev pub product_of_steps : {V : Type 0} → WeightSet V → (V → V → Bool) → List (Term V) → List (Overflow V)
product_of_steps R equal ts = if any_zero ts then [] else product_steps R equal ts

-- of a conjunction
abbrev pub both_of_steps : {V : Type 0} → WeightSet V → Term V → Term V → List (Overflow V)
both_of_steps R t u = if is_zero t then [] else if is_zero u then [] else Mul (constant_of R t) (constant_of R u) ∷ []

-- of a shuffle
abbrev pub shuffle_of_steps : {V : Type 0} → WeightSet V → Term V → Term V → List (Overflow V)
shuffle_of_steps R t u = if is_zero t then [] else if is_zero u then [] else if is_one t then [] else if is_one u then [] else Mul (constant_of R t) (constant_of R u) ∷ []
