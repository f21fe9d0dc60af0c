-- The identities: the tree that each operation builds of trees.
use Rattle.std.specs.Prelude.{List, [], ◌∷◌, Bool, true, false, if◌then◌else◌}
use Rattle.std.specs.List.{flat_map}
use Rattle.vc_model.specs.WeightSet.{WeightSet}
use Rattle.vc_model.specs.Words.{Word, is_empty}
use Rattle.vc_terms.specs.Terms.{Term, Terms, NoTerms, MoreTerms, terms_of, list_of, Zero, One, Atom, Sum, Product, Star, Weight, Both, Shuffle}
use Rattle.vc_terms.specs.Trees.{is_zero, is_one}

-- One for the empty word, and else the atom
abbrev pub atom_of : {V : Type 0} → Word → Term V
atom_of a = if is_empty a then One else Atom a

-- the members that a part brings into a sum: those of a sum, none for Zero, and else the part
abbrev pub members_of : {V : Type 0} → Term V → List (Term V)
members_of Zero = []
members_of (Sum ts) = list_of ts
members_of t = t ∷ []

-- the sum of members: Zero for none, and one is itself
abbrev pub sum_of_members : {V : Type 0} → List (Term V) → Term V
sum_of_members [] = Zero
sum_of_members (t ∷ []) = t
sum_of_members (t ∷ u ∷ us) = Sum (terms_of (t ∷ u ∷ us))

-- the sum of parts
abbrev pub sum_of : {V : Type 0} → List (Term V) → Term V
sum_of ts = sum_of_members (flat_map members_of ts)

-- k, which is neither zero nor one, before a tree; a weight in front of the tree is multiplied
abbrev pub put_weight : {V : Type 0} → WeightSet V → (V → V → Bool) → V → Term V → Term V
put_weight R equal k Zero = Zero
put_weight R equal k (Weight h t) = if equal (R.times k h) R.zero then Zero else if equal (R.times k h) R.one then t else put_weight R equal (R.times k h) t
put_weight R equal k t = Weight k t

-- the left multiple of a tree: Zero where k is zero or the tree is Zero, and the tree where k is one
abbrev pub weight_of : {V : Type 0} → WeightSet V → (V → V → Bool) → V → Term V → Term V
weight_of R equal k t = if equal k R.zero then Zero else if equal k R.one then t else put_weight R equal k t

-- some tree is Zero
abbrev pub any_zero : {V : Type 0} → List (Term V) → Bool
any_zero [] = false
any_zero (t ∷ ts) = if is_zero t then true else any_zero ts

-- the weights that a part brings into a product: that in front of it, where one stands there
abbrev pub weights_in : {V : Type 0} → Term V → List V
weights_in (Weight k t) = k ∷ []
weights_in t = []

-- a part without the weight in front of it
abbrev pub unweighted : {V : Type 0} → Term V → Term V
unweighted (Weight k t) = t
unweighted t = t

-- the factors that a part without weight brings into a product: those of a product, none for One, and else the part
abbrev pub factors_of : {V : Type 0} → Term V → List (Term V)
factors_of One = []
factors_of (Product ts) = list_of ts
factors_of t = t ∷ []

-- the product of factors: One for none, and one is itself
abbrev pub product_of_factors : {V : Type 0} → List (Term V) → Term V
product_of_factors [] = One
product_of_factors (t ∷ []) = t
product_of_factors (t ∷ u ∷ us) = Product (terms_of (t ∷ u ∷ us))

-- the product of elements from left to right, onto a
abbrev pub times_onto : {V : Type 0} → WeightSet V → V → List V → V
times_onto R a [] = a
times_onto R a (k ∷ ks) = times_onto R (R.times a k) ks

-- the weight in front of the product of parts
abbrev pub weight_in_front : {V : Type 0} → WeightSet V → List (Term V) → V
weight_in_front R ts = times_onto R R.one (flat_map weights_in ts)

-- the factors of the product of parts
abbrev pub all_factors : {V : Type 0} → List (Term V) → List (Term V)
all_factors ts = flat_map (λ t. factors_of (unweighted t)) ts

-- the product of parts: Zero where a part is, and else the product of the weights before the product of the factors
abbrev pub product_of : {V : Type 0} → WeightSet V → (V → V → Bool) → List (Term V) → Term V
product_of R equal ts = if any_zero ts then Zero else weight_of R equal (weight_in_front R ts) (product_of_factors (all_factors ts))

-- the conjunction: Zero where an operand is
abbrev pub both_of : {V : Type 0} → Term V → Term V → Term V
both_of t u = if is_zero t then Zero else if is_zero u then Zero else Both t u

-- the shuffle: Zero where an operand is, and the other operand where one is One
abbrev pub shuffle_of : {V : Type 0} → Term V → Term V → Term V
shuffle_of t u = if is_zero t then Zero else if is_zero u then Zero else if is_one t then u else if is_one u then t else Shuffle t u

-- the star: One of Zero
abbrev pub star_of : {V : Type 0} → Term V → Term V
star_of t = if is_zero t then One else Star t

abbrev mutual
  -- the tree that the operations build of a raw tree, parts before the whole
  pub built_of : {V : Type 0} → WeightSet V → (V → V → Bool) → Term V → Term V
  built_of R equal Zero = Zero
  built_of R equal One = One
  built_of R equal (Atom a) = atom_of a
  built_of R equal (Sum ts) = sum_of (built_all R equal ts)
  built_of R equal (Product ts) = product_of R equal (built_all R equal ts)
  built_of R equal (Star t) = star_of (built_of R equal t)
  built_of R equal (Weight k t) = weight_of R equal k (built_of R equal t)
  built_of R equal (Both t u) = both_of (built_of R equal t) (built_of R equal u)
  built_of R equal (Shuffle t u) = shuffle_of (built_of R equal t) (built_of R equal u)

  -- of each of the trees
  pub built_all : {V : Type 0} → WeightSet V → (V → V → Bool) → Terms V → List (Term V)
  built_all R equal NoTerms = []
  built_all R equal (MoreTerms t ts) = built_of R equal t ∷ built_all R equal ts
