-- How many triples the standard construction names.
use Rattle.std.specs.Prelude.{◌⊎◌, ◌<◌, ℕ, Bool}
use Rattle.vc_model.specs.WeightSet.{WeightSet}
use Rattle.vc_terms.specs.Terms.{Term, Terms, NoTerms, MoreTerms, Zero, One, Atom, Sum, Product, Star, Weight, Both, Shuffle}
use Rattle.vc_standard.specs.Automata.{states_of}
use Rattle.vc_standard.specs.Counts.{moves_in}
use Rattle.vc_standard.specs.Structures.{Standard, standard_of}

-- the structure has more than n transitions
abbrev pub IsLarge : {V : Type 0} → ℕ → Standard V → Type 0
IsLarge n A = n < moves_in (states_of A)

abbrev mutual
  -- the structure of the tree, or that of a tree that stands in it, has more than n transitions
  pub NamesMore : {V : Type 0} → WeightSet V → (V → V → Bool) → ℕ → Term V → Type 0
  NamesMore R equal n Zero = ⊥
  NamesMore R equal n One = ⊥
  NamesMore R equal n (Atom a) = n < 1
  NamesMore R equal n (Sum ts) = IsLarge n (standard_of R equal (Sum ts)) ⊎ OneNamesMore R equal n ts
  NamesMore R equal n (Product ts) = IsLarge n (standard_of R equal (Product ts)) ⊎ OneNamesMore R equal n ts
  NamesMore R equal n (Star t) = IsLarge n (standard_of R equal (Star t)) ⊎ NamesMore R equal n t
  NamesMore R equal n (Weight k t) = IsLarge n (standard_of R equal (Weight k t)) ⊎ NamesMore R equal n t
  NamesMore R equal n (Both t u) = IsLarge n (standard_of R equal (Both t u)) ⊎ (NamesMore R equal n t ⊎ NamesMore R equal n u)
  NamesMore R equal n (Shuffle t u) = IsLarge n (standard_of R equal (Shuffle t u)) ⊎ (NamesMore R equal n t ⊎ NamesMore R equal n u)

  -- one of the trees does
  pub OneNamesMore : {V : Type 0} → WeightSet V → (V → V → Bool) → ℕ → Terms V → Type 0
  OneNamesMore R equal n NoTerms = ⊥
  OneNamesMore R equal n (MoreTerms t ts) = NamesMore R equal n t ⊎ OneNamesMore R equal n ts
