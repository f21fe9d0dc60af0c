-- What is told of a tree: which are Zero or One, and whether a tree is basic.
use Rattle.std.specs.Prelude.{Bool, true, false, ◌&&◌}
use Rattle.vc_terms.specs.Terms.{Term, Terms, NoTerms, MoreTerms, Zero, One, Atom, Sum, Product, Star, Weight, Both, Shuffle}

-- the tree is Zero
abbrev pub is_zero : {V : Type 0} → Term V → Bool
is_zero Zero = true
is_zero t = false

-- the tree is One
abbrev pub is_one : {V : Type 0} → Term V → Bool
is_one One = true
is_one t = false

abbrev mutual
  -- neither a conjunction nor a shuffle stands in the tree
  pub is_basic : {V : Type 0} → Term V → Bool
  is_basic Zero = true
  is_basic One = true
  is_basic (Atom a) = true
  is_basic (Sum ts) = are_basic ts
  is_basic (Product ts) = are_basic ts
  is_basic (Star t) = is_basic t
  is_basic (Weight k t) = is_basic t
  is_basic (Both t u) = false
  is_basic (Shuffle t u) = false

  -- in each of the trees
  pub are_basic : {V : Type 0} → Terms V → Bool
  are_basic NoTerms = true
  are_basic (MoreTerms t ts) = is_basic t && are_basic ts
