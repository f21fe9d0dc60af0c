-- A measure of trees, of which that of a part is smaller than that of the whole.
use Rattle.std.specs.Prelude.{ℕ, ◌+◌}
use Rattle.vc_terms.specs.Terms.{Term, Terms, NoTerms, MoreTerms, Zero, One, Atom, Sum, Product, Star, Weight, Both, Shuffle}

abbrev mutual
  -- of a tree
  pub work_of : {V : Type 0} → Term V → ℕ
  work_of Zero = 0
  work_of One = 0
  work_of (Atom a) = 0
  work_of (Sum ts) = 2 + works_of ts
  work_of (Product ts) = 2 + works_of ts
  work_of (Star t) = 2 + work_of t
  work_of (Weight k t) = 2 + work_of t
  work_of (Both t u) = 2 + (work_of t + work_of u)
  work_of (Shuffle t u) = 2 + (work_of t + work_of u)

  -- of trees together
  pub works_of : {V : Type 0} → Terms V → ℕ
  works_of NoTerms = 0
  works_of (MoreTerms t ts) = work_of t + works_of ts
