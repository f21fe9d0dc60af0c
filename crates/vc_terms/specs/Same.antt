-- A test that tells whether two trees are equal, from a test of equality of weights.
use Rattle.std.specs.Prelude.{Bool, true, false, ◌&&◌}
use Rattle.vc_model.specs.Words.{same_word}
use Rattle.vc_terms.specs.Terms.{Term, Terms, NoTerms, MoreTerms, Zero, One, Atom, Sum, Product, Star, Weight, Both, Shuffle}

abbrev mutual
  -- the trees are equal
  pub same_term : {V : Type 0} → (V → V → Bool) → Term V → Term V → Bool
  same_term equal Zero Zero = true
  same_term equal One One = true
  same_term equal (Atom a) (Atom b) = same_word a b
  same_term equal (Sum ts) (Sum us) = same_terms equal ts us
  same_term equal (Product ts) (Product us) = same_terms equal ts us
  same_term equal (Star t) (Star u) = same_term equal t u
  same_term equal (Weight k t) (Weight h u) = equal k h && same_term equal t u
  same_term equal (Both t v) (Both u w) = same_term equal t u && same_term equal v w
  same_term equal (Shuffle t v) (Shuffle u w) = same_term equal t u && same_term equal v w
  same_term equal t u = false

  -- the lists have equal trees in the same order
  pub same_terms : {V : Type 0} → (V → V → Bool) → Terms V → Terms V → Bool
  same_terms equal NoTerms NoTerms = true
  same_terms equal (MoreTerms t ts) (MoreTerms u us) = same_term equal t u && same_terms equal ts us
  same_terms equal ts us = false
