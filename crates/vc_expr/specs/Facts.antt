-- What a store keeps of each tree, and what is true of its trees.
use Rattle.std.specs.Prelude.{◌≡◌, ℕ, ◌+◌, ◌-◌, ◌^◌, min, Bool, IsTrue, List, [], ◌∷◌, map}
use Rattle.vc_model.specs.WeightSet.{WeightSet}
use Rattle.vc_model.specs.Lists.{NoRepeat}
use Rattle.vc_model.specs.Words.{IsLetter}
use Rattle.vc_terms.specs.Terms.{Term, terms_of, constant_of, letter_count, bound_of, Atom, Star, Weight, Both, Shuffle}
use Rattle.vc_terms.specs.Trees.{is_basic}
use Rattle.vc_terms.specs.Forms.{IsBuiltRoot, EverywhereIn}
use Rattle.vc_expr.specs.Rows.{Row, HasPartsBelow, trees}
use Rattle.vc_expr.specs.declared.facts.Facts.{Facts}

-- the number, or 2^64 - 1 where it is larger
abbrev pub saturated : ℕ → ℕ
saturated n = min n (2 ^ 64 - 1)

-- the facts of a tree
abbrev pub facts_of : {V : Type 0} → WeightSet V → Term V → Facts V
facts_of R t = record {
  constant = constant_of R t;
  letters = saturated (letter_count t);
  bound = saturated (bound_of t);
  basic = is_basic t;
}

-- a star at the root has an operand whose constant term has a star, and a weight at the root is in range
abbrev pub HasRootValues : {V : Type 0} → WeightSet V → Term V → Type 0
HasRootValues R (Star t) = IsTrue (R.has_star (constant_of R t))
HasRootValues R (Weight k t) = IsTrue (R.in_range k)
HasRootValues R t = Unit {0}

-- the root is as the operations build it, of values, and the constant term is a value
pub record IsStoredRoot {V : Type 0} (R : WeightSet V) (equal : V → V → Bool) (t : Term V) : Type 0 where
  pub built : IsBuiltRoot R equal t
  pub values : HasRootValues R t
  pub constant : IsTrue (R.in_range (constant_of R t))

-- where labels are single letters, a label at the root is one, and there alone stands a conjunction or a shuffle
abbrev pub HasRootLetters : {V : Type 0} → Bool → Term V → Type 0
HasRootLetters single (Atom a) = IsTrue single → IsLetter a
HasRootLetters single (Both t u) = IsTrue single
HasRootLetters single (Shuffle t u) = IsTrue single
HasRootLetters single t = Unit {0}

-- no tree stands twice, and all are such everywhere
pub record IsStore {V : Type 0} (R : WeightSet V) (equal : V → V → Bool) (s : List (Term V)) : Type 0 where
  pub once : NoRepeat s
  pub stored : EverywhereIn (IsStoredRoot R equal) (terms_of s)

-- the parts of each node stand before it, where n nodes stand before the first
abbrev pub AreEarlier : {V : Type 0} → ℕ → List (Row V) → Type 0
AreEarlier n [] = Unit {0}
AreEarlier n (r ∷ rs) = HasPartsBelow n r × AreEarlier (n + 1) rs

-- the nodes with their facts make a store
pub record IsPool {V : Type 0} (R : WeightSet V) (equal : V → V → Bool) (rows : List (Row V)) (facts : List (Facts V)) : Type 0 where
  pub earlier : AreEarlier 0 rows
  pub known : facts ≡ map (facts_of R) (trees rows)
  pub store : IsStore R equal (trees rows)

-- the nodes with their facts are those of a store, whose conjunctions and shuffles join single letters
pub record AreNodes {V : Type 0} (R : WeightSet V) (equal : V → V → Bool) (single : Bool) (rows : List (Row V)) (facts : List (Facts V)) : Type 0 where
  pub pool : IsPool R equal rows facts
  pub letters : EverywhereIn (HasRootLetters single) (terms_of (trees rows))
