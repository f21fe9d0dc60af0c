-- Nodes, whose parts are the places of earlier nodes, and the trees that they stand for.
use Rattle.std.specs.Prelude.{ℕ, ◌<◌, List, [], ◌∷◌, ◌++◌, map, slice_index_or}
use Rattle.vc_model.specs.Words.{Word}
use Rattle.vc_terms.specs.Terms.{Term, terms_of, Zero, One, Atom, Sum, Product, Star, Weight, Both, Shuffle}

-- a node
pub data Row (V : Type 0) : Type 0 where
  ZeroRow : Row V
  OneRow : Row V
  AtomRow : Word → Row V
  SumRow : List ℕ → Row V
  ProductRow : List ℕ → Row V
  StarRow : ℕ → Row V
  WeightRow : V → ℕ → Row V
  BothRow : ℕ → ℕ → Row V
  ShuffleRow : ℕ → ℕ → Row V

-- the tree at a place
abbrev pub tree_at : {V : Type 0} → List (Term V) → ℕ → Term V
tree_at ts i = slice_index_or ts i Zero

-- the tree of a node, where ts are the trees of the earlier ones
abbrev pub tree_of_row : {V : Type 0} → List (Term V) → Row V → Term V
tree_of_row ts ZeroRow = Zero
tree_of_row ts OneRow = One
tree_of_row ts (AtomRow a) = Atom a
tree_of_row ts (SumRow is) = Sum (terms_of (map (tree_at ts) is))
tree_of_row ts (ProductRow is) = Product (terms_of (map (tree_at ts) is))
tree_of_row ts (StarRow i) = Star (tree_at ts i)
tree_of_row ts (WeightRow k i) = Weight k (tree_at ts i)
tree_of_row ts (BothRow i j) = Both (tree_at ts i) (tree_at ts j)
tree_of_row ts (ShuffleRow i j) = Shuffle (tree_at ts i) (tree_at ts j)

-- the trees of nodes, behind the trees ts
unfoldable pub trees_after : {V : Type 0} → List (Term V) → List (Row V) → List (Term V)
trees_after ts [] = ts
trees_after ts (r ∷ rs) = trees_after (ts ++ tree_of_row ts r ∷ []) rs

-- the trees of nodes, each from the trees of the earlier ones
unfoldable pub trees : {V : Type 0} → List (Row V) → List (Term V)
trees rs = trees_after [] rs

-- each of the numbers is below n
abbrev pub AreBelow : ℕ → List ℕ → Type 0
AreBelow n [] = Unit {0}
AreBelow n (i ∷ is) = (i < n) × AreBelow n is

-- the parts of the node are below n
abbrev pub HasPartsBelow : {V : Type 0} → ℕ → Row V → Type 0
HasPartsBelow n ZeroRow = Unit {0}
HasPartsBelow n OneRow = Unit {0}
HasPartsBelow n (AtomRow a) = Unit {0}
HasPartsBelow n (SumRow is) = AreBelow n is
HasPartsBelow n (ProductRow is) = AreBelow n is
HasPartsBelow n (StarRow i) = i < n
HasPartsBelow n (WeightRow k i) = i < n
HasPartsBelow n (BothRow i j) = (i < n) × (j < n)
HasPartsBelow n (ShuffleRow i j) = (i < n) × (j < n)
