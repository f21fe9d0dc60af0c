-- Names. Contracts see a store as the list of the trees of its names.
use Rattle.std.specs.Prelude.{◌≡◌, ◌<◌, List, ◌++◌, length, map}
use Rattle.vc_terms.specs.Terms.{Term, Sum, Product, terms_of}
use Rattle.vc_expr.specs.Rows.{tree_at}
use Rattle.vc_expr.specs.declared.expr.Expr.{Expr}

-- e is a name of the store
abbrev pub Has : {V : Type 0} → List (Term V) → Expr → Type 0
Has s e = e.at < length s

-- the tree of a name
abbrev pub tree_of : {V : Type 0} → List (Term V) → Expr → Term V
tree_of s e = tree_at s e.at

-- the trees of names
abbrev pub trees_of : {V : Type 0} → List (Term V) → List Expr → List (Term V)
trees_of s es = map (tree_of s) es

-- the sum of the trees of names, and their product
abbrev pub sum_at : {V : Type 0} → List (Term V) → List Expr → Term V
sum_at s es = Sum (terms_of (trees_of s es))

abbrev pub product_at : {V : Type 0} → List (Term V) → List Expr → Term V
product_at s es = Product (terms_of (trees_of s es))

-- the names of old have their trees in new, and behind them stand more
pub record Grows {V : Type 0} (old new : List (Term V)) : Type 0 where
  pub more : List (Term V)
  pub is : new ≡ old ++ more
