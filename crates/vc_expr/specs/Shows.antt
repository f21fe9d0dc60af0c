-- The first level of a tree.
use Rattle.std.specs.Prelude.{◌≡◌, List, All}
use Rattle.vc_model.specs.Words.{Word}
use Rattle.vc_terms.specs.Terms as term
use Rattle.vc_terms.specs.Terms.{Term, terms_of}
use Rattle.vc_expr.specs.Names.{Has, tree_of, trees_of}
use Rattle.vc_expr.specs.declared.node.Node.{Node}
use Rattle.vc_expr.specs.declared.node.Node.TheVariants.{Zero, One, Atom, Sum, Product, Star, Weight, Both, Shuffle}

-- the tree is the operation on the trees of the parts, which are names of the store
abbrev pub Shows : {L S B V : Type 0} → (B → Word) → List (Term V) → Term V → Node L S B V → Type 0
Shows parts s t Zero = t ≡ term.Zero
Shows parts s t One = t ≡ term.One
Shows parts s t (Atom l) = t ≡ term.Atom (parts l.now)
Shows parts s t (Sum es) = (t ≡ term.Sum (terms_of (trees_of s es.now))) × All (Has s) es.now
Shows parts s t (Product es) = (t ≡ term.Product (terms_of (trees_of s es.now))) × All (Has s) es.now
Shows parts s t (Star e) = (t ≡ term.Star (tree_of s e)) × Has s e
Shows parts s t (Weight k e) = (t ≡ term.Weight k (tree_of s e)) × Has s e
Shows parts s t (Both d e) = (t ≡ term.Both (tree_of s d) (tree_of s e)) × Has s d × Has s e
Shows parts s t (Shuffle d e) = (t ≡ term.Shuffle (tree_of s d) (tree_of s e)) × Has s d × Has s e
