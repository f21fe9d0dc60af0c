-- The expression that a tree of the code stands for.
use Rattle.vc_model.specs.Words.{Word}
use Rattle.vc_terms.specs.Terms as term
use Rattle.vc_terms.specs.Terms.{Term, terms_of}
use Rattle.vc_series.specs.declared.tree.Tree.{Tree, fold-Tree}
use Rattle.vc_series.specs.declared.tree.Tree.TheOpen.{Tree-F, Zero, One, Atom, Sum, Product, Star, Weight, Both, Shuffle}

-- one level, where the parts are what they stand for
abbrev pub term_step : {L S B V : Type 0} → (B → Word) → Tree-F L S B V (Term V) → Term V
term_step parts Zero = term.Zero
term_step parts One = term.One
term_step parts (Atom l) = term.Atom (parts l)
term_step parts (Sum v) = term.Sum (terms_of v.items)
term_step parts (Product v) = term.Product (terms_of v.items)
term_step parts (Star b) = term.Star b.value
term_step parts (Weight k b) = term.Weight k b.value
term_step parts (Both a b) = term.Both a.value b.value
term_step parts (Shuffle a b) = term.Shuffle a.value b.value

-- the expression, with the word of each label
abbrev pub term_of : {L S B V : Type 0} → (B → Word) → Tree L S B V → Term V
term_of {L} {S} {B} {V} parts = fold-Tree L S B V (Term V) (term_step parts)
