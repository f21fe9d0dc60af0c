-- The expression of a tree, one equation for each variant with parts.
use Rattle.std.proofs.Common.{◌≡◌, map, Vec, Box, Global, sym, ap, ◌∙◌}
use Rattle.vc_model.specs.Words.{Word}
use Rattle.vc_terms.specs.Terms as term
use Rattle.vc_terms.specs.Terms.{Term, terms_of}
use Rattle.vc_series.specs.Trees.{term_of, term_step}
use Rattle.vc_series.specs.declared.tree.Tree.{Tree, Tree-F, fold-roll-Tree}
use Rattle.vc_series.specs.declared.tree.Tree.TheVariants.{Sum, Product, Star, Weight, Both, Shuffle, rolls-Sum, rolls-Product, rolls-Star, rolls-Weight, rolls-Both, rolls-Shuffle}

module _ {L S B V : Type 0} (parts : B → Word) where
  pub term_of-Sum : (ts : Vec (Tree L S B V) Global) → term_of parts (Sum ts) ≡ term.Sum (terms_of (map (term_of parts) ts.items))
  term_of-Sum ts = ap (term_of parts) (sym (rolls-Sum ts)) ∙ fold-roll-Tree L S B V (Term V) (term_step parts) (Tree-F.Sum ts)

  pub term_of-Product : (ts : Vec (Tree L S B V) Global) → term_of parts (Product ts) ≡ term.Product (terms_of (map (term_of parts) ts.items))
  term_of-Product ts = ap (term_of parts) (sym (rolls-Product ts)) ∙ fold-roll-Tree L S B V (Term V) (term_step parts) (Tree-F.Product ts)

  pub term_of-Star : (t : Box (Tree L S B V) Global) → term_of parts (Star t) ≡ term.Star (term_of parts t.value)
  term_of-Star t = ap (term_of parts) (sym (rolls-Star t)) ∙ fold-roll-Tree L S B V (Term V) (term_step parts) (Tree-F.Star t)

  pub term_of-Weight : (k : V) (t : Box (Tree L S B V) Global) → term_of parts (Weight k t) ≡ term.Weight k (term_of parts t.value)
  term_of-Weight k t = ap (term_of parts) (sym (rolls-Weight k t)) ∙ fold-roll-Tree L S B V (Term V) (term_step parts) (Tree-F.Weight k t)

  pub term_of-Both : (t u : Box (Tree L S B V) Global) → term_of parts (Both t u) ≡ term.Both (term_of parts t.value) (term_of parts u.value)
  term_of-Both t u = ap (term_of parts) (sym (rolls-Both t u)) ∙ fold-roll-Tree L S B V (Term V) (term_step parts) (Tree-F.Both t u)

  pub term_of-Shuffle : (t u : Box (Tree L S B V) Global) → term_of parts (Shuffle t u) ≡ term.Shuffle (term_of parts t.value) (term_of parts u.value)
  term_of-Shuffle t u = ap (term_of parts) (sym (rolls-Shuffle t u)) ∙ fold-roll-Tree L S B V (Term V) (term_step parts) (Tree-F.Shuffle t u)
