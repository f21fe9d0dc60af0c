-- Stores that have grown, and valid trees.
use Rattle.std.proofs.Common.{◌≡◌, ℕ, arith, IsTrue, Bool, List, [], ◌++◌, length-append, sym, ap, ◌∙◌, subst, append_assoc}
use Rattle.std.proofs.lemmas.List.{append-nil}
use Rattle.std.proofs.Math.ListN.{get_or-append}
use Rattle.vc_model.specs.WeightSet.{WeightSet}
use Rattle.vc_model.specs.Words.{empty_word}
use Rattle.vc_terms.specs.Terms.{Term, Terms, NoTerms, MoreTerms, Zero, One, Atom, Sum, Product, Star, Weight, Both, Shuffle, coefficient_of, constant_of, HasTapes, HaveTapes, IsValid, AreValid}
use Rattle.vc_terms.specs.Forms.{Everywhere, EverywhereIn}
use Rattle.vc_expr.specs.Facts.{IsStoredRoot}
use Rattle.vc_expr.specs.Names.{Has, tree_of, Grows}
use Rattle.vc_expr.specs.declared.expr.Expr.{Expr}

module _ {V : Type 0} where
  pub grown_has : (old new : List (Term V)) (e : Expr) → Grows old new → Has old e → Has new e
  grown_has old new e G h = subst (λ s. Has s e) (sym G.is) (omega (arith, length-append old G.more, h))

  pub grown_tree : (old new : List (Term V)) (e : Expr) → Grows old new → Has old e → tree_of new e ≡ tree_of old e
  grown_tree old new e G h = ap (λ s. tree_of s e) G.is ∙ get_or-append old G.more Zero e.at h

  pub grown_self : (old : List (Term V)) → Grows old old
  grown_self old = record { more = []; is = sym (append-nil old) }

  pub grown_on : (old middle new : List (Term V)) → Grows old middle → Grows middle new → Grows old new
  grown_on old middle new G H = record { more = G.more ++ H.more; is = H.is ∙ ap (λ s. s ++ H.more) G.is ∙ append_assoc old G.more H.more }

module _ {V : Type 0} (R : WeightSet V) (equal : V → V → Bool) (tapes : ℕ) (K : (t : Term V) → HasTapes tapes t → coefficient_of R t (empty_word tapes) ≡ constant_of R t) where
  mutual
    -- where each star's operand has a constant term with a star, the tree is valid
    pub valid_tree : (t : Term V) → Everywhere (IsStoredRoot R equal) t → HasTapes tapes t → IsValid R tapes t
    valid_tree Zero i h = tt
    valid_tree One i h = tt
    valid_tree (Atom a) i h = tt
    valid_tree (Sum ts) i h = valid_trees ts i.1 h
    valid_tree (Product ts) i h = valid_trees ts i.1 h
    valid_tree (Star t) i h = (valid_tree t i.1 h, subst (λ c. IsTrue (R.has_star c)) (sym (K t h)) i.0.values)
    valid_tree (Weight k t) i h = valid_tree t i.1 h
    valid_tree (Both t u) i h = (valid_tree t i.1 h.0, valid_tree u i.2 h.1)
    valid_tree (Shuffle t u) i h = (valid_tree t i.1 h.1, valid_tree u i.2 h.2)

    valid_trees : (ts : Terms V) → EverywhereIn (IsStoredRoot R equal) ts → HaveTapes tapes ts → AreValid R tapes ts
    valid_trees NoTerms i h = tt
    valid_trees (MoreTerms t ts) i h = (valid_tree t i.0 h.0, valid_trees ts i.1 h.1)
