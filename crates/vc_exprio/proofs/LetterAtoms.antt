-- The atoms of the letters of a class.
use Rattle.std.proofs.Common.{◌≡◌, ◌++◌, ◌∷◌, [], List, Ok, Result, ap, ap₂, append_assoc, ◌∙◌, ℕ, All}
use Rattle.vc_expr.specs.Names.{Has, tree_of, trees_of, Grows}
use Rattle.vc_expr.specs.declared.expr.Expr.{Expr}
use Rattle.vc_ring.specs.declared.faults.Overflow.{Overflow}
use Rattle.vc_terms.specs.Identities.{atom_of}
use Rattle.vc_terms.specs.Terms.{Term}
use Rattle.vc_exprio.specs.Building.{atoms_of}
use Rattle.vc_exprio.proofs.StackNames.{trees_kept, trees_append}

-- one more atom, and the atoms of the letters that are left
pub atom_more : {V : Type 0} (old new : List (Term V)) (names : List Expr) (e : Expr) (x : ℕ) (left xs : List ℕ) → Grows old new → All (Has old) names
    → ◌≡◌ {A = Result (Term V) (Overflow V)} (Ok (atom_of ((x ∷ []) ∷ []))) (Ok (tree_of new e))
    → trees_of old names ++ atoms_of (x ∷ left) ≡ atoms_of xs → trees_of new (names ++ e ∷ []) ++ atoms_of left ≡ atoms_of xs
atom_more old new names e x left xs G h m i =
    let t : tree_of new e ≡ atom_of ((x ∷ []) ∷ []) = cc in
    ap (λ ts. ts ++ atoms_of left) (trees_append new names (e ∷ []) ∙ ap₂ (λ ts u. ts ++ u ∷ []) (trees_kept old new names G h) t)
    ∙ append_assoc (trees_of old names) (atom_of ((x ∷ []) ∷ []) ∷ []) (atoms_of left) ∙ i
