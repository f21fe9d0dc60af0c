-- What building answers, with names of the store.
use Rattle.std.specs.Prelude.{◌≡◌, ℕ, Bool, List, [], ◌∷◌, ◌++◌, Option, Result, Ok, Err, All, IsTrue, ⊤}
use Rattle.std.specs.Option.{is_some}
use Rattle.vc_expr.specs.Names.{Has, tree_of, trees_of}
use Rattle.vc_expr.specs.declared.expr.Expr.{Expr}
use Rattle.vc_expr.specs.declared.fault.ExprFault.{ExprFault}
use Rattle.vc_expr.specs.declared.fault.ExprFault.TheVariants as store
use Rattle.vc_terms.specs.Terms.{Term}
use Rattle.vc_text.specs.Escapes.{inside}
use Rattle.vc_exprio.specs.Building.{unfit, no_star}
use Rattle.vc_exprio.specs.Making.{Progress, made, refused}
use Rattle.vc_exprio.specs.Steps.{Op, weight_op, and_op, shuffle_op}
use Rattle.vc_exprio.specs.declared.fault.TextFault.{TextFault}
use Rattle.vc_exprio.specs.declared.fault.TextFault.TheVariants.{InvalidStar, Overflow, Memory}

-- the refusal of a call of the store
abbrev pub text_fault : {V : Type 0} → ExprFault V → TextFault V
text_fault (store.InvalidStar e c) = InvalidStar e c
text_fault (store.Overflow o) = Overflow o
text_fault (store.Memory e) = Memory e

-- a weight of the weight set with no number past its range, and operators over single letters alone
abbrev pub IsBuildable : {V : Type 0} → (List ℕ → Option V) → (List ℕ → Bool) → Bool → Op → Type 0
IsBuildable spelled fit single (weight_op m) = IsTrue (is_some (spelled (inside m.text))) × IsTrue (fit (inside m.text))
IsBuildable spelled fit single and_op = IsTrue single
IsBuildable spelled fit single shuffle_op = IsTrue single
IsBuildable spelled fit single op = ⊤

abbrev pub AreBuildable : {V : Type 0} → (List ℕ → Option V) → (List ℕ → Bool) → Bool → List Op → Type 0
AreBuildable spelled fit single [] = ⊤
AreBuildable spelled fit single (op ∷ ops) = IsBuildable spelled fit single op × AreBuildable spelled fit single ops

-- the refusal that steps come to, with names of the store; want of memory is free
abbrev pub IsRefusedBy : {V : Type 0} → Progress V → List (Term V) → TextFault V → Type 0
IsRefusedBy p s (InvalidStar e c) = Has s e × (p ≡ refused (no_star (tree_of s e) c))
IsRefusedBy p s (Overflow o) = p ≡ refused (unfit o)
IsRefusedBy p s (Memory e) = ⊤
IsRefusedBy p s fault = ⊥

-- the names of what steps come to
abbrev pub AreMade : {V : Type 0} → Progress V → List (Term V) → List Expr → Result (Unit {0}) (TextFault V) → Type 0
AreMade p s names (Ok u) = All (Has s) names × (p ≡ made (trees_of s names))
AreMade p s names (Err fault) = IsRefusedBy p s fault

-- the name of what steps come to
abbrev pub IsMadeOne : {V : Type 0} → Progress V → List (Term V) → Result Expr (TextFault V) → Type 0
IsMadeOne p s (Ok e) = Has s e × (p ≡ made (tree_of s e ∷ []))
IsMadeOne p s (Err fault) = IsRefusedBy p s fault

-- the name that a call of the store gave stands behind the others, or its refusal is handed on; want of memory is free
abbrev pub IsPut : {V : Type 0} → List Expr → Result Expr (ExprFault V) → List Expr → Result (Unit {0}) (TextFault V) → Type 0
IsPut names (Ok e) others (Ok u) = others ≡ names ++ e ∷ []
IsPut names (Ok e) others (Err (Memory m)) = ⊤
IsPut names (Ok e) others (Err fault) = ⊥
IsPut names (Err fault) others (Ok u) = ⊥
IsPut names (Err fault) others (Err other) = other ≡ text_fault fault
