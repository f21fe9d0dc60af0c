-- What the operations answer: the tree of the identities, or the first step that does not fit.
use Rattle.std.specs.Prelude.{◌≡◌, List, Bool, Result, Ok, Err, if◌then◌else◌}
use Rattle.vc_model.specs.WeightSet.{WeightSet}
use Rattle.vc_terms.specs.Terms.{Term, constant_of, One, Star}
use Rattle.vc_ring.specs.Steps.{outcome}
use Rattle.vc_ring.specs.declared.faults.Overflow.{Overflow}
use Rattle.vc_ring.specs.declared.faults.Overflow.TheVariants.{Star as StarStep}
use Rattle.vc_ring.specs.declared.faults.StarFault.{StarFault}
use Rattle.vc_ring.specs.declared.faults.StarFault.TheVariants.{NoStar, Overflow as UnfitStar}
use Rattle.vc_terms.specs.Trees.{is_zero}
use Rattle.vc_terms.specs.Identities.{sum_of, product_of, weight_of, both_of, shuffle_of}
use Rattle.vc_expr.specs.Names.{Has, tree_of}
use Rattle.vc_expr.specs.Steps.{sum_of_steps, product_of_steps, weight_of_steps, both_of_steps, shuffle_of_steps}
use Rattle.vc_expr.specs.declared.expr.Expr.{Expr}
use Rattle.vc_expr.specs.declared.fault.ExprFault.{ExprFault}
use Rattle.vc_expr.specs.declared.fault.ExprFault.TheVariants.{InvalidStar, Overflow as Unfit, Memory}

-- what each operation comes to: the tree that it builds, or the first of its steps that does not fit
abbrev pub sum_answer : {V : Type 0} → WeightSet V → List (Term V) → Result (Term V) (Overflow V)
sum_answer R ts = outcome R (sum_of_steps R ts) (sum_of ts)

abbrev pub product_answer : {V : Type 0} → WeightSet V → (V → V → Bool) → List (Term V) → Result (Term V) (Overflow V)
product_answer R equal ts = outcome R (product_of_steps R equal ts) (product_of R equal ts)

abbrev pub weight_answer : {V : Type 0} → WeightSet V → (V → V → Bool) → V → Term V → Result (Term V) (Overflow V)
weight_answer R equal k t = outcome R (weight_of_steps R equal k t) (weight_of R equal k t)

abbrev pub both_answer : {V : Type 0} → WeightSet V → Term V → Term V → Result (Term V) (Overflow V)
both_answer R t u = outcome R (both_of_steps R t u) (both_of t u)

abbrev pub shuffle_answer : {V : Type 0} → WeightSet V → Term V → Term V → Result (Term V) (Overflow V)
shuffle_answer R t u = outcome R (shuffle_of_steps R t u) (shuffle_of t u)

-- a star: of Zero it is One; where the constant term of the operand has no star, this is told, and then whether its star fits
abbrev pub star_answer : {V : Type 0} → WeightSet V → Term V → Result (Term V) (StarFault V)
star_answer R t =
    if is_zero t then Ok One
    else if R.has_star (constant_of R t) then (if R.fits_star (constant_of R t) then Ok (Star t) else Err (UnfitStar (StarStep (constant_of R t))))
    else Err (NoStar (constant_of R t))

-- a name of the tree, or the step that does not fit; want of memory is free
abbrev pub IsMade : {V : Type 0} → List (Term V) → Result (Term V) (Overflow V) → Result Expr (ExprFault V) → Type 0
IsMade s made (Ok e) = Has s e × (made ≡ Ok (tree_of s e))
IsMade s made (Err (Unfit o)) = made ≡ Err o
IsMade s made (Err (InvalidStar d c)) = ⊥
IsMade s made (Err (Memory e)) = Unit {0}

-- for a star with the operand e: besides, that it has no star, with the operand and its constant term
abbrev pub IsStarMade : {V : Type 0} → List (Term V) → Expr → Result (Term V) (StarFault V) → Result Expr (ExprFault V) → Type 0
IsStarMade s e made (Ok d) = Has s d × (made ≡ Ok (tree_of s d))
IsStarMade s e made (Err (Unfit o)) = made ≡ Err (UnfitStar o)
IsStarMade s e made (Err (InvalidStar d c)) = (d ≡ e) × (made ≡ Err (NoStar c))
IsStarMade s e made (Err (Memory x)) = Unit {0}
