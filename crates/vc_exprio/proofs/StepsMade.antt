-- Going over steps.
use Rattle.std.proofs.Common.{◌≡◌, ℕ, Bool, Result, Ok, Err, List, [], ◌∷◌, ◌++◌, length, ap, sym, ◌∙◌, arith}
use Rattle.std.specs.Prelude.{◌≤◌}
use Rattle.vc_expr.specs.Names.{tree_of, trees_of}
use Rattle.vc_expr.specs.declared.expr.Expr.{Expr}
use Rattle.vc_label.specs.declared.tape_set.TapeSet.{TapeSet}
use Rattle.vc_lex.specs.Marks.{Mark}
use Rattle.vc_model.specs.WeightSet.{WeightSet}
use Rattle.vc_terms.specs.Terms.{Term}
use Rattle.vc_exprio.specs.BuildAnswers.{IsRefusedBy}
use Rattle.vc_exprio.specs.Building.{BuildRefusal}
use Rattle.vc_exprio.specs.Making.{Progress, made, lacking, go_on, put_behind, made_after, made_by, occurrences_in}
use Rattle.vc_exprio.specs.Occurring.{AreOccurrencesOver}
use Rattle.vc_exprio.specs.Steps.{Op, zero_op, part_op, more_op, class_op, group_op, star_op, weight_op, product_op, and_op, shuffle_op, sum_op}
use Rattle.vc_exprio.specs.declared.fault.TextFault.{TextFault}
use Rattle.vc_exprio.specs.declared.fault.TextFault.TheVariants.{Limit, BadByte, NotAnExpression, NotALabel, NotInContext, InvalidStar, Overflow, Memory}

-- the labels of the steps after a step
pub over_after : (sets : List TapeSet) (op : Op) (ops : List Op) → AreOccurrencesOver sets (occurrences_in (op ∷ ops)) → AreOccurrencesOver sets (occurrences_in ops)
over_after sets zero_op ops h = h
over_after sets (part_op m) ops h = h.1
over_after sets (more_op m) ops h = h
over_after sets (class_op m) ops h = h.1
over_after sets group_op ops h = h
over_after sets star_op ops h = h
over_after sets (weight_op m) ops h = h
over_after sets (product_op n) ops h = h
over_after sets and_op ops h = h
over_after sets shuffle_op ops h = h
over_after sets (sum_op n) ops h = h

module _ {V : Type 0} where
  not_lacking : (r : Result (Term V) (BuildRefusal V)) → lacking ≡ put_behind [] r → ⊥
  not_lacking (Ok u) e = cc
  not_lacking (Err f) e = cc

  refused_on : (next : List (Term V) → Progress V) (s : List (Term V)) (p whole : Progress V) (fault : TextFault V) → go_on next p ≡ whole → IsRefusedBy p s fault → IsRefusedBy whole s fault
  refused_on next s p whole (Limit l) e h = h
  refused_on next s p whole (BadByte at) e h = h
  refused_on next s p whole (NotAnExpression at) e h = h
  refused_on next s p whole (NotALabel at) e h = h
  refused_on next s p whole (NotInContext at) e h = h
  refused_on next s p whole (InvalidStar x c) e h = (h.0, sym e ∙ ap (go_on next) h.1)
  refused_on next s p whole (Overflow o) e h = sym e ∙ ap (go_on next) h
  refused_on next s p whole (Memory x) e h = tt

  -- the name that is left
  one_left : (s : List (Term V)) (front : List Expr) (e : Expr) (u : Term V) → trees_of s (front ++ e ∷ []) ≡ u ∷ [] → u ≡ tree_of s e
  one_left s [] e u h = cc
  one_left s (d ∷ []) e u h = absurd (cc)
  one_left s (d ∷ b ∷ front) e u h = absurd (cc)

  made_one : (r : Result (Term V) (BuildRefusal V)) (ts : List (Term V)) → made ts ≡ put_behind [] r → (u : Term V) × (ts ≡ u ∷ [])
  made_one (Ok u) ts e = (u, cc)
  made_one (Err f) ts e = absurd (cc)

  pub some_left : (r : Result (Term V) (BuildRefusal V)) (s : List (Term V)) (names : List Expr) → made (trees_of s names) ≡ put_behind [] r → 1 ≤ length names
  some_left r s [] e = let m = made_one r [] e in let f : [] ≡ m.0 ∷ [] = m.1 in absurd (cc)
  some_left r s (n ∷ names) e = omega arith

  pub left_is : (r : Result (Term V) (BuildRefusal V)) (s : List (Term V)) (names front : List Expr) (e : Expr) → made (trees_of s names) ≡ put_behind [] r → names ≡ front ++ e ∷ []
      → made (trees_of s names) ≡ made (tree_of s e ∷ [])
  left_is r s names front e h n =
      let m = made_one r (trees_of s names) h in
      ap made (m.1 ∙ ap (λ u. u ∷ []) (one_left s front e m.0 (ap (trees_of s) (sym n) ∙ m.1)))

module _ {V : Type 0} (R : WeightSet V) (same : V → V → Bool) (value : Mark → V) (letters : Mark → List ℕ) where
  -- a step has its operands
  pub enough : (ts : List (Term V)) (op : Op) (ops : List Op) (whole : Progress V) (r : Result (Term V) (BuildRefusal V)) → made_by R same value letters ts (op ∷ ops) ≡ whole → whole ≡ put_behind [] r
      → made_after R same value letters ts op ops ≡ lacking → ⊥
  enough ts op ops whole r e w l = not_lacking r (sym (ap (go_on (λ us. made_by R same value letters us ops)) l) ∙ e ∙ w)

  -- and the steps after it go on with what it made
  pub goes_on : (ts us : List (Term V)) (op : Op) (ops : List Op) (whole : Progress V) → made_by R same value letters ts (op ∷ ops) ≡ whole → made_after R same value letters ts op ops ≡ made us
      → made_by R same value letters us ops ≡ whole
  goes_on ts us op ops whole e m = sym (ap (go_on (λ us. made_by R same value letters us ops)) m) ∙ e

  -- or its refusal is that of all
  pub stops : (ts s : List (Term V)) (op : Op) (ops : List Op) (whole : Progress V) (fault : TextFault V) → made_by R same value letters ts (op ∷ ops) ≡ whole
      → IsRefusedBy (made_after R same value letters ts op ops) s fault → IsRefusedBy whole s fault
  stops ts s op ops whole fault e h = refused_on (λ us. made_by R same value letters us ops) s (made_after R same value letters ts op ops) whole fault e h
