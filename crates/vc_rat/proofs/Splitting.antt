-- What the products of a split come to.
use Rattle.std.proofs.Common.{◌≡◌, ◌≢◌, ℕ, ◌≤◌, List, [], ◌∷◌, drop, length, Result, Ok, Err, Bool, refl, sym, ap, ◌∙◌, subst, arith}
use Rattle.std.proofs.Math.ListN.{drop_of_length-le}
use Rattle.vc_model.specs.Outcomes as steps
use Rattle.vc_model.specs.WeightSet.{IsZeroRow}
use Rattle.vc_ring.specs.Steps.{outcome}
use Rattle.vc_ring.specs.declared.faults.Overflow.{Overflow}
use Rattle.vc_rat.specs.Fields.{negative, reciprocal, rational_field}
use Rattle.vc_rat.specs.Rationals.{zero, rationals}
use Rattle.vc_rat.specs.RationalLaws.{rational_laws}
use Rattle.vc_rat.specs.Rows.{first_is_other}
use Rattle.vc_rat.specs.Splits.{is_zero, tells-zero, row_factor, product_steps, normal_steps}
use Rattle.vc_rat.specs.declared.fraction.Fraction.{Fraction}

pub factor-not_zero : (row : List Fraction) → ¬ IsZeroRow rationals row → row_factor row ≢ zero
factor-not_zero row h = first_is_other rational_laws negative reciprocal rational_field is_zero tells-zero row h

-- a row without entry that is not zero is a zero row
pub none-left : (row : List Fraction) (i : ℕ) → length row ≤ i → row_factor (drop i row) ≡ row_factor row → ¬ IsZeroRow rationals row → ⊥
none-left row i l e h = factor-not_zero row h (sym e ∙ ap row_factor (drop_of_length-le row l))

module _ {X U W : Type 0} (fits : X → Bool) where
  other-ok : (ss : List X) (u w : U) (v : W) → steps.outcome fits ss u ≡ Ok w → steps.outcome fits ss v ≡ Ok v
  other-ok [] u w v h = refl
  other-ok (s ∷ ss) u w v h = let more = other-ok ss u w v in grind (arith, more)

  other-err : (ss : List X) (u : U) (v : W) (e : X) → steps.outcome fits ss u ≡ Err e → steps.outcome fits ss v ≡ Err e
  other-err [] u v e h = absurd (cc)
  other-err (s ∷ ss) u v e h = let more = other-err ss u v e in grind (arith, more)

steps-at : (row : List Fraction) (f by : Fraction) → f ≡ row_factor row → by ≡ reciprocal f → product_steps by row ≡ normal_steps row
steps-at row f by e g = ap (λ k. product_steps k row) (g ∙ ap reciprocal e)

pub split-ok : (row : List Fraction) (f by : Fraction) (r : Result (Unit {0}) (Overflow Fraction)) (w : Unit {0}) → f ≡ row_factor row → by ≡ reciprocal f → r ≡ outcome rationals (product_steps by row) tt → r ≡ Ok w → Ok f ≡ outcome rationals (normal_steps row) (row_factor row)
split-ok row f by r w e g s h =
    let all = other-ok _ (product_steps by row) tt w f (sym s ∙ h) in
    sym (subst (λ k. outcome rationals (normal_steps row) k ≡ Ok f) e (subst (λ k. outcome rationals k f ≡ Ok f) (steps-at row f by e g) all))

pub split-err : (row : List Fraction) (f by : Fraction) (r : Result (Unit {0}) (Overflow Fraction)) (m : Overflow Fraction) → f ≡ row_factor row → by ≡ reciprocal f → r ≡ outcome rationals (product_steps by row) tt → r ≡ Err m → Err m ≡ outcome rationals (normal_steps row) (row_factor row)
split-err row f by r m e g s h =
    let one = other-err _ (product_steps by row) tt (row_factor row) m (sym s ∙ h) in
    sym (subst (λ k. outcome rationals k (row_factor row) ≡ Err m) (steps-at row f by e g) one)
