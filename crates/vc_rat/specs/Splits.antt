-- How rows of rational numbers split.
use Rattle.std.specs.Prelude.{◌≡◌, ◌↔◌, ℤ, pos, Bool, true, false, IsTrue, cond, List, [], ◌∷◌, map, unsigned_abs}
use Rattle.std.specs.Ordering.{int_eq}
use Rattle.std.proofs.Common.{refl, arith, subst, sym}
use Rattle.std.proofs.lemmas.Int.{ints}
use Rattle.std.proofs.lemmas.List.Elements.{All-nil, All-cons, All-head, All-tail}
use Rattle.vc_model.specs.WeightSet.{SplitLaws, InRange}
use Rattle.vc_ring.specs.Splits.{SplitRanges}
use Rattle.vc_ring.specs.Steps.{AllFit}
use Rattle.vc_ring.specs.declared.faults.Overflow.{Overflow}
use Rattle.vc_ring.specs.declared.faults.Overflow.TheVariants.{Mul}
use Rattle.vc_rat.specs.Fields.{negative, reciprocal, rational_field, zero-from_top}
use Rattle.vc_rat.specs.Rationals.{zero, times, holds, rationals}
use Rattle.vc_rat.specs.RationalLaws.{rational_laws}
use Rattle.vc_rat.specs.Rows.{first_other, row_times, normal_row, field_splits}
use Rattle.vc_rat.specs.declared.fraction.Fraction.{Fraction}

-- the top is zero
abbrev pub is_zero : Fraction → Bool
is_zero x = int_eq x.top (pos 0)

-- the first entry that is not zero
abbrev pub row_factor : List Fraction → Fraction
row_factor row = first_other rationals is_zero row

-- the row times the inverse of the factor, entry by entry
abbrev pub normal_fractions : List Fraction → List Fraction
normal_fractions row = normal_row rationals reciprocal is_zero row

-- the products of the entries with a number
abbrev pub product_steps : Fraction → List Fraction → List (Overflow Fraction)
product_steps by row = map (λ x. Mul x by) row

-- the products that make the normal row
abbrev pub normal_steps : List Fraction → List (Overflow Fraction)
normal_steps row = product_steps (reciprocal (row_factor row)) row

top-zero : (t : ℤ) → IsTrue (int_eq t (pos 0)) → unsigned_abs t ≡ 0
top-zero t h = grind (arith, ints)

pub tells-zero : (x : Fraction) → IsTrue (is_zero x) ↔ (x ≡ zero)
tells-zero x = ((λ h. zero-from_top x (top-zero x.top h)), (λ e. subst (λ y. IsTrue (is_zero y)) (sym e) refl))

pub rational_splits : SplitLaws rationals row_factor normal_fractions
rational_splits = field_splits rational_laws negative reciprocal rational_field is_zero tells-zero

either-in : (b : Bool) (x y : Fraction) → IsTrue (holds x) → IsTrue (holds y) → IsTrue (holds (cond b x y))
either-in true x y p q = p
either-in false x y p q = q

factor-in : (row : List Fraction) → InRange rationals row → IsTrue (holds (row_factor row))
factor-in [] h = refl
factor-in (x ∷ row) h = either-in (is_zero x) (row_factor row) x (factor-in row (All-tail (λ y. IsTrue (holds y)) x row h)) (All-head (λ y. IsTrue (holds y)) x row h)

-- the products that fit are in range
products-in : (by : Fraction) (row : List Fraction) → AllFit rationals (product_steps by row) → InRange rationals (row_times rationals by row)
products-in by [] h = All-nil (λ y. IsTrue (holds y))
products-in by (x ∷ row) h = All-cons (λ y. IsTrue (holds y)) (times x by) (row_times rationals by row) h.0 (products-in by row h.1)

pub rational_split_ranges : SplitRanges rationals row_factor normal_fractions normal_steps
rational_split_ranges = record {
  factor_in = λ row p n f. factor-in row p;
  normal_in = λ row p n f. products-in (reciprocal (row_factor row)) row f;
}
