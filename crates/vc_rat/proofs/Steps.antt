-- A checked step on signed numbers, at the numbers themselves.
use Rattle.std.proofs.Common.{arith, ◌≡◌, ℕ, suc, ℤ, pos, negsuc, ◌+ℤ◌, ◌&&◌, Bool, true, cond, Option, Some, None, to_z, of_z, FitsSigned, nat_lt, ◌<◌, ◌^◌, ap, ◌∙◌, sym, subst}
use Rattle.std.proofs.lemmas.Int.{to_z-of_z}
use mir.Syntax.{w128}
use Rattle.vc_num.specs.Range.{in_range, ranged}

ranged-some : (x y : ℤ) → ranged y ≡ Some x → (x ≡ y) × (in_range y ≡ true)
ranged-some x y h = grind arith

below : (n : ℕ) → nat_lt n (2 ^ 127) ≡ true → n < 2 ^ 127
below n h = grind arith

below_suc : (n : ℕ) → nat_lt (suc n) (2 ^ 127) ≡ true → n < 2 ^ 127
below_suc n h = grind arith

-- a number in range has its type's
pub fits-in_range : (y : ℤ) → in_range y ≡ true → FitsSigned w128 y
fits-in_range (pos n) h = record { sfits = below n h }
fits-in_range (negsuc n) h = record { sfits = below_suc n h }

pub step-ok : (x y z : ℤ) → y ≡ z → ranged y ≡ Some x → (x ≡ z) × (in_range z ≡ true) × (to_z w128 (of_z w128 x) ≡ z)
step-ok x y z e h =
    let both = ranged-some x y h in
    let same : x ≡ z = both.0 ∙ e in
    let within : in_range z ≡ true = subst (λ k. in_range k ≡ true) e both.1 in
    let fits : FitsSigned w128 x = subst (λ k. FitsSigned w128 k) (sym same) (fits-in_range z within) in
    (same, within, to_z-of_z w128 x fits ∙ same)

-- the last of three steps
pub third-step : (x y z w : ℤ) (p q : Bool) (r : Option ℤ) → p ≡ true → q ≡ true → x ≡ z → y ≡ w → r ≡ ranged (x +ℤ y) → r ≡ cond (p && (q && in_range (z +ℤ w))) (Some (z +ℤ w)) None
third-step x y z w p q r hp hq ex ey h =
    let sum : x +ℤ y ≡ z +ℤ w = ap (λ k. k +ℤ y) ex ∙ ap (λ k. z +ℤ k) ey in
    rw (hp, hq) (h ∙ ap ranged sum)
