-- That bottom over top is in lowest terms where top over bottom is.
use Rattle.std.proofs.Common.{◌≡◌, ◌≢◌, ℕ, ℤ, pos, unsigned_abs, sym, ap, ◌∙◌, subst}
use Rattle.vc_num.specs.Divisors.{gcd_of}
use Rattle.vc_num.specs.Divisibility.{gcd_of-comm}
use Rattle.vc_rat.specs.Fields.{signed, magnitude-signed, top-positive}
use Rattle.vc_rat.specs.Lowest.{IsLowest}
use Rattle.vc_rat.specs.Rationals.{zero}
use Rattle.vc_rat.specs.Reduced.{positive-pos}
use Rattle.vc_rat.specs.declared.fraction.Fraction.{Fraction}

pub inverse-lowest : (x : Fraction) (t : ℤ) (m : ℕ) → x ≢ zero → t ≡ signed x.top x.bottom → m ≡ unsigned_abs x.top → IsLowest t (pos m)
inverse-lowest x t m h e f =
    let magnitude : unsigned_abs t ≡ unsigned_abs x.bottom = ap unsigned_abs e ∙ magnitude-signed x.top x.bottom in
    let at_top : IsLowest t (pos (unsigned_abs x.top)) = (positive-pos (unsigned_abs x.top) (top-positive x h), ap (λ k. gcd_of k (unsigned_abs x.top)) magnitude ∙ gcd_of-comm (unsigned_abs x.bottom) (unsigned_abs x.top) ∙ x.lowest.1) in
    subst (λ k. IsLowest t (pos k)) (sym f) at_top
