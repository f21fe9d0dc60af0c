-- That the sum by the divisor of the bottoms is the sum.
use Rattle.std.proofs.Common.{◌≡◌, ℕ, ℤ, ◌<◌, ◌*◌, ◌/◌, ◌+ℤ◌, ◌*ℤ◌, pos, cond, Option, Some, None, refl, sym, ap, ◌∙◌, subst}
use Rattle.vc_num.specs.Divisors.{gcd_of}
use Rattle.vc_rat.specs.Rationals.{plus, fits_plus, parts_fit, denominator, positive}
use Rattle.vc_rat.specs.Reduced.{magnitude-is}
use Rattle.vc_rat.specs.Sums.{part-positive, sum-same}
use Rattle.vc_rat.specs.declared.fraction.Fraction.{Fraction}
use Rattle.vc_rat.proofs.Options.{pair-some, pair-none, kept, refused}

-- the parts of the sum, where its steps fit
abbrev pub sum_found : ℤ → ℕ → ℤ → ℕ → ℕ → Option (ℤ × ℕ)
sum_found a b c d whole = cond (parts_fit a b c d whole) (Some (a *ℤ pos d +ℤ c *ℤ pos b, b * whole)) None

-- at fractions, and any number that is the greatest common divisor of their bottoms
abbrev pub found : Fraction → Fraction → ℕ → Option (ℤ × ℕ)
found x y g = sum_found x.top (denominator x / g) y.top (denominator y / g) (denominator y)

pub found-at : (x y : Fraction) (a c : ℤ) (b d g : ℕ) (r : Option (ℤ × ℕ)) → a ≡ x.top → c ≡ y.top → b ≡ denominator x → d ≡ denominator y → g ≡ gcd_of b d → r ≡ sum_found a (b / g) c (d / g) d → found x y (gcd_of (denominator x) (denominator y)) ≡ r
found-at x y a c b d g r ea ec eb ed eg h =
    let at_tops = subst (λ z. r ≡ sum_found x.top (b / g) z (d / g) d) ec (subst (λ z. r ≡ sum_found z (b / g) c (d / g) d) ea h) in
    let at_divisor = subst (λ z. r ≡ sum_found x.top (b / z) y.top (d / z) d) eg at_tops in
    let at_first = subst (λ z. r ≡ sum_found x.top (z / gcd_of z d) y.top (d / gcd_of z d) d) eb at_divisor in
    sym (subst (λ z. r ≡ sum_found x.top (denominator x / gcd_of (denominator x) z) y.top (z / gcd_of (denominator x) z) z) ed at_first)

pub sum-positive : (x y : Fraction) (t : ℤ) (n : ℕ) → found x y (gcd_of (denominator x) (denominator y)) ≡ Some (t, n) → 0 < n
sum-positive x y t n h =
    let g = gcd_of (denominator x) (denominator y) in
    let came = pair-some (fits_plus x y) t (x.top *ℤ pos (denominator y / g) +ℤ y.top *ℤ pos (denominator x / g)) n (denominator x / g * denominator y) h in
    subst (λ m. 0 < m) (sym came.2) (part-positive (denominator x) (denominator y) g (positive x) (positive y) refl)

pub sum-some : (x y s : Fraction) (t : ℤ) (n : ℕ) → found x y (gcd_of (denominator x) (denominator y)) ≡ Some (t, n) → s.top *ℤ pos n ≡ t *ℤ s.bottom → Some s ≡ cond (fits_plus x y) (Some (plus x y)) None
sum-some x y s t n h e =
    let g = gcd_of (denominator x) (denominator y) in
    let came = pair-some (fits_plus x y) t (x.top *ℤ pos (denominator y / g) +ℤ y.top *ℤ pos (denominator x / g)) n (denominator x / g * denominator y) h in
    let at_size : s.top *ℤ pos n ≡ t *ℤ pos (denominator s) = e ∙ ap (λ k. t *ℤ k) (magnitude-is s.bottom s.lowest.0) in
    let at_top = subst (λ z. s.top *ℤ pos n ≡ z *ℤ pos (denominator s)) came.1 at_size in
    let at_bottom = subst (λ m. s.top *ℤ pos m ≡ (x.top *ℤ pos (denominator y / g) +ℤ y.top *ℤ pos (denominator x / g)) *ℤ pos (denominator s)) came.2 at_top in
    kept (fits_plus x y) (plus x y) s came.0 (sum-same x y s g refl at_bottom)

pub sum-none : (x y : Fraction) → found x y (gcd_of (denominator x) (denominator y)) ≡ None → None ≡ cond (fits_plus x y) (Some (plus x y)) None
sum-none x y h =
    let g = gcd_of (denominator x) (denominator y) in
    refused (fits_plus x y) (plus x y) (pair-none (fits_plus x y) (x.top *ℤ pos (denominator y / g) +ℤ y.top *ℤ pos (denominator x / g)) (denominator x / g * denominator y) h)
