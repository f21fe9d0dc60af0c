-- That the product by the divisors across is the product in lowest terms.
use Rattle.std.proofs.Common.{◌≡◌, ℕ, ℤ, ◌<◌, ◌*◌, ◌/◌, ◌*ℤ◌, pos, unsigned_abs, int_div, ◌&&◌, cond, Option, Some, None, refl, sym, ap, ◌∙◌, subst}
use Rattle.std.specs.Int.{◌∣◌}
use Rattle.std.proofs.lemmas.Int.{unsigned_abs-mul}
use native.Mathlib.Nat.{div-mul_cancel, dvd-mul_right, dvd_trans, eq-one_of_dvd-one}
use Rattle.vc_num.specs.Divisors.{gcd_of}
use Rattle.vc_num.specs.Range.{in_range}
use Rattle.vc_num.specs.Divisibility.{gcd_of-is, gcd_of-comm, gcd_of-dvd, gcd_of-positive, gcd_of-quotients, coprime-times}
use Rattle.vc_model.specs.Rearranged.{times-times}
use Rattle.vc_rat.specs.Lowest.{IsLowest}
use Rattle.vc_rat.specs.Products.{cross_top, cross_bottom}
use Rattle.vc_rat.specs.Rationals.{times, holds, denominator, positive}
use Rattle.vc_rat.specs.Reduced.{positive-mul, positive-div, positive-pos, magnitude-div, quotient-same}
use Rattle.vc_rat.specs.Stands.{same_parts, stands-times, stands-same}
use Rattle.vc_rat.specs.Whole.{whole, whole_laws}
use Rattle.vc_rat.specs.declared.fraction.Fraction.{Fraction}
use Rattle.vc_rat.proofs.Options.{pair-some, pair-none, kept, refused}

quotient-dvd : (a g : ℕ) → g ∣ a → a / g ∣ a
quotient-dvd a g h = subst (λ x. a / g ∣ x) (div-mul_cancel g h) (dvd-mul_right (a / g) g)

-- divisors of numbers that have nothing in common have nothing in common
coprime-dvd : (a b m n : ℕ) → gcd_of a b ≡ 1 → m ∣ a → n ∣ b → gcd_of m n ≡ 1
coprime-dvd a b m n e p q =
    let g = gcd_of m n in
    let is = gcd_of-is m n in
    eq-one_of_dvd-one (subst (λ x. g ∣ x) e (gcd_of-dvd a b g (dvd_trans g is.0 p) (dvd_trans g is.1 q)))

-- of fractions a/b and c/d
cross-coprime : (a b c d : ℕ) → 0 < b → 0 < d → gcd_of a b ≡ 1 → gcd_of c d ≡ 1 → gcd_of (a / gcd_of a d * (c / gcd_of c b)) (b / gcd_of c b * (d / gcd_of a d)) ≡ 1
cross-coprime a b c d pb pd e f =
    let g = gcd_of a d in
    let h = gcd_of c b in
    let gs = gcd_of-is a d in
    let hs = gcd_of-is c b in
    let first : gcd_of (a / g) (b / h) ≡ 1 = coprime-dvd a b (a / g) (b / h) e (quotient-dvd a g gs.0) (quotient-dvd b h hs.1) in
    let second : gcd_of (c / h) (b / h) ≡ 1 = gcd_of-quotients c b (gcd_of-positive c b pb) in
    let third : gcd_of (a / g) (d / g) ≡ 1 = gcd_of-quotients a d (gcd_of-positive a d pd) in
    let fourth : gcd_of (c / h) (d / g) ≡ 1 = coprime-dvd c d (c / h) (d / g) f (quotient-dvd c h hs.0) (quotient-dvd d g gs.1) in
    let top = a / g * (c / h) in
    let with_first : gcd_of (b / h) top ≡ 1 = gcd_of-comm (b / h) top ∙ coprime-times (a / g) (c / h) (b / h) first second in
    let with_second : gcd_of (d / g) top ≡ 1 = gcd_of-comm (d / g) top ∙ coprime-times (a / g) (c / h) (d / g) third fourth in
    gcd_of-comm top (b / h * (d / g)) ∙ coprime-times (b / h) (d / g) top with_first with_second

cross-lowest : (x y : Fraction) → IsLowest (cross_top x.top (denominator x) y.top (denominator y)) (pos (cross_bottom x.top (denominator x) y.top (denominator y)))
cross-lowest x y =
    let a = unsigned_abs x.top in
    let b = denominator x in
    let c = unsigned_abs y.top in
    let d = denominator y in
    let g = gcd_of a d in
    let h = gcd_of c b in
    let bottom = b / h * (d / g) in
    let size : unsigned_abs (int_div x.top (pos g) *ℤ int_div y.top (pos h)) ≡ a / g * (c / h) =
    unsigned_abs-mul (int_div x.top (pos g)) (int_div y.top (pos h)) ∙ ap (λ m. m * unsigned_abs (int_div y.top (pos h))) (magnitude-div x.top g) ∙ ap (λ m. a / g * m) (magnitude-div y.top h) in
    (positive-pos bottom (positive-mul (b / h) (d / g) (positive-div b h (positive x) (gcd_of-is c b).1) (positive-div d g (positive y) (gcd_of-is a d).1)), ap (λ m. gcd_of m bottom) size ∙ cross-coprime a b c d (positive x) (positive y) x.lowest.1 y.lowest.1)

abbrev crossed : Fraction → Fraction → Fraction
crossed x y = record { top = cross_top x.top (denominator x) y.top (denominator y); bottom = pos (cross_bottom x.top (denominator x) y.top (denominator y)); lowest = cross-lowest x y }

exchange : (p q b d : ℤ) → (p *ℤ q) *ℤ (b *ℤ d) ≡ (p *ℤ d) *ℤ (q *ℤ b)
unfolding whole
exchange p q b d = ap (λ k. (p *ℤ q) *ℤ k) (whole_laws.times_comm b d) ∙ times-times whole_laws p q d b

turned : (a c d b : ℤ) → (a *ℤ d) *ℤ (c *ℤ b) ≡ (a *ℤ c) *ℤ (b *ℤ d)
unfolding whole
turned a c d b = times-times whole_laws a d c b ∙ ap (λ k. (a *ℤ c) *ℤ k) (whole_laws.times_comm d b)

cross-same : (a c : ℤ) (b d g h : ℕ) → g ∣ unsigned_abs a → g ∣ d → h ∣ unsigned_abs c → h ∣ b → (int_div a (pos g) *ℤ int_div c (pos h)) *ℤ pos (b * d) ≡ (a *ℤ c) *ℤ pos (b / h * (d / g))
cross-same a c b d g h p q r s =
    let first = quotient-same a d g p q in
    let second = quotient-same c b h r s in
    exchange (int_div a (pos g)) (int_div c (pos h)) (pos b) (pos d) ∙ ap (λ k. k *ℤ (int_div c (pos h) *ℤ pos b)) first ∙ ap (λ k. (a *ℤ pos (d / g)) *ℤ k) second ∙ turned a c (pos (d / g)) (pos (b / h))

crossed-is : (x y : Fraction) → crossed x y ≡ times x y
crossed-is x y =
    let a = unsigned_abs x.top in
    let b = denominator x in
    let c = unsigned_abs y.top in
    let d = denominator y in
    let g = gcd_of a d in
    let h = gcd_of c b in
    let gs = gcd_of-is a d in
    let hs = gcd_of-is c b in
    let bottom = b / h * (d / g) in
    let p = positive-mul (b / h) (d / g) (positive-div b h (positive x) hs.1) (positive-div d g (positive y) gs.1) in
    stands-same (crossed x y) (times x y) (cross_top x.top b y.top d) (x.top *ℤ y.top) bottom (b * d) p (positive-mul b d (positive x) (positive y)) refl (stands-times x y x.top y.top b d refl refl) (cross-same x.top y.top b d g h gs.0 gs.1 hs.0 hs.1)

-- the parts of the product, where they are in range
abbrev pub product_found : ℤ → ℕ → ℤ → ℕ → Option (ℤ × ℕ)
product_found a b c d = cond (in_range (cross_top a b c d) && in_range (pos (cross_bottom a b c d))) (Some (cross_top a b c d, cross_bottom a b c d)) None

pub found-at : (a a' c c' : ℤ) (b b' d d' : ℕ) (r : Option (ℤ × ℕ)) → a ≡ a' → b ≡ b' → c ≡ c' → d ≡ d' → r ≡ product_found a b c d → product_found a' b' c' d' ≡ r
found-at a a' c c' b b' d d' r ea eb ec ed h = sym (subst (λ z. r ≡ product_found a' b' c' z) ed (subst (λ z. r ≡ product_found a' b' z d) ec (subst (λ z. r ≡ product_found a' z c d) eb (subst (λ z. r ≡ product_found z b c d) ea h))))

pub product-lowest : (x y : Fraction) (t : ℤ) (n : ℕ) → product_found x.top (denominator x) y.top (denominator y) ≡ Some (t, n) → IsLowest t (pos n)
product-lowest x y t n h =
    let came = pair-some _ t _ n _ h in
    subst (λ z. IsLowest z (pos n)) (sym came.1) (subst (λ m. IsLowest (crossed x y).top (pos m)) (sym came.2) (cross-lowest x y))

pub product-some : (x y s : Fraction) (t : ℤ) (n : ℕ) → product_found x.top (denominator x) y.top (denominator y) ≡ Some (t, n) → s.top ≡ t → s.bottom ≡ pos n → Some s ≡ cond (holds (times x y)) (Some (times x y)) None
product-some x y s t n h e f =
    let came = pair-some _ t _ n _ h in
    let same : s ≡ crossed x y = same_parts s.top (crossed x y).top s.bottom (crossed x y).bottom s.lowest (cross-lowest x y) (e ∙ came.1) (f ∙ ap pos came.2) in
    subst (λ w. Some s ≡ cond (holds w) (Some w) None) (crossed-is x y) (kept (holds (crossed x y)) (crossed x y) s came.0 same)

pub product-none : (x y : Fraction) → product_found x.top (denominator x) y.top (denominator y) ≡ None → None ≡ cond (holds (times x y)) (Some (times x y)) None
product-none x y h =
    subst (λ w. None ≡ cond (holds w) (Some w) None) (crossed-is x y) (refused (holds (crossed x y)) (crossed x y) (pair-none _ (crossed x y).top (cross_bottom x.top (denominator x) y.top (denominator y)) h))
