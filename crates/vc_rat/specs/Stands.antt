-- What it means that a fraction is n/d, and that no other fraction is.
use Rattle.std.specs.Prelude.{◌≡◌, ℕ, ◌<◌, ◌*◌, ℤ, pos, ◌+ℤ◌, ◌*ℤ◌, unsigned_abs}
use Rattle.std.specs.Int.{◌∣◌}
use Rattle.std.proofs.Common.{sym, ap, ◌∙◌, subst}
use Rattle.std.proofs.lemmas.Int.{unsigned_abs-mul}
use Rattle.std.proofs.lemmas.Nat.Gcd.{dvd_antisymm}
use native.Mathlib.Nat.{dvd-mul_left}
use Rattle.std.proofs.Props.{props}
use Rattle.vc_num.specs.Divisibility.{gcd_of-comm, gauss}
use Rattle.vc_num.specs.Integers.{*ℤ_cancel}
use Rattle.vc_model.specs.Rearranged.{semiring}
use Rattle.vc_rat.specs.Lowest.{IsLowest}
use Rattle.vc_rat.specs.Reduced.{reduced-same, positive-mul, magnitude-is}
use Rattle.vc_rat.specs.Rationals.{reduced, plus, times, denominator, positive}
use Rattle.vc_rat.specs.Whole.{whole, whole_laws}
use Rattle.vc_rat.specs.declared.fraction.Fraction.{Fraction}

-- x is n/d
abbrev pub Stands : Fraction → ℤ → ℕ → Type 0
Stands x n d = x.top *ℤ pos d ≡ n *ℤ pos (denominator x)

pub stands-reduced : (n : ℤ) (d : ℕ) (p : 0 < d) → Stands (reduced n d p) n d
stands-reduced n d p = reduced-same n d

-- there is one proof that a fraction is in lowest terms
pub lowest_prop : (t b : ℤ) → IsProp (IsLowest t b)
lowest_prop t b = hlevel props

abbrev pub made : (t b : ℤ) → IsLowest t b → Fraction
made t b l = record { top = t; bottom = b; lowest = l }

-- fractions with the same parts are the same
pub same_parts : (t t' b b' : ℤ) (l : IsLowest t b) (l' : IsLowest t' b') → t ≡ t' → b ≡ b' → made t b l ≡ made t' b' l'
same_parts t t' b b' l l' et eb =
    let at_bottom : (m : IsLowest t b) → made t b l ≡ made t b m = λ m. ap (made t b) (lowest_prop t b l m) in
    let at_top : (m : IsLowest t' b) → made t b l ≡ made t' b m = subst (λ x. (m : IsLowest x b) → made t b l ≡ made x b m) et at_bottom in
    subst (λ y. (m : IsLowest t' y) → made t b l ≡ made t' y m) eb at_top l'

bottom-dvd : (x y : Fraction) → x.top *ℤ pos (denominator y) ≡ y.top *ℤ pos (denominator x) → denominator x ∣ denominator y
bottom-dvd x y e =
    let sizes : unsigned_abs x.top * denominator y ≡ unsigned_abs y.top * denominator x =
    sym (unsigned_abs-mul x.top (pos (denominator y))) ∙ ap unsigned_abs e ∙ unsigned_abs-mul y.top (pos (denominator x)) in
    gauss (denominator x) (unsigned_abs x.top) (denominator y) (gcd_of-comm (denominator x) (unsigned_abs x.top) ∙ x.lowest.1) (subst (λ k. denominator x ∣ k) (sym sizes) (dvd-mul_left (denominator x) (unsigned_abs y.top)))

-- the same number is the same fraction
pub same_from-cross : (x y : Fraction) → x.top *ℤ pos (denominator y) ≡ y.top *ℤ pos (denominator x) → x ≡ y
same_from-cross x y e =
    let bottoms : denominator x ≡ denominator y = dvd_antisymm (bottom-dvd x y e) (bottom-dvd y x (sym e)) in
    let tops : x.top ≡ y.top = *ℤ_cancel x.top y.top (denominator y) (positive y) (e ∙ ap (λ k. y.top *ℤ pos k) bottoms) in
    same_parts x.top y.top x.bottom y.bottom x.lowest y.lowest tops (magnitude-is x.bottom x.lowest.0 ∙ ap pos bottoms ∙ sym (magnitude-is y.bottom y.lowest.0))

sum-cross : (X B Y C S T n m d e : ℤ) → X *ℤ d ≡ n *ℤ B → Y *ℤ e ≡ m *ℤ C → S *ℤ (B *ℤ C) ≡ (X *ℤ C +ℤ Y *ℤ B) *ℤ T → (S *ℤ (d *ℤ e)) *ℤ (B *ℤ C) ≡ ((n *ℤ e +ℤ m *ℤ d) *ℤ T) *ℤ (B *ℤ C)
unfolding whole
sum-cross X B Y C S T n m d e p q r =
    let first : (S *ℤ (d *ℤ e)) *ℤ (B *ℤ C) ≡ (S *ℤ (B *ℤ C)) *ℤ (d *ℤ e) = simp (semiring, whole_laws) in
    let second : ((X *ℤ C +ℤ Y *ℤ B) *ℤ T) *ℤ (d *ℤ e) ≡ ((X *ℤ d) *ℤ (C *ℤ e) +ℤ (Y *ℤ e) *ℤ (B *ℤ d)) *ℤ T = simp (semiring, whole_laws) in
    let third : ((n *ℤ B) *ℤ (C *ℤ e) +ℤ (m *ℤ C) *ℤ (B *ℤ d)) *ℤ T ≡ ((n *ℤ e +ℤ m *ℤ d) *ℤ T) *ℤ (B *ℤ C) = simp (semiring, whole_laws) in
    first ∙ ap (λ k. k *ℤ (d *ℤ e)) r ∙ second ∙ ap (λ k. (k *ℤ (C *ℤ e) +ℤ (Y *ℤ e) *ℤ (B *ℤ d)) *ℤ T) p ∙ ap (λ k. ((n *ℤ B) *ℤ (C *ℤ e) +ℤ k *ℤ (B *ℤ d)) *ℤ T) q ∙ third

product-cross : (X B Y C S T n m d e : ℤ) → X *ℤ d ≡ n *ℤ B → Y *ℤ e ≡ m *ℤ C → S *ℤ (B *ℤ C) ≡ (X *ℤ Y) *ℤ T → (S *ℤ (d *ℤ e)) *ℤ (B *ℤ C) ≡ ((n *ℤ m) *ℤ T) *ℤ (B *ℤ C)
unfolding whole
product-cross X B Y C S T n m d e p q r =
    let first : (S *ℤ (d *ℤ e)) *ℤ (B *ℤ C) ≡ (S *ℤ (B *ℤ C)) *ℤ (d *ℤ e) = simp (semiring, whole_laws) in
    let second : ((X *ℤ Y) *ℤ T) *ℤ (d *ℤ e) ≡ ((X *ℤ d) *ℤ (Y *ℤ e)) *ℤ T = simp (semiring, whole_laws) in
    let third : ((n *ℤ B) *ℤ (m *ℤ C)) *ℤ T ≡ ((n *ℤ m) *ℤ T) *ℤ (B *ℤ C) = simp (semiring, whole_laws) in
    first ∙ ap (λ k. k *ℤ (d *ℤ e)) r ∙ second ∙ ap (λ k. (k *ℤ (Y *ℤ e)) *ℤ T) p ∙ ap (λ k. ((n *ℤ B) *ℤ k) *ℤ T) q ∙ third

same-cross : (X B Y C n m d e : ℤ) → X *ℤ d ≡ n *ℤ B → Y *ℤ e ≡ m *ℤ C → n *ℤ e ≡ m *ℤ d → (X *ℤ C) *ℤ (d *ℤ e) ≡ (Y *ℤ B) *ℤ (d *ℤ e)
unfolding whole
same-cross X B Y C n m d e p q r =
    let first : (X *ℤ C) *ℤ (d *ℤ e) ≡ (X *ℤ d) *ℤ (C *ℤ e) = simp (semiring, whole_laws) in
    let second : (n *ℤ B) *ℤ (C *ℤ e) ≡ (n *ℤ e) *ℤ (B *ℤ C) = simp (semiring, whole_laws) in
    let third : (m *ℤ d) *ℤ (B *ℤ C) ≡ (m *ℤ C) *ℤ (B *ℤ d) = simp (semiring, whole_laws) in
    let fourth : (Y *ℤ e) *ℤ (B *ℤ d) ≡ (Y *ℤ B) *ℤ (d *ℤ e) = simp (semiring, whole_laws) in
    first ∙ ap (λ k. k *ℤ (C *ℤ e)) p ∙ second ∙ ap (λ k. k *ℤ (B *ℤ C)) r ∙ third ∙ ap (λ k. k *ℤ (B *ℤ d)) (sym q) ∙ fourth

pub stands-plus : (x y : Fraction) (n m : ℤ) (d e : ℕ) → Stands x n d → Stands y m e → Stands (plus x y) (n *ℤ pos e +ℤ m *ℤ pos d) (d * e)
stands-plus x y n m d e p q =
    let s = plus x y in
    let r = stands-reduced (x.top *ℤ pos (denominator y) +ℤ y.top *ℤ pos (denominator x)) (denominator x * denominator y) (positive-mul (denominator x) (denominator y) (positive x) (positive y)) in
    *ℤ_cancel (s.top *ℤ pos (d * e)) ((n *ℤ pos e +ℤ m *ℤ pos d) *ℤ pos (denominator s)) (denominator x * denominator y) (positive-mul (denominator x) (denominator y) (positive x) (positive y)) (sum-cross x.top (pos (denominator x)) y.top (pos (denominator y)) s.top (pos (denominator s)) n m (pos d) (pos e) p q r)

pub stands-times : (x y : Fraction) (n m : ℤ) (d e : ℕ) → Stands x n d → Stands y m e → Stands (times x y) (n *ℤ m) (d * e)
stands-times x y n m d e p q =
    let s = times x y in
    let r = stands-reduced (x.top *ℤ y.top) (denominator x * denominator y) (positive-mul (denominator x) (denominator y) (positive x) (positive y)) in
    *ℤ_cancel (s.top *ℤ pos (d * e)) ((n *ℤ m) *ℤ pos (denominator s)) (denominator x * denominator y) (positive-mul (denominator x) (denominator y) (positive x) (positive y)) (product-cross x.top (pos (denominator x)) y.top (pos (denominator y)) s.top (pos (denominator s)) n m (pos d) (pos e) p q r)

pub stands-same : (x y : Fraction) (n m : ℤ) (d e : ℕ) → 0 < d → 0 < e → Stands x n d → Stands y m e → n *ℤ pos e ≡ m *ℤ pos d → x ≡ y
stands-same x y n m d e pd pe p q r =
    same_from-cross x y (*ℤ_cancel (x.top *ℤ pos (denominator y)) (y.top *ℤ pos (denominator x)) (d * e) (positive-mul d e pd pe) (same-cross x.top (pos (denominator x)) y.top (pos (denominator y)) n m (pos d) (pos e) p q r))
