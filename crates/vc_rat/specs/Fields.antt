-- Negatives and inverses of rational numbers.
use Rattle.std.specs.Prelude.{◌≡◌, ◌≢◌, ℕ, zero, suc, ◌<◌, ◌*◌, ◌^◌, max, ℤ, pos, negsuc, neg_ℤ, ◌+ℤ◌, ◌*ℤ◌, unsigned_abs, nat_lt, IsTrue}
use Rattle.std.proofs.Common.{refl, sym, ap, ◌∙◌, arith, subst}
use Rattle.std.proofs.lemmas.Int.{ints}
use Rattle.std.proofs.Math.IntN.{*ℤ_comm, zero-*ℤ, pos-*ℤ-pos}
use Rattle.vc_num.specs.Divisors.{gcd_of}
use Rattle.vc_num.specs.Range.{in_range}
use Rattle.vc_model.specs.WeightSet.{FieldLaws}
use Rattle.vc_model.specs.Rearranged.{plus_times}
use Rattle.vc_rat.specs.Lowest.{IsLowest}
use Rattle.vc_rat.specs.Rationals.{reduced, plus, times, one, holds, denominator, positive, rationals}
use Rattle.vc_rat.specs.Rationals as rational
use Rattle.vc_rat.specs.RationalRanges.{reduced-holds, and-both, and-first, and-second, max-in}
use Rattle.vc_rat.specs.Reduced.{positive-mul, positive-max, magnitude-is}
use Rattle.vc_rat.specs.Stands.{stands-reduced, stands-plus, stands-times, stands-same}
use Rattle.vc_rat.specs.Whole.{whole, whole_laws}
use Rattle.vc_rat.specs.declared.fraction.Fraction.{Fraction}

-- a number with its sign turned where another is negative
abbrev pub signed : ℤ → ℤ → ℤ
signed (pos n) b = b
signed (negsuc n) b = neg_ℤ b

magnitude-neg : (z : ℤ) → unsigned_abs (neg_ℤ z) ≡ unsigned_abs z
magnitude-neg (pos zero) = refl
magnitude-neg (pos (suc n)) = refl
magnitude-neg (negsuc n) = refl

pub magnitude-signed : (z b : ℤ) → unsigned_abs (signed z b) ≡ unsigned_abs b
magnitude-signed (pos n) b = refl
magnitude-signed (negsuc n) b = magnitude-neg b

pub negative-lowest : (t b : ℤ) → IsLowest t b → IsLowest (neg_ℤ t) b
negative-lowest t b l = (l.0, ap (λ m. gcd_of m (unsigned_abs b)) (magnitude-neg t) ∙ l.1)

-- the number with its sign turned
abbrev pub negative : Fraction → Fraction
negative x = record { top = neg_ℤ x.top; bottom = x.bottom; lowest = negative-lowest x.top x.bottom x.lowest }

-- bottom over top, with the sign above; no law speaks of that of zero
abbrev pub reciprocal : Fraction → Fraction
reciprocal x = reduced (signed x.top x.bottom) (max 1 (unsigned_abs x.top)) (positive-max (unsigned_abs x.top))

neg-sum : (t : ℤ) → t +ℤ neg_ℤ t ≡ pos 0
neg-sum t = omega (arith, ints)

zero-poly : (t d : ℤ) → t *ℤ d +ℤ neg_ℤ t *ℤ d ≡ pos 0
unfolding whole
zero-poly t d = sym (plus_times whole_laws t (neg_ℤ t) d) ∙ ap (λ k. k *ℤ d) (neg-sum t) ∙ zero-*ℤ d

plus-negative : (x : Fraction) → plus x (negative x) ≡ rational.zero
plus-negative x =
    let d = denominator x in
    let sum = zero-poly x.top (pos d) in
    let cross : (x.top *ℤ pos d +ℤ neg_ℤ x.top *ℤ pos d) *ℤ pos 1 ≡ pos 0 *ℤ pos (d * d) = ap (λ k. k *ℤ pos 1) sum ∙ zero-*ℤ (pos 1) ∙ sym (zero-*ℤ (pos (d * d))) in
    stands-same (plus x (negative x)) rational.zero (x.top *ℤ pos d +ℤ neg_ℤ x.top *ℤ pos d) (pos 0) (d * d) 1 (positive-mul d d (positive x) (positive x)) (omega arith) (stands-plus x (negative x) x.top (neg_ℤ x.top) d d refl refl) refl cross

-- only zero has the top zero
pub zero-from_top : (x : Fraction) → unsigned_abs x.top ≡ 0 → x ≡ rational.zero
zero-from_top x e =
    let top : x.top ≡ pos 0 = grind (arith, ints) in
    stands-same x rational.zero x.top (pos 0) (denominator x) 1 (positive x) (omega arith) refl refl (ap (λ k. k *ℤ pos 1) top ∙ zero-*ℤ (pos 1) ∙ sym (zero-*ℤ (pos (denominator x))))

pub top-positive : (x : Fraction) → x ≢ rational.zero → 0 < unsigned_abs x.top
top-positive x h = let some : unsigned_abs x.top ≢ 0 = λ e. h (zero-from_top x e) in omega (arith, some)

signed-times : (t : ℤ) (d : ℕ) → t *ℤ signed t (pos d) ≡ pos (unsigned_abs t * d)
signed-times (pos n) d = pos-*ℤ-pos n d
signed-times (negsuc n) zero = *ℤ_comm (negsuc n) (pos 0) ∙ zero-*ℤ (negsuc n) ∙ ap pos (omega arith)
signed-times (negsuc n) (suc d) = refl

times-reciprocal : (x : Fraction) → x ≢ rational.zero → times x (reciprocal x) ≡ one
times-reciprocal x h =
    let d = denominator x in
    let m = max 1 (unsigned_abs x.top) in
    let p = positive-max (unsigned_abs x.top) in
    let size : unsigned_abs x.top ≡ m = omega (arith, top-positive x h) in
    let product : x.top *ℤ signed x.top x.bottom ≡ pos (d * m) = ap (λ b. x.top *ℤ signed x.top b) (magnitude-is x.bottom x.lowest.0) ∙ signed-times x.top d ∙ ap (λ k. pos (k * d)) size ∙ ap pos (omega arith) in
    let cross : (x.top *ℤ signed x.top x.bottom) *ℤ pos 1 ≡ pos 1 *ℤ pos (d * m) = ap (λ k. k *ℤ pos 1) product ∙ *ℤ_comm (pos (d * m)) (pos 1) in
    stands-same (times x (reciprocal x)) one (x.top *ℤ signed x.top x.bottom) (pos 1) (d * m) 1 (positive-mul d m (positive x) p) (omega arith) (stands-times x (reciprocal x) x.top (signed x.top x.bottom) d m refl (stands-reduced (signed x.top x.bottom) m p)) refl cross

negative-in : (x : Fraction) → IsTrue (holds x) → IsTrue (holds (negative x))
negative-in x h =
    let top = and-first (in_range x.top) (in_range x.bottom) h in
    and-both (in_range (neg_ℤ x.top)) (in_range x.bottom) (subst (λ m. IsTrue (nat_lt m (2 ^ 127))) (sym (magnitude-neg x.top)) top) (and-second (in_range x.top) (in_range x.bottom) h)

pub reciprocal-in : (x : Fraction) → IsTrue (holds x) → IsTrue (holds (reciprocal x))
reciprocal-in x h =
    let top = and-first (in_range x.top) (in_range x.bottom) h in
    let bottom = and-second (in_range x.top) (in_range x.bottom) h in
    let m = unsigned_abs x.top in
    reduced-holds (signed x.top x.bottom) (max 1 m) (positive-max m) (subst (λ k. IsTrue (nat_lt k (2 ^ 127))) (sym (magnitude-signed x.top x.bottom)) bottom) (max-in m top)

pub rational_field : FieldLaws rationals negative reciprocal
rational_field = record {
  plus_negative = plus-negative;
  times_inverse = times-reciprocal;
  negative_in = negative-in;
  inverse_in = λ x n h. reciprocal-in x h;
}
