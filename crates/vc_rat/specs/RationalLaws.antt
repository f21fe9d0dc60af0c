-- The laws of the rational numbers.
use Rattle.std.specs.Prelude.{◌≡◌, ◌≢◌, ◌*◌, max, ℤ, pos, ◌+ℤ◌, ◌-ℤ◌, ◌*ℤ◌, ◌<ℤ◌, unsigned_abs, nat_lt, IsTrue, false, ◌↔◌}
use Rattle.std.proofs.Common.{refl, sym, ap, ◌∙◌, arith, subst}
use Rattle.std.proofs.lemmas.Int.{ints}
use Rattle.vc_model.specs.WeightSet.{SemiringLaws, Absorbs}
use Rattle.vc_model.specs.Rearranged.{semiring}
use Rattle.vc_rat.specs.Reduced.{positive-mul, positive-max, magnitude-is}
use Rattle.vc_rat.specs.Rationals.{plus, times, zero, one, star, denominator, positive, rationals}
use Rattle.vc_rat.specs.Stands.{stands-reduced, stands-plus, stands-times, stands-same}
use Rattle.vc_rat.specs.Whole.{whole, whole_laws}
use Rattle.vc_rat.specs.declared.fraction.Fraction.{Fraction}

assoc-poly : (x y z b c d : ℤ) → ((x *ℤ c +ℤ y *ℤ b) *ℤ d +ℤ z *ℤ (b *ℤ c)) *ℤ (b *ℤ (c *ℤ d)) ≡ (x *ℤ (c *ℤ d) +ℤ (y *ℤ d +ℤ z *ℤ c) *ℤ b) *ℤ ((b *ℤ c) *ℤ d)
unfolding whole
assoc-poly x y z b c d = simp (semiring, whole_laws)

distrib-poly : (x y z b c d : ℤ) → (x *ℤ (y *ℤ d +ℤ z *ℤ c)) *ℤ ((b *ℤ c) *ℤ (b *ℤ d)) ≡ ((x *ℤ y) *ℤ (b *ℤ d) +ℤ (x *ℤ z) *ℤ (b *ℤ c)) *ℤ (b *ℤ (c *ℤ d))
unfolding whole
distrib-poly x y z b c d = simp (semiring, whole_laws)

times-poly : (x y z b c d : ℤ) → ((x *ℤ y) *ℤ z) *ℤ (b *ℤ (c *ℤ d)) ≡ (x *ℤ (y *ℤ z)) *ℤ ((b *ℤ c) *ℤ d)
unfolding whole
times-poly x y z b c d = simp (semiring, whole_laws)

comm-poly : (x y b c : ℤ) → (x *ℤ c +ℤ y *ℤ b) *ℤ (c *ℤ b) ≡ (y *ℤ b +ℤ x *ℤ c) *ℤ (b *ℤ c)
unfolding whole
comm-poly x y b c = simp (semiring, whole_laws)

times-comm-poly : (x y b c : ℤ) → (x *ℤ y) *ℤ (c *ℤ b) ≡ (y *ℤ x) *ℤ (b *ℤ c)
unfolding whole
times-comm-poly x y b c = simp (semiring, whole_laws)

zero-poly : (x b : ℤ) → (x *ℤ pos 1 +ℤ pos 0 *ℤ b) *ℤ b ≡ x *ℤ (b *ℤ pos 1)
unfolding whole
zero-poly x b = simp (semiring, whole_laws)

one-poly : (x b : ℤ) → (x *ℤ pos 1) *ℤ b ≡ x *ℤ (b *ℤ pos 1)
unfolding whole
one-poly x b = simp (semiring, whole_laws)

zero-times-poly : (x b : ℤ) → (x *ℤ pos 0) *ℤ pos 1 ≡ pos 0 *ℤ (b *ℤ pos 1)
unfolding whole
zero-times-poly x b = simp (semiring, whole_laws)

star-poly : (t b d : ℤ) → d +ℤ t ≡ b → b *ℤ (pos 1 *ℤ (b *ℤ d)) ≡ (pos 1 *ℤ (b *ℤ d) +ℤ (t *ℤ b) *ℤ pos 1) *ℤ d
unfolding whole
star-poly t b d e =
    let first : b *ℤ (pos 1 *ℤ (b *ℤ d)) ≡ (b *ℤ d) *ℤ b = simp (semiring, whole_laws) in
    let second : (b *ℤ d) *ℤ (d +ℤ t) ≡ (pos 1 *ℤ (b *ℤ d) +ℤ (t *ℤ b) *ℤ pos 1) *ℤ d = simp (semiring, whole_laws) in
    first ∙ ap (λ k. (b *ℤ d) *ℤ k) (sym e) ∙ second

plus-assoc : (x y z : Fraction) → plus (plus x y) z ≡ plus x (plus y z)
plus-assoc x y z =
    let left = stands-plus (plus x y) z (x.top *ℤ pos (denominator y) +ℤ y.top *ℤ pos (denominator x)) z.top (denominator x * denominator y) (denominator z) (stands-plus x y x.top y.top (denominator x) (denominator y) refl refl) refl in
    let right = stands-plus x (plus y z) x.top (y.top *ℤ pos (denominator z) +ℤ z.top *ℤ pos (denominator y)) (denominator x) (denominator y * denominator z) refl (stands-plus y z y.top z.top (denominator y) (denominator z) refl refl) in
    let pd = positive-mul (denominator x * denominator y) (denominator z) (positive-mul (denominator x) (denominator y) (positive x) (positive y)) (positive z) in
    let pe = positive-mul (denominator x) (denominator y * denominator z) (positive x) (positive-mul (denominator y) (denominator z) (positive y) (positive z)) in
    stands-same (plus (plus x y) z) (plus x (plus y z)) _ _ _ _ pd pe left right (assoc-poly x.top y.top z.top (pos (denominator x)) (pos (denominator y)) (pos (denominator z)))

times-assoc : (x y z : Fraction) → times (times x y) z ≡ times x (times y z)
times-assoc x y z =
    let left = stands-times (times x y) z (x.top *ℤ y.top) z.top (denominator x * denominator y) (denominator z) (stands-times x y x.top y.top (denominator x) (denominator y) refl refl) refl in
    let right = stands-times x (times y z) x.top (y.top *ℤ z.top) (denominator x) (denominator y * denominator z) refl (stands-times y z y.top z.top (denominator y) (denominator z) refl refl) in
    let pd = positive-mul (denominator x * denominator y) (denominator z) (positive-mul (denominator x) (denominator y) (positive x) (positive y)) (positive z) in
    let pe = positive-mul (denominator x) (denominator y * denominator z) (positive x) (positive-mul (denominator y) (denominator z) (positive y) (positive z)) in
    stands-same (times (times x y) z) (times x (times y z)) _ _ _ _ pd pe left right (times-poly x.top y.top z.top (pos (denominator x)) (pos (denominator y)) (pos (denominator z)))

times-plus : (x y z : Fraction) → times x (plus y z) ≡ plus (times x y) (times x z)
times-plus x y z =
    let left = stands-times x (plus y z) x.top (y.top *ℤ pos (denominator z) +ℤ z.top *ℤ pos (denominator y)) (denominator x) (denominator y * denominator z) refl (stands-plus y z y.top z.top (denominator y) (denominator z) refl refl) in
    let right = stands-plus (times x y) (times x z) (x.top *ℤ y.top) (x.top *ℤ z.top) (denominator x * denominator y) (denominator x * denominator z) (stands-times x y x.top y.top (denominator x) (denominator y) refl refl) (stands-times x z x.top z.top (denominator x) (denominator z) refl refl) in
    let pd = positive-mul (denominator x) (denominator y * denominator z) (positive x) (positive-mul (denominator y) (denominator z) (positive y) (positive z)) in
    let pe = positive-mul (denominator x * denominator y) (denominator x * denominator z) (positive-mul (denominator x) (denominator y) (positive x) (positive y)) (positive-mul (denominator x) (denominator z) (positive x) (positive z)) in
    stands-same (times x (plus y z)) (plus (times x y) (times x z)) _ _ _ _ pd pe left right (distrib-poly x.top y.top z.top (pos (denominator x)) (pos (denominator y)) (pos (denominator z)))

plus-comm : (x y : Fraction) → plus x y ≡ plus y x
plus-comm x y =
    let pd = positive-mul (denominator x) (denominator y) (positive x) (positive y) in
    let pe = positive-mul (denominator y) (denominator x) (positive y) (positive x) in
    stands-same (plus x y) (plus y x) _ _ _ _ pd pe (stands-plus x y x.top y.top (denominator x) (denominator y) refl refl) (stands-plus y x y.top x.top (denominator y) (denominator x) refl refl) (comm-poly x.top y.top (pos (denominator x)) (pos (denominator y)))

pub times-comm : (x y : Fraction) → times x y ≡ times y x
times-comm x y =
    let pd = positive-mul (denominator x) (denominator y) (positive x) (positive y) in
    let pe = positive-mul (denominator y) (denominator x) (positive y) (positive x) in
    stands-same (times x y) (times y x) _ _ _ _ pd pe (stands-times x y x.top y.top (denominator x) (denominator y) refl refl) (stands-times y x y.top x.top (denominator y) (denominator x) refl refl) (times-comm-poly x.top y.top (pos (denominator x)) (pos (denominator y)))

plus-zero : (x : Fraction) → plus x zero ≡ x
plus-zero x = stands-same (plus x zero) x _ _ _ _ (positive-mul (denominator x) 1 (positive x) (omega arith)) (positive x) (stands-plus x zero x.top (pos 0) (denominator x) 1 refl refl) refl (zero-poly x.top (pos (denominator x)))

pub times-one : (x : Fraction) → times x one ≡ x
times-one x = stands-same (times x one) x _ _ _ _ (positive-mul (denominator x) 1 (positive x) (omega arith)) (positive x) (stands-times x one x.top (pos 1) (denominator x) 1 refl refl) refl (one-poly x.top (pos (denominator x)))

pub times-zero : (x : Fraction) → times x zero ≡ zero
times-zero x = stands-same (times x zero) zero (x.top *ℤ pos 0) (pos 0) (denominator x * 1) 1 (positive-mul (denominator x) 1 (positive x) (omega arith)) (omega arith) (stands-times x zero x.top (pos 0) (denominator x) 1 refl refl) refl (zero-times-poly x.top (pos (denominator x)))

one-not-zero : one ≢ zero
one-not-zero e = let tops : pos 1 ≡ pos 0 = ap (λ (x : Fraction). x.top) e in absurd (cc tops)

star-difference : (t b : ℤ) → pos 0 <ℤ b → IsTrue (nat_lt (unsigned_abs t) (unsigned_abs b)) → pos (max 1 (unsigned_abs (b -ℤ t))) +ℤ t ≡ b
star-difference t b p h = grind (arith, ints)

star-is : (x : Fraction) → IsTrue (nat_lt (unsigned_abs x.top) (denominator x)) → star x ≡ plus one (times x (star x))
star-is x h =
    let d = max 1 (unsigned_abs (x.bottom -ℤ x.top)) in
    let p = positive-max (unsigned_abs (x.bottom -ℤ x.top)) in
    let bd = positive-mul (denominator x) d (positive x) p in
    let left = stands-reduced x.bottom d p in
    let product = stands-times x (star x) x.top x.bottom (denominator x) d refl left in
    let right = stands-plus one (times x (star x)) (pos 1) (x.top *ℤ x.bottom) 1 (denominator x * d) refl product in
    let same = star-poly x.top x.bottom (pos d) (star-difference x.top x.bottom x.lowest.0 h) in
    stands-same (star x) (plus one (times x (star x))) x.bottom (pos 1 *ℤ pos (denominator x * d) +ℤ (x.top *ℤ x.bottom) *ℤ pos 1) d (1 * (denominator x * d)) p (positive-mul 1 (denominator x * d) (omega arith) bd) left right
    (subst (λ b. x.bottom *ℤ (pos 1 *ℤ (b *ℤ pos d)) ≡ (pos 1 *ℤ (b *ℤ pos d) +ℤ (x.top *ℤ x.bottom) *ℤ pos 1) *ℤ pos d) (magnitude-is x.bottom x.lowest.0) same)

pub rational_laws : SemiringLaws rationals
rational_laws = record {
  plus_assoc = plus-assoc;
  plus_comm = plus-comm;
  plus_zero = plus-zero;
  times_assoc = times-assoc;
  times_comm = times-comm;
  times_one = times-one;
  times_zero = times-zero;
  times_plus = times-plus;
  one_is_not_zero = one-not-zero;
  star_zero = refl;
  star_is = star-is;
}

pub rationals_do_not_absorb : IsTrue false ↔ Absorbs rationals
rationals_do_not_absorb = (λ h. absurd (cc h), λ h. let tops : pos 2 ≡ pos 1 = ap (λ (x : Fraction). x.top) (h one) in absurd (cc tops))
