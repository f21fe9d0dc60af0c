-- What is known of greatest common divisors.
use Rattle.std.proofs.Common.{◌≡◌, ℕ, zero, suc, ◌+◌, ◌*◌, ◌/◌, ◌%◌, ◌≤◌, ◌<◌, refl, sym, ap, ◌∙◌, arith, subst}
use Rattle.std.specs.Int.{IsGcd, ◌∣◌}
use Rattle.std.proofs.lemmas.Nat.Gcd.{IsGcd-from_zero, IsGcd-from_mod, IsGcd-swap, same_from_IsGcd}
use native.Mathlib.Nat.{div-add-mod, mod-lt, div-mul_cancel, dvd_trans, dvd_antisymm, mul-dvd-mul_right, pos_of_dvd_of_pos, eq_of_mul-eq-mul_right, eq-one_of_dvd-one, dvd-add_iff_right, dvd-mul_right, dvd-mul_right_of_dvd, one-mul}
use Rattle.vc_num.specs.Divisors.{gcd_upto, gcd_of}

upto-is : (n a b : ℕ) → b ≤ n → IsGcd a b (gcd_upto n a b)
upto-is zero a b le = IsGcd-from_zero a b (omega arith)
upto-is (suc n) a zero le = IsGcd-from_zero a zero refl
upto-is (suc n) a (suc b) le =
    let below : a % suc b < suc b = mod-lt a {m = suc b} (omega arith) in
    IsGcd-from_mod a (suc b) _ (upto-is n (suc b) (a % suc b) (omega arith))

-- it is the greatest common divisor
pub gcd_of-is : (a b : ℕ) → IsGcd a b (gcd_of a b)
gcd_of-is a b = upto-is b a b (omega arith)

-- and there is no other
pub gcd_of-from : (a b g : ℕ) → IsGcd a b g → g ≡ gcd_of a b
gcd_of-from a b g h = same_from_IsGcd a b g (gcd_of a b) h (gcd_of-is a b)

regroup : (m q r c : ℕ) → (m * c) * q + r * c ≡ (m * q + r) * c
regroup m q r c = omega arith

-- what divides a·c and b·c divides gcd(a, b)·c
upto-dvd : (n a b d c : ℕ) → b ≤ n → d ∣ a * c → d ∣ b * c → d ∣ gcd_upto n a b * c
upto-dvd zero a b d c le p q = p
upto-dvd (suc n) a zero d c le p q = p
upto-dvd (suc n) a (suc b) d c le p q =
    let below : a % suc b < suc b = mod-lt a {m = suc b} (omega arith) in
    let parts : (suc b * c) * (a / suc b) + (a % suc b) * c ≡ a * c = regroup (suc b) (a / suc b) (a % suc b) c ∙ ap (λ x. x * c) (div-add-mod a (suc b)) in
    let first : d ∣ (suc b * c) * (a / suc b) = dvd-mul_right_of_dvd d q (a / suc b) in
    let both : d ∣ (suc b * c) * (a / suc b) + (a % suc b) * c = subst (λ x. d ∣ x) (sym parts) p in
    upto-dvd n (suc b) (a % suc b) d c (omega arith) q ((dvd-add_iff_right d first).1 both)

-- a divisor of a product that has nothing in common with one factor divides the other
pub gauss : (a b c : ℕ) → gcd_of a b ≡ 1 → a ∣ b * c → a ∣ c
gauss a b c e h =
    let d : a ∣ gcd_of a b * c = upto-dvd b a b a c (omega arith) (dvd-mul_right a c) h in
    subst (λ x. a ∣ x) (one-mul c) (subst (λ g. a ∣ g * c) e d)

-- a common divisor of two divides their greatest one
pub gcd_of-dvd : (a b d : ℕ) → d ∣ a → d ∣ b → d ∣ gcd_of a b
gcd_of-dvd a b d p q = (gcd_of-is a b).2 d p q

-- whichever number comes first
pub gcd_of-comm : (a b : ℕ) → gcd_of a b ≡ gcd_of b a
gcd_of-comm a b = gcd_of-from b a (gcd_of a b) (IsGcd-swap a b (gcd_of a b) (gcd_of-is a b))

-- that of three numbers, whichever two come first
pub gcd_of-assoc : (a b c : ℕ) → gcd_of (gcd_of a b) c ≡ gcd_of a (gcd_of b c)
gcd_of-assoc a b c =
    let ab = gcd_of-is a b in
    let bc = gcd_of-is b c in
    let all = gcd_of-is (gcd_of a b) c in
    let g = gcd_of (gcd_of a b) c in
    let first : g ∣ a = dvd_trans g all.0 ab.0 in
    let second : g ∣ gcd_of b c = bc.2 g (dvd_trans g all.0 ab.1) all.1 in
    let common : (d : ℕ) → d ∣ a → d ∣ gcd_of b c → d ∣ g = λ d p q. all.2 d (ab.2 d p (dvd_trans d q bc.0)) (dvd_trans d q bc.1) in
    gcd_of-from a (gcd_of b c) g (first, second, common)

-- zero in front leaves the other number
pub gcd_of-zero_left : (a : ℕ) → gcd_of 0 a ≡ a
gcd_of-zero_left a = gcd_of-comm 0 a

-- a factor of both is a factor of the greatest common divisor
pub gcd_of-times : (a b c : ℕ) → gcd_of (a * c) (b * c) ≡ gcd_of a b * c
gcd_of-times a b c =
    let is = gcd_of-is a b in
    let g = gcd_of (a * c) (b * c) in
    let both = gcd_of-is (a * c) (b * c) in
    let down : g ∣ gcd_of a b * c = upto-dvd b a b g c (omega arith) both.0 both.1 in
    let up : gcd_of a b * c ∣ g = both.2 (gcd_of a b * c) (mul-dvd-mul_right (gcd_of a b) is.0 c) (mul-dvd-mul_right (gcd_of a b) is.1 c) in
    dvd_antisymm down up

-- the greatest common divisor with a positive number is positive
pub gcd_of-positive : (a b : ℕ) → 0 < b → 0 < gcd_of a b
gcd_of-positive a b p = pos_of_dvd_of_pos (gcd_of-is a b).1 p

-- what is left after division by the greatest common divisor has nothing in common
pub gcd_of-quotients : (a b : ℕ) → 0 < gcd_of a b → gcd_of (a / gcd_of a b) (b / gcd_of a b) ≡ 1
gcd_of-quotients a b p =
    let g = gcd_of a b in
    let is = gcd_of-is a b in
    let left : a / g * g ≡ a = div-mul_cancel g is.0 in
    let right : b / g * g ≡ b = div-mul_cancel g is.1 in
    let times : gcd_of (a / g * g) (b / g * g) ≡ gcd_of (a / g) (b / g) * g = gcd_of-times (a / g) (b / g) g in
    let same : gcd_of (a / g) (b / g) * g ≡ 1 * g = sym times ∙ ap (λ x. gcd_of x (b / g * g)) left ∙ ap (λ x. gcd_of a x) right ∙ sym (one-mul g) in
    eq_of_mul-eq-mul_right g p (gcd_of (a / g) (b / g)) 1 same

-- two numbers that have nothing in common with a third have a product that has nothing in common with it
pub coprime-times : (a b c : ℕ) → gcd_of a c ≡ 1 → gcd_of b c ≡ 1 → gcd_of (a * b) c ≡ 1
coprime-times a b c p q =
    let g = gcd_of (a * b) c in
    let is = gcd_of-is (a * b) c in
    let h = gcd_of g a in
    let hs = gcd_of-is g a in
    let common : h ∣ gcd_of a c = gcd_of-dvd a c h hs.1 (dvd_trans h hs.0 is.1) in
    let nothing : h ≡ 1 = eq-one_of_dvd-one (subst (λ x. h ∣ x) p common) in
    let second : g ∣ b = gauss g a b nothing is.0 in
    let rest : g ∣ gcd_of b c = gcd_of-dvd b c g second is.1 in
    eq-one_of_dvd-one (subst (λ x. g ∣ x) q rest)

exchange : (q e g : ℕ) → q * (e * g) ≡ (q * g) * e
exchange q e g = omega arith

-- dividing both by a common divisor exchanges it across a product
pub quotients-across : (a b g : ℕ) → g ∣ a → g ∣ b → a / g * b ≡ a * (b / g)
quotients-across a b g p q =
    let left : a / g * g ≡ a = div-mul_cancel g p in
    let right : b / g * g ≡ b = div-mul_cancel g q in
    ap (λ x. a / g * x) (sym right) ∙ exchange (a / g) (b / g) g ∙ ap (λ x. x * (b / g)) left
