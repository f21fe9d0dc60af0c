-- A row of whole numbers splits into its greatest common divisor, with a sign, and the quotients.
use Rattle.std.specs.Prelude.{◌≡◌, IsTrue, ℕ, zero, suc, ◌<◌, ◌≤◌, ◌/◌, ◌^◌, nat_lt, ◌*◌, min, Bool, true, false, cond, if◌then◌else◌, List, [], ◌∷◌, map, refl, ℤ, pos, negsuc, neg_ℤ, ◌+ℤ◌, ◌*ℤ◌, unsigned_abs, int_div, int_rem}
use Rattle.std.specs.Int.{int_signum, ◌∣◌}
use Rattle.std.specs.Ordering.{int_eq}
use Rattle.std.proofs.Common.{arith, ap, sym, subst, ◌∙◌}
use Rattle.std.proofs.Math.IntN.{*ℤ_comm, pos-*ℤ-pos, negsuc-*ℤ-pos, zero-*ℤ}
use Rattle.std.proofs.lemmas.Bool.Decides.{nat_tests}
use Rattle.std.proofs.lemmas.List.Elements.{All-head, All-tail, All-map, All-weaker}
use Rattle.std.proofs.lemmas.Int.{ints, quot-rem, unsigned_abs-mul}
use native.Mathlib.Nat.{dvd_refl, dvd_trans, mod-eq-zero_of_dvd, mul-dvd-mul_left, eq-zero_of_zero-dvd, le_of_dvd, div-le_self}
use Rattle.vc_model.specs.WeightSet.{WeightSet, SemiringLaws, SplitLaws, IsZeroRow, InRange}
use Rattle.vc_ring.specs.Splits.{SplitRanges}
use Rattle.vc_model.specs.Rearranged.{semiring}
use Rattle.vc_num.specs.Divisors.{gcd_of}
use Rattle.vc_num.specs.Range.{in_range}
use Rattle.vc_num.specs.Divisibility.{gcd_of-is, gcd_of-times, gcd_of-zero_left}
use Rattle.vc_num.specs.Integers.{*ℤ_assoc, *ℤ_cancel_left, *ℤ_zero_left}
use Rattle.vc_basic.specs.Wholes.{wholes}
use Rattle.vc_basic.specs.WholeLaws.{whole_laws}

-- the greatest common divisor of the entries
abbrev pub common_divisor : List ℤ → ℕ
common_divisor [] = 0
common_divisor (z ∷ row) = gcd_of (unsigned_abs z) (common_divisor row)

-- 1 or -1, the sign of the first entry that is not zero; 0 where each entry is zero
abbrev pub leading_sign : List ℤ → ℤ
leading_sign [] = pos 0
leading_sign (z ∷ row) = if int_eq z (pos 0) then leading_sign row else int_signum z

-- the greatest common divisor with the sign of the first entry that is not zero
abbrev pub whole_factor : List ℤ → ℤ
whole_factor row = leading_sign row *ℤ pos (common_divisor row)

-- the quotients of the entries by it
abbrev pub whole_normal : List ℤ → List ℤ
whole_normal row = map (λ z. int_div z (whole_factor row)) row

rem-zero : (z f : ℤ) → unsigned_abs f ∣ unsigned_abs z → int_rem z f ≡ pos 0
rem-zero (pos a) f h = ap pos (mod-eq-zero_of_dvd (unsigned_abs f) h)
rem-zero (negsuc a) f h = ap (λ n. neg_ℤ (pos n)) (mod-eq-zero_of_dvd (unsigned_abs f) h)

plus-zero : (z : ℤ) → z +ℤ pos 0 ≡ z
plus-zero z = omega (arith, ints)

-- a quotient without rest, times the divisor
exact : (f z : ℤ) → unsigned_abs f ∣ unsigned_abs z → f *ℤ int_div z f ≡ z
exact f z h =
    *ℤ_comm f (int_div z f)
    ∙ sym (plus-zero (int_div z f *ℤ f))
    ∙ ap (λ r. int_div z f *ℤ f +ℤ r) (sym (rem-zero z f h))
    ∙ quot-rem z f

restored_each : (f : ℤ) (row : List ℤ) → unsigned_abs f ∣ common_divisor row → map (λ z. f *ℤ z) (map (λ z. int_div z f) row) ≡ row
restored_each f [] h = refl
restored_each f (z ∷ row) h =
    let is = gcd_of-is (unsigned_abs z) (common_divisor row) in
    let first : unsigned_abs f ∣ unsigned_abs z = dvd_trans (unsigned_abs f) h is.0 in
    let rest : unsigned_abs f ∣ common_divisor row = dvd_trans (unsigned_abs f) h is.1 in
    ap (λ b. b ∷ map (λ y. f *ℤ y) (map (λ y. int_div y f) row)) (exact f z first)
    ∙ ap (λ r. z ∷ r) (restored_each f row rest)

sign-size : (z : ℤ) → int_eq z (pos 0) ≡ false → unsigned_abs (int_signum z) ≡ 1
sign-size (pos zero) h = absurd (cc)
sign-size (pos (suc n)) h = omega arith
sign-size (negsuc n) h = refl

zero_test : (z : ℤ) → int_eq z (pos 0) ≡ true → z ≡ pos 0
zero_test z h = grind (arith, ints)

size_by : (b : Bool) (z : ℤ) (row : List ℤ) → int_eq z (pos 0) ≡ b
    → unsigned_abs (leading_sign row) * common_divisor row ≡ common_divisor row
    → unsigned_abs (cond b (leading_sign row) (int_signum z)) * gcd_of (unsigned_abs z) (common_divisor row) ≡ gcd_of (unsigned_abs z) (common_divisor row)
size_by true z row e h =
    let none : z ≡ pos 0 = zero_test z e in
    let same : gcd_of (unsigned_abs z) (common_divisor row) ≡ common_divisor row = ap (λ y. gcd_of (unsigned_abs y) (common_divisor row)) none ∙ gcd_of-zero_left (common_divisor row) in
    rw same h
size_by false z row e h = rw (sign-size z e) (omega arith)

leading-size : (row : List ℤ) → unsigned_abs (leading_sign row) * common_divisor row ≡ common_divisor row
leading-size [] = refl
leading-size (z ∷ row) = size_by (int_eq z (pos 0)) z row refl (leading-size row)

-- the factor's magnitude is the greatest common divisor
pub factor-size : (row : List ℤ) → unsigned_abs (whole_factor row) ≡ common_divisor row
factor-size row = unsigned_abs-mul (leading_sign row) (pos (common_divisor row)) ∙ leading-size row

zero_size : (z : ℤ) → unsigned_abs z ≡ 0 → z ≡ pos 0
zero_size (pos n) e = ap pos e
zero_size (negsuc n) e = absurd (omega (arith, e))

-- a row whose entries have the greatest common divisor 0 is zero
pub zero_row : (row : List ℤ) → common_divisor row ≡ 0 → IsZeroRow wholes row
zero_row [] e = tt
zero_row (z ∷ row) e =
    let is = gcd_of-is (unsigned_abs z) (common_divisor row) in
    let first : unsigned_abs z ≡ 0 = eq-zero_of_zero-dvd (subst (λ d. d ∣ unsigned_abs z) e is.0) in
    let rest : common_divisor row ≡ 0 = eq-zero_of_zero-dvd (subst (λ d. d ∣ common_divisor row) e is.1) in
    (zero_size z first, zero_row row rest)

positive : (n : ℕ) → (n ≡ 0 → ⊥) → 0 < n
positive zero h = absurd (h refl)
positive (suc n) h = omega arith

-- the factor of a row that is not zero is not zero
pub factor-positive : (row : List ℤ) → ¬ IsZeroRow wholes row → 0 < unsigned_abs (whole_factor row)
factor-positive row h = let size = factor-size row in positive (unsigned_abs (whole_factor row)) (λ e. h (zero_row row (sym size ∙ e)))

zero_kept_by : (f : ℤ) (other : List ℤ) → 0 < unsigned_abs f → IsZeroRow wholes (map (λ z. f *ℤ z) other) → IsZeroRow wholes other
zero_kept_by f [] h z = tt
zero_kept_by f (a ∷ other) h z = (*ℤ_zero_left f a h z.0, zero_kept_by f other h z.1)

times-positive : (m n : ℕ) → 0 < m → 0 < n → 0 < m * n
times-positive zero n h k = elim h [ ]
times-positive (suc m) zero h k = elim k [ ]
times-positive (suc m) (suc n) h k = omega arith

negative : (k : ℕ) → 0 < k → int_signum (neg_ℤ (pos k)) ≡ negsuc 0
negative zero h = elim h [ ]
negative (suc k) h = refl

one_at_least : (n : ℕ) → min (suc n) 1 ≡ 1
one_at_least n = omega arith

least_of_product : (m n : ℕ) → min (suc m * suc n) 1 ≡ 1
least_of_product m n = omega arith

least-times : (m n : ℕ) → min (suc m * n) 1 ≡ min (suc m) 1 * min n 1
least-times m zero = omega arith
least-times m (suc n) = least_of_product m n ∙ sym (ap (λ k. k * min (suc n) 1) (one_at_least m) ∙ ap (λ k. 1 * k) (one_at_least n))

opposite : (m n : ℕ) → int_signum (negsuc m *ℤ pos (suc n)) ≡ negsuc 0
opposite m n = ap int_signum (negsuc-*ℤ-pos m (suc n)) ∙ negative (suc m * suc n) (times-positive (suc m) (suc n) (omega arith) (omega arith))

signum-times : (a b : ℤ) → int_signum (a *ℤ b) ≡ int_signum a *ℤ int_signum b
signum-times (pos zero) b = ap int_signum (zero-*ℤ b) ∙ sym (zero-*ℤ (int_signum b))
signum-times (pos (suc m)) (pos n) = ap int_signum (pos-*ℤ-pos (suc m) n) ∙ ap pos (least-times m n) ∙ sym (pos-*ℤ-pos (min (suc m) 1) (min n 1))
signum-times (pos (suc m)) (negsuc n) = ap int_signum (*ℤ_comm (pos (suc m)) (negsuc n)) ∙ opposite n m ∙ ap (λ k. pos k *ℤ negsuc 0) (sym (one_at_least m))
signum-times (negsuc m) (pos zero) = ap int_signum (*ℤ_comm (negsuc m) (pos 0) ∙ zero-*ℤ (negsuc m))
signum-times (negsuc m) (pos (suc n)) = opposite m n ∙ ap (λ k. negsuc 0 *ℤ pos k) (sym (one_at_least n))
signum-times (negsuc m) (negsuc n) = ap pos (least_of_product m n)

one_times : (z : ℤ) → pos 1 *ℤ z ≡ z
one_times z = omega (arith, ints)

signum-size : (z : ℤ) → z ≡ int_signum z *ℤ pos (unsigned_abs z)
signum-size (pos zero) = refl
signum-size (pos (suc n)) = sym (ap (λ k. pos k *ℤ pos (suc n)) (one_at_least n) ∙ one_times (pos (suc n)))
signum-size (negsuc n) = omega (arith, ints)

same_test : (b c : Bool) (f z : ℤ) → 0 < unsigned_abs f → int_eq z (pos 0) ≡ b → int_eq (f *ℤ z) (pos 0) ≡ c → c ≡ b
same_test true true f z h e k = refl
same_test false false f z h e k = refl
same_test true false f z h e k =
    let product : f *ℤ z ≡ pos 0 = ap (λ y. f *ℤ y) (zero_test z e) ∙ *ℤ_comm f (pos 0) ∙ zero-*ℤ f in
    let test : int_eq (f *ℤ z) (pos 0) ≡ true = ap (λ y. int_eq y (pos 0)) product in
    absurd (cc)
same_test false true f z h e k =
    let none : z ≡ pos 0 = *ℤ_zero_left f z h (zero_test (f *ℤ z) k) in
    let test : int_eq z (pos 0) ≡ true = ap (λ y. int_eq y (pos 0)) none in
    absurd (cc)

test-times : (f z : ℤ) → 0 < unsigned_abs f → int_eq (f *ℤ z) (pos 0) ≡ int_eq z (pos 0)
test-times f z h = same_test (int_eq z (pos 0)) (int_eq (f *ℤ z) (pos 0)) f z h refl refl

sign_by : (b : Bool) (s l z : ℤ) (m : ℤ) → m ≡ s *ℤ l → cond b m (s *ℤ z) ≡ s *ℤ cond b l z
sign_by true s l z m e = e
sign_by false s l z m e = refl

leading-times : (f : ℤ) (other : List ℤ) → 0 < unsigned_abs f → leading_sign (map (λ z. f *ℤ z) other) ≡ int_signum f *ℤ leading_sign other
leading-times f [] h = sym (*ℤ_comm (int_signum f) (pos 0) ∙ zero-*ℤ (int_signum f))
leading-times f (z ∷ other) h =
    ap (λ b. cond b (leading_sign (map (λ y. f *ℤ y) other)) (int_signum (f *ℤ z))) (test-times f z h)
    ∙ ap (λ s. cond (int_eq z (pos 0)) (leading_sign (map (λ y. f *ℤ y) other)) s) (signum-times f z)
    ∙ sign_by (int_eq z (pos 0)) (int_signum f) (leading_sign other) (int_signum z) (leading_sign (map (λ y. f *ℤ y) other)) (leading-times f other h)

divisor-times : (f : ℤ) (other : List ℤ) → common_divisor (map (λ z. f *ℤ z) other) ≡ common_divisor other * unsigned_abs f
divisor-times f [] = omega arith
divisor-times f (z ∷ other) =
    let size : unsigned_abs (f *ℤ z) ≡ unsigned_abs z * unsigned_abs f = unsigned_abs-mul f z ∙ omega arith in
    ap (λ n. gcd_of n (common_divisor (map (λ y. f *ℤ y) other))) size
    ∙ ap (λ n. gcd_of (unsigned_abs z * unsigned_abs f) n) (divisor-times f other)
    ∙ gcd_of-times (unsigned_abs z) (common_divisor other) (unsigned_abs f)

exchanged : {V : Type 0} {R : WeightSet V} (L : SemiringLaws R) (s l c m : V) → R.times (R.times s l) (R.times c m) ≡ R.times (R.times s m) (R.times l c)
exchanged L s l c m = simp (semiring, L)

factor-times : (f : ℤ) (other : List ℤ) → 0 < unsigned_abs f → whole_factor (map (λ z. f *ℤ z) other) ≡ f *ℤ whole_factor other
factor-times f other h =
    ap (λ s. s *ℤ pos (common_divisor (map (λ z. f *ℤ z) other))) (leading-times f other h)
    ∙ ap (λ n. (int_signum f *ℤ leading_sign other) *ℤ pos n) (divisor-times f other)
    ∙ ap (λ n. (int_signum f *ℤ leading_sign other) *ℤ n) (sym (pos-*ℤ-pos (common_divisor other) (unsigned_abs f)))
    ∙ exchanged whole_laws (int_signum f) (leading_sign other) (pos (common_divisor other)) (pos (unsigned_abs f))
    ∙ ap (λ y. y *ℤ whole_factor other) (sym (signum-size f))

quotient-times : (f g z : ℤ) → 0 < unsigned_abs f → 0 < unsigned_abs g → unsigned_abs g ∣ unsigned_abs z → int_div (f *ℤ z) (f *ℤ g) ≡ int_div z g
quotient-times f g z h k d =
    let sizes : unsigned_abs (f *ℤ g) ≡ unsigned_abs f * unsigned_abs g = unsigned_abs-mul f g in
    let whole : unsigned_abs (f *ℤ z) ≡ unsigned_abs f * unsigned_abs z = unsigned_abs-mul f z in
    let divides : unsigned_abs (f *ℤ g) ∣ unsigned_abs (f *ℤ z) = rw (sizes, whole) (mul-dvd-mul_left (unsigned_abs g) (unsigned_abs f) d) in
    let both : 0 < unsigned_abs (f *ℤ g) = rw sizes (times-positive (unsigned_abs f) (unsigned_abs g) h k) in
    *ℤ_cancel_left (f *ℤ g) (int_div (f *ℤ z) (f *ℤ g)) (int_div z g) both
    (exact (f *ℤ g) (f *ℤ z) divides ∙ ap (λ y. f *ℤ y) (sym (exact g z d)) ∙ sym (*ℤ_assoc f g (int_div z g)))

quotients-times : (f g : ℤ) (other : List ℤ) → 0 < unsigned_abs f → 0 < unsigned_abs g → unsigned_abs g ∣ common_divisor other
    → map (λ z. int_div z (f *ℤ g)) (map (λ z. f *ℤ z) other) ≡ map (λ z. int_div z g) other
quotients-times f g [] h k d = refl
quotients-times f g (z ∷ other) h k d =
    let is = gcd_of-is (unsigned_abs z) (common_divisor other) in
    let first : unsigned_abs g ∣ unsigned_abs z = dvd_trans (unsigned_abs g) d is.0 in
    let rest : unsigned_abs g ∣ common_divisor other = dvd_trans (unsigned_abs g) d is.1 in
    ap (λ b. b ∷ map (λ y. int_div y (f *ℤ g)) (map (λ y. f *ℤ y) other)) (quotient-times f g z h k first)
    ∙ ap (λ r. int_div z g ∷ r) (quotients-times f g other h k rest)

factor-divides : (row : List ℤ) → unsigned_abs (whole_factor row) ∣ common_divisor row
factor-divides row = subst (λ d. d ∣ common_divisor row) (sym (factor-size row)) (dvd_refl (common_divisor row))

normal_kept_by : (f : ℤ) (other : List ℤ) → 0 < unsigned_abs f → 0 < unsigned_abs (whole_factor other) → whole_normal (map (λ z. f *ℤ z) other) ≡ whole_normal other
normal_kept_by f other h k =
    ap (λ g. map (λ z. int_div z g) (map (λ z. f *ℤ z) other)) (factor-times f other h)
    ∙ quotients-times f (whole_factor other) other h k (factor-divides other)

pub whole_splits : SplitLaws wholes whole_factor whole_normal
whole_splits = record {
  product = λ row h. restored_each (whole_factor row) row (factor-divides row);
  zero_kept = λ row other h z. zero_kept_by (whole_factor row) other (factor-positive row h) z;
  normal_kept = λ row other h k. normal_kept_by (whole_factor row) other (factor-positive row h) (factor-positive other k);
}

gcd_below : (n c bound : ℕ) → n < bound → c < bound → gcd_of n c < bound
gcd_below zero c bound h k = subst (λ m. m < bound) (sym (gcd_of-zero_left c)) k
gcd_below (suc n) c bound h k =
    let most : gcd_of (suc n) c ≤ suc n = le_of_dvd (omega arith) (gcd_of-is (suc n) c).0 in
    omega arith

below : (n bound : ℕ) → IsTrue (nat_lt n bound) → n < bound
below n bound h = grind (arith, nat_tests)

held : (n bound : ℕ) → n < bound → IsTrue (nat_lt n bound)
held n bound h = grind (arith, nat_tests)

-- the greatest common divisor of a row in range is in range
pub divisor_below : (row : List ℤ) → InRange wholes row → common_divisor row < 2 ^ 127
divisor_below [] p = omega arith
divisor_below (z ∷ row) p =
    gcd_below (unsigned_abs z) (common_divisor row) (2 ^ 127)
    (below (unsigned_abs z) (2 ^ 127) (All-head (λ y. IsTrue (in_range y)) z row p))
    (divisor_below row (All-tail (λ y. IsTrue (in_range y)) z row p))

opposite-size : (k : ℕ) → unsigned_abs (neg_ℤ (pos k)) ≡ k
opposite-size zero = refl
opposite-size (suc k) = refl

-- a quotient is no greater
pub quotient-size : (a d : ℤ) → unsigned_abs (int_div a d) ≤ unsigned_abs a
quotient-size (pos a) (pos b) = div-le_self a b
quotient-size (pos a) (negsuc b) = subst (λ k. k ≤ a) (sym (opposite-size (a / suc b))) (div-le_self a (suc b))
quotient-size (negsuc a) (pos b) = subst (λ k. k ≤ suc a) (sym (opposite-size (suc a / b))) (div-le_self (suc a) b)
quotient-size (negsuc a) (negsuc b) = div-le_self (suc a) (suc b)

pub quotient_in : (a d : ℤ) → IsTrue (in_range a) → IsTrue (in_range (int_div a d))
quotient_in a d p =
    let most : unsigned_abs (int_div a d) ≤ unsigned_abs a = quotient-size a d in
    let small : unsigned_abs a < 2 ^ 127 = below (unsigned_abs a) (2 ^ 127) p in
    held (unsigned_abs (int_div a d)) (2 ^ 127) (omega arith)

pub factor_in : (row : List ℤ) → InRange wholes row → IsTrue (in_range (whole_factor row))
factor_in row p = held (unsigned_abs (whole_factor row)) (2 ^ 127) (subst (λ n. n < 2 ^ 127) (sym (factor-size row)) (divisor_below row p))

pub whole_split_ranges : SplitRanges wholes whole_factor whole_normal (λ _. [])
whole_split_ranges = record {
  factor_in = λ row p h f. factor_in row p;
  normal_in = λ row p h f. All-map (λ y. IsTrue (in_range y)) (λ z. int_div z (whole_factor row)) row
      (All-weaker (λ y. IsTrue (in_range y)) (λ y. IsTrue (in_range (int_div y (whole_factor row)))) (λ y q. quotient_in y (whole_factor row) q) row p);
}
