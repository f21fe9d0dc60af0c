-- What a division by the greatest common divisor gives.
use Rattle.std.proofs.Common.{◌≡◌, ℕ, ℤ, ◌<◌, ◌≤◌, ◌/◌, ◌^◌, ◌*ℤ◌, pos, unsigned_abs, int_div, nat_lt, IsTrue, FitsSigned, to_z, of_z, sym, ap, ◌∙◌, arith, subst}
use Rattle.std.specs.Int.{IsGcd}
use Rattle.std.proofs.lemmas.Int.{to_z-of_z}
use native.Mathlib.Nat.{le_of_dvd, pos_of_dvd_of_pos}
use mir.Syntax.{w128}
use Rattle.vc_num.specs.Divisors.{gcd_of}
use Rattle.vc_num.specs.Range.{in_range}
use Rattle.vc_rat.specs.Lowest.{IsLowest}
use Rattle.vc_rat.specs.Reduced.{reduced-lowest, reduced-same}

pub divisor-positive : (a d g : ℕ) → 0 < d → IsGcd a d g → 0 < g
divisor-positive a d g p h = pos_of_dvd_of_pos h.1 p

below : (m n k : ℕ) → m ≤ n → IsTrue (nat_lt n k) → IsTrue (nat_lt m k)
below m n k le h = grind arith

pub divisor-in : (a d g : ℕ) → 0 < d → IsGcd a d g → IsTrue (in_range (pos d)) → IsTrue (in_range (pos g))
divisor-in a d g p h k = below g d (2 ^ 127) (le_of_dvd p h.1) k

-- the divisor and the quotient, at the number itself
divisor-is : (n : ℤ) (d a g : ℕ) → FitsSigned w128 n → a ≡ unsigned_abs (to_z w128 (of_z w128 n)) → g ≡ gcd_of a d → g ≡ gcd_of (unsigned_abs n) d
divisor-is n d a g f e h = h ∙ ap (λ x. gcd_of x d) (e ∙ ap unsigned_abs (to_z-of_z w128 n f))

quotient-is : (n q : ℤ) (g : ℕ) → FitsSigned w128 n → FitsSigned w128 q → q ≡ int_div (to_z w128 (of_z w128 n)) (pos g) → to_z w128 (of_z w128 q) ≡ int_div n (pos g)
quotient-is n q g f h e = to_z-of_z w128 q h ∙ e ∙ ap (λ x. int_div x (pos g)) (to_z-of_z w128 n f)

pub quotients-lowest : (n q : ℤ) (d a g : ℕ) → FitsSigned w128 n → FitsSigned w128 q → 0 < d → a ≡ unsigned_abs (to_z w128 (of_z w128 n)) → g ≡ gcd_of a d → q ≡ int_div (to_z w128 (of_z w128 n)) (pos g) → IsLowest (to_z w128 (of_z w128 q)) (pos (d / g))
quotients-lowest n q d a g f h p e i j =
    let P : ℕ → Type 0 = λ k. IsLowest (int_div n (pos k)) (pos (d / k)) in
    subst (λ z. IsLowest z (pos (d / g))) (sym (quotient-is n q g f h j)) (subst P (sym (divisor-is n d a g f e i)) (reduced-lowest n d p))

pub quotients-same : (n q t b : ℤ) (d a g : ℕ) → FitsSigned w128 n → FitsSigned w128 q → a ≡ unsigned_abs (to_z w128 (of_z w128 n)) → g ≡ gcd_of a d → q ≡ int_div (to_z w128 (of_z w128 n)) (pos g) → t ≡ to_z w128 (of_z w128 q) → b ≡ pos (d / g) → t *ℤ pos d ≡ n *ℤ b
quotients-same n q t b d a g f h e i j k l =
    let P : ℕ → Type 0 = λ x. int_div n (pos x) *ℤ pos d ≡ n *ℤ pos (d / x) in
    ap (λ z. z *ℤ pos d) (k ∙ quotient-is n q g f h j) ∙ subst P (sym (divisor-is n d a g f e i)) (reduced-same n d) ∙ ap (λ z. n *ℤ z) (sym l)
