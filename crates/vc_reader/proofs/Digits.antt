-- Numbers of at most 18 digits.
use Rattle.std.proofs.Common.{◌≡◌, ◌≤◌, ◌<◌, ◌+◌, ◌-◌, ◌*◌, ◌^◌, ℕ, Bool, true, false, ◌&&◌, List, length, Fits, w8, w64, lit<, arith}
use Rattle.std.specs.Prelude.{nat_le}
use Rattle.std.specs.List.{list_all}
use Rattle.std.proofs.Math.Facts.{Fits-of_lt, Fits-lt-pow}
use Rattle.std.proofs.Math.Nat.{pow-le-pow_right}
use Rattle.std.proofs.lemmas.Bool.Decides.{nat_tests}
use Rattle.vc_lines.specs.Names.{is_digit, is_number, has_no_zero_in_front}

short : (n : ℕ) (a b c : Bool) → a && nat_le n 18 && b && c ≡ true → n ≤ 18
short n true true true h = grind (arith, nat_tests)
short n true true false h = grind (arith, nat_tests)
short n true false c h = grind (arith, nat_tests)
short n false b c h = absurd (cc)

number_short : (name : List ℕ) → is_number name ≡ true → length name ≤ 18
number_short name h = short (length name) (nat_le 1 (length name)) (list_all is_digit name) (has_no_zero_in_front name) h

small : (v i n : ℕ) → v < 10 ^ i → i < n → n ≤ 18 → v < 100000000000000000
small v i n h k m =
    let t : i ≤ 17 = omega arith in
    let p : 10 ^ i ≤ 10 ^ 17 = pow-le-pow_right (lit< tt) t in
    omega (arith, h, p)

pub product_fits : (v i : ℕ) (name : List ℕ) → is_number name ≡ true → v < 10 ^ i → i < length name → Fits w64 (v * 10)
product_fits v i name e h k = let s = small v i (length name) h k (number_short name e) in Fits-of_lt (omega (arith, s))

pub sum_fits : (v i d : ℕ) (name : List ℕ) → is_number name ≡ true → v < 10 ^ i → i < length name → Fits w8 d → Fits w64 (v * 10 + (d - 48))
sum_fits v i d name e h k f = let b : d < 2 ^ 8 = Fits-lt-pow f in let s = small v i (length name) h k (number_short name e) in Fits-of_lt (omega (arith, s, b))

pub value_below : (v i : ℕ) (name : List ℕ) → is_number name ≡ true → v < 10 ^ i → i ≤ length name → v < 1000000000000000000
value_below v i name e h k =
    let s = number_short name e in
    let t : i ≤ 18 = omega arith in
    let p : 10 ^ i ≤ 10 ^ 18 = pow-le-pow_right (lit< tt) t in
    omega (arith, h, p)
