-- Decimals as names of states: they are numbers, each of its own value.
use Rattle.std.proofs.Common.{◌≡◌, ◌<◌, ◌≤◌, ◌+◌, ◌-◌, ◌*◌, ◌%◌, ◌^◌, ℕ, zero, suc, Bool, true, false, ◌&&◌, not, List, [], ◌∷◌, length, map, get_or, cond, refl, ap, ap₂, ◌∙◌, arith}
use Rattle.std.specs.Prelude.{nat_le, ◌==◌}
use Rattle.std.specs.Fmt.{decimal}
use Rattle.std.specs.List.{list_all}
use Rattle.std.specs.Ordering.{is_lt, nat_cmp}
use Rattle.std.specs.Str.{bytes_eq}
use Rattle.std.proofs.lemmas.Bool.Decides.{nat_tests}
use Rattle.std.proofs.lemmas.Fmt.{decimal_by_steps, decimal_digit, decimal_injective, decimal_nonempty, first_decimal, length-decimal-le}
use Rattle.std.proofs.lemmas.List.Folds.{list_all-append}
use Rattle.std.proofs.lemmas.List.Sums.{fold-append}
use Rattle.std.proofs.lemmas.Slice.Eq.{bytes_eq-Decides}
use Rattle.vc_model.specs.Lists.{NoRepeat, below, up_from}
use Rattle.vc_model.specs.Members.{In-up_from, NoRepeat-map, NoRepeat-up_from}
use Rattle.vc_reader.specs.Meaning.{number_of}
use Rattle.vc_lines.specs.Names.{is_digit, is_number, has_no_zero_in_front, value_of, order_by, AreOrdered}

digit : (d : ℕ) → d < 10 → is_digit (48 + d) ≡ true
digit d h = grind (arith, nat_tests)

last_digit : (n : ℕ) → n % 10 < 10
last_digit n = omega arith

pub decimal_digits : (n : ℕ) → n < 2 ^ 64 → list_all is_digit (decimal n) ≡ true
decimal_digits = decimal_by_steps (λ m ds. list_all is_digit ds ≡ true) (λ m l. ap (λ b. b && true) (digit m l))
    (λ m ds l h. list_all-append is_digit ds ((48 + m % 10) ∷ []) ∙ ap₂ (λ b c. b && (c && true)) h (digit (m % 10) (last_digit m)))

pub value_of-decimal : (n : ℕ) → n < 2 ^ 64 → value_of (decimal n) ≡ n
value_of-decimal = decimal_by_steps (λ m ds. value_of ds ≡ m) (λ m l. omega arith)
    (λ m ds l h. fold-append (λ n x. n * 10 + (x - 48)) 0 ds ((48 + m % 10) ∷ []) ∙ ap (λ v. v * 10 + (48 + m % 10 - 48)) h ∙ omega arith)

no_zero : (s : List ℕ) → 48 < get_or s 0 0 → has_no_zero_in_front s ≡ true
no_zero [] h = refl
no_zero (x ∷ []) h = refl
no_zero (x ∷ y ∷ s) h = let e : (x == 48) ≡ false = grind (arith, nat_tests) in ap not e

no_zero_in_front : (n : ℕ) → n < 2 ^ 64 → has_no_zero_in_front (decimal n) ≡ true
no_zero_in_front zero h = ap has_no_zero_in_front (decimal_digit 0 (omega arith))
no_zero_in_front (suc n) h = no_zero (decimal (suc n)) (first_decimal (suc n) (omega arith) h)

at_least : (a b : ℕ) → a ≤ b → nat_le a b ≡ true
at_least a b h = grind (arith, nat_tests)

pub is_number-decimal : (n : ℕ) → n < 10 ^ 18 → is_number (decimal n) ≡ true
is_number-decimal n h =
    let small : n < 2 ^ 64 = omega arith in
    ap₂ (λ a b. a && b && list_all is_digit (decimal n) && has_no_zero_in_front (decimal n)) (at_least 1 (length (decimal n)) (decimal_nonempty n small)) (at_least (length (decimal n)) 18 (length-decimal-le 18 n (omega arith) h small))
    ∙ ap₂ (λ c d. true && true && c && d) (decimal_digits n small) (no_zero_in_front n small)

-- decimals of numbers that rise are in order
not_before : (s : ℕ) → is_lt (nat_cmp (suc s) s) ≡ false
not_before s = grind (arith, nat_tests)

pub decimals_in_order : (s n : ℕ) → s + n < 10 ^ 18 → AreOrdered (map decimal (up_from s n))
decimals_in_order s zero h = tt
decimals_in_order s (suc zero) h = tt
decimals_in_order s (suc (suc n)) h = (
  ap₂ (λ a b. is_lt (order_by a b (decimal (suc s)) (decimal s))) (is_number-decimal (suc s) (omega arith)) (is_number-decimal s (omega arith))
      ∙ ap₂ (λ a b. is_lt (nat_cmp a b)) (value_of-decimal (suc s) (omega arith)) (value_of-decimal s (omega arith))
      ∙ not_before s,
  decimals_in_order (suc s) (suc n) (omega arith),
)

pub decimals_once : (n : ℕ) → n < 2 ^ 64 → NoRepeat (map decimal (below n))
decimals_once n h =
    NoRepeat-map decimal (below n)
    (λ x y i j e. let a = In-up_from x 0 n i in let b = In-up_from y 0 n j in decimal_injective x y (omega arith) (omega arith) e)
    (NoRepeat-up_from 0 n)

length-up_from : (s n : ℕ) → length (up_from s n) ≡ n
length-up_from s zero = refl
length-up_from s (suc n) = ap suc (length-up_from (suc s) n)

length-mapped : {X Y : Type 0} (f : X → Y) (xs : List X) → length (map f xs) ≡ length xs
length-mapped f [] = refl
length-mapped f (x ∷ xs) = ap suc (length-mapped f xs)

pub length-decimals : (n : ℕ) → length (map decimal (below n)) ≡ n
length-decimals n = length-mapped decimal (below n) ∙ length-up_from 0 n

-- ---- the place of a decimal

met : (name : List ℕ) (names : List (List ℕ)) → number_of (name ∷ names) name ≡ 0
met name names = ap (λ b. cond (not b) (1 + number_of names name) 0) ((bytes_eq-Decides name name).1 refl)

missed : (other name : List ℕ) (names : List (List ℕ)) (k : ℕ) → ¬ (name ≡ other) → number_of names name ≡ k → number_of (other ∷ names) name ≡ suc k
missed other name names k d h = go (bytes_eq name other) refl
  where
    go : (b : Bool) → bytes_eq name other ≡ b → cond (not b) (1 + number_of names name) 0 ≡ suc k
    go true e = absurd (d ((bytes_eq-Decides name other).0 e))
    go false e = omega (arith, h)

place_from : (s n k p : ℕ) → s + k ≡ p → k < n → s + n < 2 ^ 64 → number_of (map decimal (up_from s n)) (decimal p) ≡ k
place_from s zero k p e l h = absurd (omega arith)
place_from s (suc n) zero p e l h =
    let same : p ≡ s = omega arith in
    ap (λ q. number_of (map decimal (up_from s (suc n))) (decimal q)) same ∙ met (decimal s) (map decimal (up_from (suc s) n))
place_from s (suc n) (suc k) p e l h =
    missed (decimal s) (decimal p) (map decimal (up_from (suc s) n)) k (λ d. let same : p ≡ s = decimal_injective p s (omega arith) (omega arith) d in omega arith)
    (place_from (suc s) n k p (omega arith) (omega arith) (omega arith))

pub number_of-decimal : (n p : ℕ) → n < 2 ^ 64 → p < n → number_of (map decimal (below n)) (decimal p) ≡ p
number_of-decimal n p h l = place_from 0 n p p (omega arith) l (omega arith)
