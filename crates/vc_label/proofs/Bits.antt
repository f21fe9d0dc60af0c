-- The bits of two alphabets, and of a range of letters.
use Rattle.std.proofs.Common.{◌≡◌, ap, ℕ, ◌+◌, ◌-◌, ◌≤◌, ◌*◌, ◌%◌, ◌^◌, ◌<◌, max, min, Bool, true, false, not, ◌&&◌, ◌||◌, ◌⊎◌, inl, inr, refl, sym, ◌∙◌, arith, pow_mono, bit_and, bit_or, nat_le}
use Rattle.std.specs.Int.{bit_at, w128, bit_not}
use Rattle.std.specs.Bool.{◌==◌}
use Rattle.std.proofs.lemmas.Bool.{cases_lt}
use Rattle.std.proofs.lemmas.Nat.{one_shl}
use Rattle.std.proofs.lemmas.Bool.Decides.{Decides-eqb}
use Rattle.std.proofs.lemmas.Nat.Bits.{bit_at_and, bit_at_not, bit_at_above, bit_at-lt, bit_at_mask_inside, bit_at_mask_below, bit_at_mask_above}
use Rattle.std.proofs.lemmas.Grind.{common_steps}
use Rattle.vc_label.specs.Letters.{is_letter}
use Rattle.vc_label.proofs.Alphabets.{OnlyLetters, is_bit, or_bit}

bit : (n x : ℕ) → (bit_at n x ≡ 0) ⊎ (bit_at n x ≡ 1)
bit n x = is_bit (bit_at n x) (bit_at-lt n x)

and_bits : (a b : ℕ) → (a ≡ 0) ⊎ (a ≡ 1) → (b ≡ 0) ⊎ (b ≡ 1) → (min a b == 1) ≡ ((a == 1) && (b == 1))
and_bits a b (inl p) (inl q) = rw (p, q) refl
and_bits a b (inl p) (inr q) = rw (p, q) refl
and_bits a b (inr p) (inl q) = rw (p, q) refl
and_bits a b (inr p) (inr q) = rw (p, q) refl

-- the bits that both have
pub and_bit : (m n x : ℕ) → (bit_at (bit_and m n) x == 1) ≡ ((bit_at m x == 1) && (bit_at n x == 1))
and_bit m n x = rw (bit_at_and m n x) (and_bits (bit_at m x) (bit_at n x) (bit m x) (bit n x))

pub and_letters : (m n : ℕ) → OnlyLetters m → OnlyLetters (bit_and m n)
and_letters m n h x e = h x (let f : min (bit_at m x) (bit_at n x) ≡ 1 = sym (bit_at_and m n x) ∙ e in elim (bit m x) [ inl p ↦ absurd (omega arith) | inr p ↦ p ])

not_bits : (a b : ℕ) → (a ≡ 0) ⊎ (a ≡ 1) → (b ≡ 0) ⊎ (b ≡ 1) → (min a (1 - b) == 1) ≡ ((a == 1) && not (b == 1))
not_bits a b (inl p) (inl q) = rw (p, q) refl
not_bits a b (inl p) (inr q) = rw (p, q) refl
not_bits a b (inr p) (inl q) = rw (p, q) refl
not_bits a b (inr p) (inr q) = rw (p, q) refl

-- the bits that the other one has not
pub less_bit : (m n x : ℕ) → m < 2 ^ 128 → n < 2 ^ 128 → (bit_at (bit_and m (bit_not w128 n)) x == 1) ≡ ((bit_at m x == 1) && not (bit_at n x == 1))
less_bit m n x fits other = elim (cases_lt x 128) [
  | inl low ↦ rw (bit_at_and m (bit_not w128 n) x, bit_at_not w128 n x other low) (not_bits (bit_at m x) (bit_at n x) (bit m x) (bit n x))
  | inr high ↦ and_bit m (bit_not w128 n) x ∙ rw (bit_at_above m 128 x fits high) refl
]

between : (low high x : ℕ) → (bit_at (2 ^ (high + 1) - 2 ^ low) x == 1) ≡ (nat_le low x && nat_le x high)
between low high x = elim (cases_lt x low) [
  | inl below ↦ rw (bit_at_mask_below low (high + 1) x below) (let f : nat_le low x ≡ false = grind (arith, common_steps) in rw f refl)
  | inr from ↦ elim (cases_lt x (high + 1)) [
    | inl inside ↦ rw (bit_at_mask_inside low (high + 1) x from inside) (let f : nat_le low x ≡ true = grind (arith, common_steps) in let g : nat_le x high ≡ true = grind (arith, common_steps) in rw (f, g) refl)
    | inr above ↦ rw (bit_at_mask_above low (high + 1) x above) (let f : nat_le low x ≡ true = grind (arith, common_steps) in let g : nat_le x high ≡ false = grind (arith, common_steps) in rw (f, g) refl)
  ]
]

mask : (low high : ℕ) → low < 128 → high + 1 < 128 → 1 * 2 ^ (high + 1) % 2 ^ 128 - 1 * 2 ^ low % 2 ^ 128 ≡ 2 ^ (high + 1) - 2 ^ low
mask low high l h = rw (one_shl (high + 1) 128 h, one_shl low 128 l) refl

-- the bits of a range as well
pub range_bit : (m low high x : ℕ) → low < 128 → high + 1 < 128
    → (bit_at (bit_or m (1 * 2 ^ (high + 1) % 2 ^ 128 - 1 * 2 ^ low % 2 ^ 128)) x == 1) ≡ ((bit_at m x == 1) || (nat_le low x && nat_le x high))
range_bit m low high x l h =
    or_bit m (1 * 2 ^ (high + 1) % 2 ^ 128 - 1 * 2 ^ low % 2 ^ 128) x
    ∙ ap (λ n. (bit_at m x == 1) || (bit_at n x == 1)) (mask low high l h)
    ∙ ap (λ t. (bit_at m x == 1) || t) (between low high x)

-- the start of a range is not past its end
pub shifts_ordered : (low high : ℕ) → low ≤ high → high + 1 < 128 → 1 * 2 ^ low % 2 ^ 128 ≤ 1 * 2 ^ (high + 1) % 2 ^ 128
shifts_ordered low high o h = rw (one_shl (high + 1) 128 h, one_shl low 128 (omega arith)) (pow_mono (omega arith))

either : (b t : Bool) → (b || t) ≡ true → (b ≡ true) ⊎ (t ≡ true)
either true t e = inl refl
either false t e = inr e

pub range_letters : (m low high : ℕ) → 0x21 ≤ low → low ≤ high → high ≤ 0x7e → OnlyLetters m → OnlyLetters (bit_or m (1 * 2 ^ (high + 1) % 2 ^ 128 - 1 * 2 ^ low % 2 ^ 128))
range_letters m low high l o h only x e =
    let bits = bit_or m (1 * 2 ^ (high + 1) % 2 ^ 128 - 1 * 2 ^ low % 2 ^ 128) in
    let test : (bit_at bits x == 1) ≡ true = (Decides-eqb (bit_at bits x) 1).1 e in
    elim (either (bit_at m x == 1) (nat_le low x && nat_le x high) (sym (range_bit m low high x (omega arith) (omega arith)) ∙ test)) [
      | inl p ↦ only x ((Decides-eqb (bit_at m x) 1).0 p)
      | inr p ↦ grind (arith, common_steps)
    ]

-- a range without the bytes that are no letters
pub letters_between : (first last x : ℕ) → (nat_le (max first 0x21) x && nat_le x (min last 0x7e)) ≡ (is_letter x && (nat_le first x && nat_le x last))
letters_between first last x = grind (arith, common_steps)
