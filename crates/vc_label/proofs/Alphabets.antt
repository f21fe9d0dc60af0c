-- The bits of an alphabet.
use Rattle.std.proofs.Common.{◌≡◌, ap, ℕ, zero, suc, ◌+◌, ◌≤◌, ◌*◌, ◌%◌, ◌^◌, ◌<◌, max, Bool, true, false, ◌||◌, ◌⊎◌, inl, inr, refl, sym, subst, ◌∙◌, length, slice_index, ◌↔◌, arith, IsTrue, bit_or, List, ◌∷◌, ◌++◌}
use Rattle.std.proofs.Math.Bool.{Bool-set}
use Rattle.std.proofs.lemmas.Bool.{true≢false}
use Rattle.std.proofs.lemmas.List.Kept.{IsStrictlyIncreasing-filter}
use Rattle.std.specs.Int.{bit_at, w128}
use Rattle.std.specs.List.Sorted.{IsStrictlyIncreasing}
use Rattle.std.specs.Bool.{◌==◌}
use Rattle.std.proofs.lemmas.Nat.Bits.{bit_at_or, bit_at_set_same, bit_at_set_other, bit_at-lt, same_from_bits}
use Rattle.std.proofs.lemmas.Bool.Decides.{eqb_tells, Decides-eqb}
use Rattle.std.proofs.lemmas.Grind.{common_steps}
use Rattle.vc_label.specs.Alphabets.{has_letter, letters_of}
use Rattle.vc_label.specs.Letters.{is_letter}
use Rattle.vc_label.specs.declared.alphabet.Alphabet.{Alphabet}
use Rattle.vc_model.specs.Members.{In-middle, In-filter, In-filter_from, up_from-In}
use Rattle.vc_model.specs.Lists.{In, up_from}

pub is_bit : (m : ℕ) → m < 2 → (m ≡ 0) ⊎ (m ≡ 1)
is_bit zero l = inl refl
is_bit (suc zero) l = inr refl
is_bit (suc (suc m)) l = absurd (omega arith)

or_true : (b : Bool) → true ≡ (b || true)
or_true true = refl
or_true false = refl

or_false : (b : Bool) → b ≡ (b || false)
or_false true = refl
or_false false = refl

-- one more bit
pub set_bit : (n k x : ℕ) → k < 128 → (bit_at (bit_or n (1 * 2 ^ k % 2 ^ 128)) x == 1) ≡ ((bit_at n x == 1) || (x == k))
set_bit n k x l = elim (eqb_tells x k) [
  | inl p ↦ let e : bit_at (bit_or n (1 * 2 ^ k % 2 ^ 128)) x ≡ 1 = rw p.1 (bit_at_set_same w128 n k l) in rw (e, p.0) (or_true (bit_at n x == 1))
  | inr p ↦ rw (bit_at_set_other w128 n k l x p.1, p.0) (or_false (bit_at n x == 1))
]

or_bits : (a b : ℕ) → (a ≡ 0) ⊎ (a ≡ 1) → (b ≡ 0) ⊎ (b ≡ 1) → (max a b == 1) ≡ ((a == 1) || (b == 1))
or_bits a b (inl p) (inl q) = rw (p, q) refl
or_bits a b (inl p) (inr q) = rw (p, q) refl
or_bits a b (inr p) (inl q) = rw (p, q) refl
or_bits a b (inr p) (inr q) = rw (p, q) refl

-- the bits of both
pub or_bit : (m n x : ℕ) → (bit_at (bit_or m n) x == 1) ≡ ((bit_at m x == 1) || (bit_at n x == 1))
or_bit m n x = rw (bit_at_or m n x) (or_bits (bit_at m x) (bit_at n x) (is_bit (bit_at m x) (bit_at-lt m x)) (is_bit (bit_at n x) (bit_at-lt n x)))

-- only letters
abbrev pub OnlyLetters : ℕ → Type 0
OnlyLetters n = (x : ℕ) → bit_at n x ≡ 1 → IsTrue (is_letter x)

pub set_letter : (n k : ℕ) → OnlyLetters n → IsTrue (is_letter k) → OnlyLetters (bit_or n (1 * 2 ^ k % 2 ^ 128))
set_letter n k h l x e =
    let lt : k < 128 = grind (arith, common_steps) in
    elim (eqb_tells x k) [
      | inl p ↦ subst (λ y. IsTrue (is_letter y)) (sym p.1) l
      | inr p ↦ h x (sym (bit_at_set_other w128 n k lt x p.1) ∙ e)
    ]

pub or_one : (a b : ℕ) → (a ≡ 0) ⊎ (a ≡ 1) → (b ≡ 0) ⊎ (b ≡ 1) → max a b ≡ 1 → (a ≡ 1) ⊎ (b ≡ 1)
or_one a b (inl p) (inl q) e = absurd (omega arith)
or_one a b (inl p) (inr q) e = inr q
or_one a b (inr p) q e = inl p

pub or_letters : (m n : ℕ) → OnlyLetters m → OnlyLetters n → OnlyLetters (bit_or m n)
or_letters m n h k x e =
    elim (or_one (bit_at m x) (bit_at n x) (is_bit (bit_at m x) (bit_at-lt m x)) (is_bit (bit_at n x) (bit_at-lt n x)) (sym (bit_at_or m n x) ∙ e)) [
      | inl p ↦ h x p
      | inr p ↦ k x p
    ]

only_letters_IsProp : (n : ℕ) → IsProp (OnlyLetters n)
only_letters_IsProp n = hlevel Bool-set

-- alphabets with the same bits
same_bits : (s t : Alphabet) → s.bits ≡ t.bits → s ≡ t
same_bits s t e = subst (λ (n : ℕ). (l : OnlyLetters n) → s ≡ record { bits = n; letters = l }) e (λ l. ap (λ (k : OnlyLetters s.bits). (let r : Alphabet = record { bits = s.bits; letters = k } in r)) (only_letters_IsProp s.bits s.letters l)) t.letters

bit_of_test : (a b : ℕ) → (a ≡ 0) ⊎ (a ≡ 1) → (b ≡ 0) ⊎ (b ≡ 1) → (a == 1) ≡ (b == 1) → a ≡ b
bit_of_test a b (inl p) (inl q) e = p ∙ sym q
bit_of_test a b (inl p) (inr q) e = let f : false ≡ true = rw (p, q) at e in absurd (true≢false (sym f))
bit_of_test a b (inr p) (inl q) e = let f : true ≡ false = rw (p, q) at e in absurd (true≢false f)
bit_of_test a b (inr p) (inr q) e = p ∙ sym q

pub same_alphabets : (s t : Alphabet) → ((x : ℕ) → has_letter s x ≡ has_letter t x) → s ≡ t
same_alphabets s t h = same_bits s t (same_from_bits s.bits t.bits (λ x. bit_of_test (bit_at s.bits x) (bit_at t.bits x) (is_bit (bit_at s.bits x) (bit_at-lt s.bits x)) (is_bit (bit_at t.bits x) (bit_at-lt t.bits x)) (h x)))

pub letters_only : (s : Alphabet) (x : ℕ) → has_letter s x ≡ true → IsTrue (is_letter x)
letters_only s x h = s.letters x ((Decides-eqb (bit_at s.bits x) 1).0 h)

pub listed : (s : Alphabet) (x : ℕ) → In x (letters_of s) ↔ (has_letter s x ≡ true)
unfolding letters_of
listed s x = (
  λ i. (In-filter_from (has_letter s) x (up_from 0x21 94) i).1,
  λ h. let l = letters_only s x h in
      let low : 0x21 ≤ x = grind (arith, common_steps) in
      let high : x < 0x21 + 94 = grind (arith, common_steps) in
      In-filter (has_letter s) x (up_from 0x21 94) (up_from-In x 0x21 94 low high) h,
)

length_up_from : (s n : ℕ) → length (up_from s n) ≡ n
length_up_from s zero = refl
length_up_from s (suc n) = ap suc (length_up_from (suc s) n)

at_up_from : (s n k : ℕ) → k < n → slice_index (up_from s n) k ≡ s + k
at_up_from s zero k l = absurd (omega arith)
at_up_from s (suc n) zero l = omega arith
at_up_from s (suc n) (suc k) l = let e = at_up_from (suc s) n k (omega arith) in e ∙ omega arith

ascends : (s n : ℕ) → IsStrictlyIncreasing (up_from s n)
ascends s n k l =
    let m : k + 1 < n = omega (arith, length_up_from s n) in
    omega (arith, at_up_from s n k (omega arith), at_up_from s n (k + 1) m)

pub listed_in_order : (s : Alphabet) → IsStrictlyIncreasing (letters_of s)
unfolding letters_of
listed_in_order s = IsStrictlyIncreasing-filter (has_letter s) (up_from 0x21 94) (ascends 0x21 94)

-- a letter that stands in the list is a letter of the alphabet
pub listed_each : (s : Alphabet) (front rest : List ℕ) (x : ℕ) → front ++ x ∷ rest ≡ letters_of s → has_letter s x ≡ true
listed_each s front rest x e = (listed s x).0 (subst (In x) e (In-middle x front rest))
