-- The letters of an alphabet by its least one.
use Rattle.std.proofs.Common.{◌≡◌, ap, ℕ, zero, suc, ◌+◌, ◌≤◌, ◌<◌, ◌^◌, Bool, true, false, not, ◌&&◌, filter, [], ◌∷◌, refl, sym, ◌∙◌, arith, eq-or-lt_of_le, inl, inr, IsTrue}
use Rattle.std.specs.Int.{bit_at, w128, trailing_zeros}
use Rattle.std.specs.Bool.{◌==◌}
use Rattle.std.proofs.lemmas.Bool.Decides.{Decides-eqb}
use Rattle.std.proofs.lemmas.Grind.{common_steps}
use Rattle.std.proofs.lemmas.Nat.Bits.{bit_at-zero, bit_at-trailing_zeros}
use Rattle.vc_label.specs.Alphabets.{has_letter, letters_of}
use Rattle.vc_label.specs.Letters.{is_letter}
use Rattle.vc_label.specs.declared.alphabet.Alphabet.{Alphabet}
use Rattle.vc_model.specs.Lists.{up_from}

module _ (p q : ℕ → Bool) (x : ℕ) (here : p x ≡ true) (least : (y : ℕ) → y < x → p y ≡ false) (other : (y : ℕ) → q y ≡ (p y && not (y == x))) where
  kept : (y : ℕ) → x < y → p y ≡ q y
  kept y l = let e : (y == x) ≡ false = grind (arith, common_steps) in sym (other y ∙ ap (λ b. p y && not b) e ∙ always (p y))
    where
      always : (b : Bool) → (b && true) ≡ b
      always true = refl
      always false = refl

  not_here : q x ≡ false
  not_here = let e : (x == x) ≡ true = grind (arith, common_steps) in other x ∙ ap (λ b. p x && not b) e ∙ never (p x)
    where
      never : (b : Bool) → (b && false) ≡ false
      never true = refl
      never false = refl

  not_before : (y : ℕ) → y < x → q y ≡ false
  not_before y l = other y ∙ ap (λ b. b && not (y == x)) (least y l)

  after : (n s : ℕ) → x < s → filter p (up_from s n) ≡ filter q (up_from s n)
  after zero s l = refl
  after (suc n) s l = rw (kept s l, after n (suc s) (omega arith)) refl

  from_least : (n s : ℕ) → s ≤ x → x < s + n → filter p (up_from s n) ≡ x ∷ filter q (up_from s n)
  from_least zero s l h = absurd (omega arith)
  from_least (suc n) s l h = elim (eq-or-lt_of_le l) [
    | inl e ↦ rw (e, here, not_here, after n (suc x) (omega arith)) refl
    | inr k ↦ rw (least s k, not_before s k) (from_least n (suc s) k (omega arith))
  ]

none : (p : ℕ → Bool) → ((y : ℕ) → p y ≡ false) → (n s : ℕ) → filter p (up_from s n) ≡ []
none p never zero s = refl
none p never (suc n) s = rw (never s) (none p never n (suc s))

-- an alphabet without bits has no letters
pub no_letters : (s : Alphabet) → s.bits ≡ 0 → letters_of s ≡ []
unfolding letters_of
no_letters s e = none (has_letter s) (λ y. rw (e, bit_at-zero y) refl) 94 0x21

-- the least letter is one
pub least_is_letter : (s : Alphabet) → 0 < s.bits → s.bits < 2 ^ 128 → IsTrue (is_letter (trailing_zeros w128 s.bits))
least_is_letter s some fits = s.letters (trailing_zeros w128 s.bits) (bit_at-trailing_zeros w128 s.bits some fits).1

-- first the least letter, and after it the others
pub least_first : (s t : Alphabet) → 0 < s.bits → s.bits < 2 ^ 128 → ((y : ℕ) → has_letter t y ≡ (has_letter s y && not (y == trailing_zeros w128 s.bits)))
    → letters_of s ≡ trailing_zeros w128 s.bits ∷ letters_of t
unfolding letters_of
least_first s t some fits other =
    let x = trailing_zeros w128 s.bits in
    let l = least_is_letter s some fits in
    let h = bit_at-trailing_zeros w128 s.bits some fits in
    from_least (has_letter s) (has_letter t) x ((Decides-eqb (bit_at s.bits x) 1).1 h.1)
    (λ y b. let e : bit_at s.bits y ≡ 0 = h.2 y b in rw e refl) other 94 0x21 (grind (arith, common_steps)) (grind (arith, common_steps))
