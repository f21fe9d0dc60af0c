-- Where rows stand.
use Rattle.std.proofs.Common.{◌≡◌, ◌≢◌, ℕ, ◌<◌, ◌≤◌, ◌+◌, ◌-◌, ◌*◌, List, length, refl, ap, ◌∙◌, inl, inr, subst, zero, suc, arith}
use Rattle.std.proofs.lemmas.Bool.{cases_lt}
use Rattle.std.proofs.lemmas.Grind.{common_steps}
use Rattle.std.proofs.lemmas.List.{get_or-set_same, get_or-set_other, length-set}
use Rattle.std.proofs.lemmas.Nat.{mul-le, row_fits}
use Rattle.std.proofs.Math.Nat.{add-mul}
use Rattle.vc_model.specs.WeightSet.{WeightSet}
use Rattle.vc_eval.specs.LetterMoves.{AreApart}
use Rattle.vc_eval.specs.Moves.{entry, earlier, next_row, cleared}

pub earlier_low : (at back cells : ℕ) → back ≤ at → earlier at back cells ≡ at - back
earlier_low at back cells h = grind (arith, common_steps)

pub earlier_high : (at back cells : ℕ) → at < back → earlier at back cells ≡ cells - (back - at)
earlier_high at back cells h = grind (arith, common_steps)

module _ (n count slot b : ℕ) (s : slot < count) (one : 1 ≤ b) (c : b < count) where
  whole : b * n + n ≤ count * n
  whole = row_fits b n count n c (omega arith)

  some : n ≤ b * n
  some = let m = mul-le 1 n b n one (omega arith) in omega (arith, m)

  -- a row before another does not meet it
  pub apart : (t k : ℕ) → t < n → k < n → earlier (slot * n) (b * n) (count * n) + t ≢ slot * n + k
  apart t k l m e = elim (cases_lt slot b) [
    | inl h ↦
        let up = row_fits slot n b n h (omega arith) in
        let f = earlier_high (slot * n) (b * n) (count * n) (omega (arith, up, l)) in
        omega (arith, up, f, e, whole, some, l, m)
    | inr h ↦
        let up = mul-le b n slot n h (omega arith) in
        let f = earlier_low (slot * n) (b * n) (count * n) up in
        omega (arith, up, f, e, whole, some, l, m)
  ]

  -- its entries are cells
  pub bounded : (t : ℕ) → t < n → earlier (slot * n) (b * n) (count * n) + t < count * n
  bounded t l = elim (cases_lt slot b) [
    | inl h ↦
        let up = row_fits slot n b n h (omega arith) in
        let f = earlier_high (slot * n) (b * n) (count * n) (omega (arith, up, l)) in
        omega (arith, up, f, whole, some, l)
    | inr h ↦
        let up = mul-le b n slot n h (omega arith) in
        let f = earlier_low (slot * n) (b * n) (count * n) up in
        let r = row_fits slot n count n s (omega arith) in
        omega (arith, up, f, r, some, l)
  ]

-- the row behind another
pub record IsBehind (n count slot : ℕ) : Type 0 where
  pub slot_behind : ℕ
  pub below : slot_behind < count
  pub is : next_row (slot * n) n (count * n) ≡ slot_behind * n
  pub earlier_is : (b : ℕ) → 1 ≤ n → b + 1 < count → earlier (slot_behind * n) ((b + 1) * n) (count * n) ≡ earlier (slot * n) (b * n) (count * n)

next_some : (at n cells : ℕ) → n < cells - at → next_row at n cells ≡ at + n
next_some at n cells h = grind (arith, common_steps)

next_none : (at n cells : ℕ) → cells - at ≤ n → next_row at n cells ≡ 0
next_none at n cells h = grind (arith, common_steps)

pub behind : (n count slot : ℕ) → slot < count → IsBehind n count slot
behind zero count slot s = record {
  slot_behind = 0;
  below = omega arith;
  is = next_none (slot * 0) 0 (count * 0) (omega arith) ∙ omega arith;
  earlier_is = λ b l h. absurd (omega arith);
}
behind (suc m) count slot s = elim (cases_lt (slot + 1) count) [
  | inl h ↦
      let n : ℕ = suc m in
      let fit = row_fits (slot + 1) n count n h (omega arith) in
      let d = add-mul slot 1 n in
      record {
        slot_behind = slot + 1;
        below = h;
        is = next_some (slot * n) n (count * n) (omega (arith, fit, d)) ∙ omega (arith, d);
        earlier_is = λ b l k. let x = add-mul b 1 n in let fit_b = row_fits (b + 1) n count n k (omega arith) in elim (cases_lt slot b) [
          | inl h ↦
              let up = row_fits slot n b n h (omega arith) in
              let f = earlier_high (slot * n) (b * n) (count * n) (omega (arith, up)) in
              let g = earlier_high ((slot + 1) * n) ((b + 1) * n) (count * n) (omega (arith, up, x, d)) in
              omega (arith, f, g, x, d, up)
          | inr h ↦
              let up = mul-le b n slot n h (omega arith) in
              let f = earlier_low (slot * n) (b * n) (count * n) up in
              let g = earlier_low ((slot + 1) * n) ((b + 1) * n) (count * n) (omega (arith, up, x, d)) in
              omega (arith, f, g, x, d, up)
        ];
      }
  | inr h ↦
      let n : ℕ = suc m in
      let e : slot + 1 ≡ count = omega arith in
      let d = add-mul slot 1 n in
      let f = ap (λ i. i * n) e in
      record {
        slot_behind = 0;
        below = omega arith;
        is = next_none (slot * n) n (count * n) (omega (arith, d, f)) ∙ omega arith;
        earlier_is = λ b l k.
            let x = add-mul b 1 n in
            let up = mul-le b n slot n (omega arith) (omega arith) in
            let low = earlier_low (slot * n) (b * n) (count * n) up in
            let high = earlier_high (0 * n) ((b + 1) * n) (count * n) (omega (arith, x)) in
            omega (arith, low, high, x, d, f, up);
      }
]

-- where there are two rows or more, the row before another does not meet it
pub apart_row : (n count slot : ℕ) → slot < count → 2 * n ≤ count * n → AreApart n (earlier (slot * n) n (count * n)) (slot * n) (count * n)
apart_row zero count slot s two =
    let f = earlier_low (slot * 0) 0 (count * 0) (omega arith) in
    record { before_inside = omega (arith, f); inside = omega arith; apart = λ a b i j. absurd (omega arith) }
apart_row (suc m) count slot s two =
    let n : ℕ = suc m in
    let c : 1 < count = elim (cases_lt 1 count) [
      | inl h ↦ h
      | inr h ↦ absurd (let q = mul-le count n 1 n h (omega arith) in omega (arith, q, two))
    ] in
    let e : 1 * n ≡ n = omega arith in
    let last = subst (λ k. earlier (slot * n) k (count * n) + m < count * n) e (bounded n count slot 1 s (omega arith) c m (omega arith)) in
    record {
      before_inside = omega (arith, last);
      inside = row_fits slot n count n s (omega arith);
      apart = λ a b i j. subst (λ k. earlier (slot * n) k (count * n) + a ≢ slot * n + b) e (apart n count slot 1 s (omega arith) c a b i j);
    }

module _ {V : Type 0} (R : WeightSet V) (at : ℕ) where
  pub cleared-length : (n : ℕ) (rows : List V) → length (cleared R at n rows) ≡ length rows
  cleared-length zero rows = refl
  cleared-length (suc n) rows = length-set (cleared R at n rows) (at + n) R.zero ∙ cleared-length n rows

  pub cleared-other : (n : ℕ) (rows : List V) (k : ℕ) → ((t : ℕ) → t < n → k ≢ at + t) → entry R (cleared R at n rows) k ≡ entry R rows k
  cleared-other zero rows k h = refl
  cleared-other (suc n) rows k h = get_or-set_other (cleared R at n rows) (at + n) k R.zero R.zero (h n (omega arith)) ∙ cleared-other n rows k (λ t l. h t (omega arith))

  pub cleared-zero : (n : ℕ) (rows : List V) (t : ℕ) → at + n ≤ length rows → t < n → entry R (cleared R at n rows) (at + t) ≡ R.zero
  cleared-zero zero rows t r l = absurd (omega arith)
  cleared-zero (suc n) rows t r l = elim (cases_lt t n) [
    | inl h ↦ get_or-set_other (cleared R at n rows) (at + n) (at + t) R.zero R.zero (λ e. omega (arith, e, h)) ∙ cleared-zero n rows t (omega arith) h
    | inr h ↦
        let e : n ≡ t = omega arith in
        subst (λ k. entry R (cleared R at (suc n) rows) (at + k) ≡ R.zero) e (get_or-set_same (cleared R at n rows) (at + n) R.zero R.zero (let m = cleared-length n rows in omega (arith, m)))
  ]
