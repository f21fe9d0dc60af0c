-- The parts between zeros.
use Rattle.std.proofs.Common.{◌≡◌, ◌≢◌, ℕ, zero, suc, ◌+◌, ◌-◌, ◌<◌, ◌≤◌, List, [], ◌∷◌, ◌++◌, length, take, drop, get_or, refl, sym, ap, ◌∙◌, inl, inr, IsTrue, arith, slice_index_or}
use Rattle.std.proofs.lemmas.Bool.Decides.{eqb_tells}
use Rattle.std.proofs.lemmas.Grind.{common_steps}
use Rattle.std.proofs.lemmas.List.{take_more, take_all, length-drop}
use Rattle.vc_label.specs.Letters.{is_letter, are_letters}
use Rattle.vc_model.specs.Words.{Word, Tape}
use Rattle.vc_tuple.specs.Laws.{some_part}
use Rattle.vc_tuple.specs.Parts.{before_first, parts_of}

-- the first part ends at the first zero
pub parts_at : (xs : List ℕ) (i : ℕ) → i < length xs → ((k : ℕ) → k < i → get_or xs k 0 ≢ 0) → get_or xs i 0 ≡ 0 → parts_of xs ≡ take i xs ∷ parts_of (drop (i + 1) xs)
parts_at [] i l h e = absurd (omega arith)
parts_at (x ∷ xs) zero l h e = elim (eqb_tells x 0) [ inl p ↦ rw p.0 refl | inr p ↦ absurd (p.1 e) ]
parts_at (x ∷ xs) (suc i) l h e = elim (eqb_tells x 0) [
  | inl p ↦ absurd (h 0 (omega arith) p.1)
  | inr p ↦
      let m : parts_of xs ≡ take i xs ∷ parts_of (drop (i + 1) xs) = parts_at xs i (omega arith) (λ k b. h (suc k) (omega arith)) e in
      let n : suc i + 1 ≡ suc (i + 1) = omega arith in
      rw (p.0, m, n) refl
]

-- without a zero there is one part
pub parts_whole : (xs : List ℕ) → ((k : ℕ) → k < length xs → get_or xs k 0 ≢ 0) → parts_of xs ≡ xs ∷ []
parts_whole [] h = refl
parts_whole (x ∷ xs) h = elim (eqb_tells x 0) [
  | inl p ↦ absurd (h 0 (omega arith) p.1)
  | inr p ↦ let m : parts_of xs ≡ xs ∷ [] = parts_whole xs (λ k b. h (suc k) (omega arith)) in rw (p.0, m) refl
]

letter_not_zero : (x : ℕ) → IsTrue (is_letter x) → x ≢ 0
letter_not_zero x h = λ e. grind (arith, common_steps)

one_part : (a : Tape) → IsTrue (are_letters a) → parts_of a ≡ a ∷ []
one_part [] h = refl
one_part (x ∷ a) h =
    let f : IsTrue (is_letter x) = grind (arith, common_steps) in
    let g : IsTrue (are_letters a) = grind (arith, common_steps) in
    elim (eqb_tells x 0) [
      | inl p ↦ absurd (letter_not_zero x f p.1)
      | inr p ↦ rw (p.0, one_part a g) refl
    ]

before_more : (x : ℕ) (v w : Word) → 1 ≤ length v → before_first x v ++ w ≡ before_first x (v ++ w)
before_more x [] w h = absurd (omega arith)
before_more x (a ∷ v) w h = refl

parts_more : (xs a : List ℕ) → IsTrue (are_letters a) → parts_of ((xs ++ 0 ∷ []) ++ a) ≡ parts_of xs ++ a ∷ []
parts_more [] a h = ap (λ (w : Word). [] ∷ w) (one_part a h)
parts_more (x ∷ xs) a h = elim (eqb_tells x 0) [
  | inl p ↦ rw p.0 (ap (λ (w : Word). [] ∷ w) (parts_more xs a h))
  | inr p ↦ rw p.0 (ap (before_first x) (parts_more xs a h) ∙ sym (before_more x (parts_of xs) (a ∷ []) (some_part xs)))
]

-- the first tape
pub first_tape : (a : Tape) (w : Word) → IsTrue (are_letters a) → 1 ≤ length w → a ≡ slice_index_or w 0 [] → parts_of a ≡ take 1 w
first_tape a [] h l e = absurd (omega arith)
first_tape a (b ∷ w) h l e = one_part a h ∙ ap (λ (t : Tape). t ∷ []) e

-- one more tape
pub more_tapes : (xs a : List ℕ) (w : Word) (i : ℕ) → IsTrue (are_letters a) → parts_of xs ≡ take i w → i < length w → a ≡ slice_index_or w i [] → parts_of ((xs ++ 0 ∷ []) ++ a) ≡ take (i + 1) w
more_tapes xs a w i h e l f = parts_more xs a h ∙ rw (e, f) (sym (take_more w i [] l))

-- all tapes
pub all_tapes : (xs : List ℕ) (w : Word) (i : ℕ) → parts_of xs ≡ take i w → length w ≤ i → parts_of xs ≡ w
all_tapes xs w i e l = e ∙ take_all i w l

-- the slice after the first zero
pub parts_after : (xs : List ℕ) (i : ℕ) → i < length xs → ((k : ℕ) → k < i → get_or xs k 0 ≢ 0) → get_or xs i 0 ≡ 0 → parts_of xs ≡ take i xs ∷ parts_of (take (length xs - (i + 1)) (drop (i + 1) xs))
parts_after xs i l h e = rw (take_all (length xs - (i + 1)) (drop (i + 1) xs) (omega (arith, length-drop (i + 1) xs))) (parts_at xs i l h e)
