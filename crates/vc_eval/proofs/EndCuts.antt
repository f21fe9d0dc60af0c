-- The test whether a label ends a word.
use Rattle.std.proofs.Common.{◌≡◌, ◌-◌, List, [], ◌∷◌, ◌++◌, true, false, ◌&&◌, Option, None, Some, length, take, drop, refl, sym, ap, ap₂, ◌∙◌, inl, inr, arith, length-append}
use Rattle.std.specs.Prelude.{nat_eq, ◌⊎◌}
use Rattle.std.specs.List.{ends_with}
use Rattle.std.specs.Cmp.Lexicographic.{pointwise}
use Rattle.std.proofs.lemmas.Bool.Decides.{eqb_tells}
use Rattle.std.proofs.lemmas.List.{take-append-drop, drop_at}
use Rattle.vc_model.specs.Words.{Tape, Word, front_before, put_front, cut_end}
use Rattle.vc_model.specs.WordEnds.{front_before-append, append-front_before}
use Rattle.vc_eval.specs.Moves.{ends}

heads : {X : Type 0} {x y : X} {xs ys : List X} → x ∷ xs ≡ y ∷ ys → x ≡ y
heads e = cc

tails : {X : Type 0} {x y : X} {xs ys : List X} → x ∷ xs ≡ y ∷ ys → xs ≡ ys
tails e = cc

-- the letters are the same, or not
same_letters : (xs ys : Tape) → ((pointwise nat_eq xs ys ≡ true) × (xs ≡ ys)) ⊎ ((pointwise nat_eq xs ys ≡ false) × ¬ (xs ≡ ys))
same_letters [] [] = inl (refl, refl)
same_letters [] (y ∷ ys) = inr (refl, λ e. cc)
same_letters (x ∷ xs) [] = inr (refl, λ e. cc)
same_letters (x ∷ xs) (y ∷ ys) = elim (eqb_tells x y) [
  | inl e ↦ elim (same_letters xs ys) [
    | inl f ↦ inl (ap₂ (λ a b. a && b) e.0 f.0, ap₂ ◌∷◌ e.1 f.1)
    | inr n ↦ inr (ap₂ (λ a b. a && b) e.0 n.0, λ q. n.1 (tails q))
  ]
  | inr n ↦ inr (ap (λ a. a && pointwise nat_eq xs ys) n.0, λ q. n.1 (heads q))
]

-- a tape ends with another, and then something stands before; or not
abbrev TapeEnds : Tape → Tape → Type 0
TapeEnds a b = ((ends_with nat_eq b a ≡ true) × (c : Tape) × (front_before a b ≡ Some c)) ⊎ ((ends_with nat_eq b a ≡ false) × (front_before a b ≡ None))

tape_ends : (a b : Tape) → TapeEnds a b
tape_ends a b = elim (same_letters a (drop (length b - length a) b)) [
  | inl e ↦ inl (
    e.0,
    take (length b - length a) b,
    ap (front_before a) (sym (take-append-drop (length b - length a) b) ∙ ap (λ z. take (length b - length a) b ++ z) (sym e.1)) ∙ front_before-append a (take (length b - length a) b),
  )
  | inr n ↦ inr (n.0, none (front_before a b) refl n.1)
]
  where
    none : (o : Option Tape) → front_before a b ≡ o → ¬ (a ≡ drop (length b - length a) b) → o ≡ None
    none None e n = refl
    none (Some c) e n =
        let j = append-front_before a b c e in
        let l = length-append c a in
        let m = ap length j in
        let k : length b - length a ≡ length c = omega (arith, l, m) in
        absurd (n (sym (ap₂ drop k (sym j) ∙ drop_at c a (length c) refl)))

-- a label ends a word, and then something stands before; or not
abbrev pub WordEnds : Word → Word → Type 0
WordEnds l f = ((ends l f ≡ true) × (v : Word) × (cut_end l f ≡ Some v)) ⊎ ((ends l f ≡ false) × (cut_end l f ≡ None))

pub word_ends : (l f : Word) → WordEnds l f
word_ends [] [] = inl (refl, [], refl)
word_ends [] (b ∷ f) = inr (refl, refl)
word_ends (a ∷ l) [] = inr (refl, refl)
word_ends (a ∷ l) (b ∷ f) = elim (tape_ends a b) [
  | inl e ↦ elim (word_ends l f) [
    | inl g ↦ inl (ap₂ (λ x y. x && y) e.0 g.0, e.1 ∷ g.1, ap₂ put_front e.2 g.2)
    | inr n ↦ inr (ap₂ (λ x y. x && y) e.0 n.0, ap₂ put_front e.2 n.1)
  ]
  | inr n ↦ inr (ap (λ x. x && ends l f) n.0, ap (λ o. put_front o (cut_end l f)) n.1)
]
