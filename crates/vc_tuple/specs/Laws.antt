-- The laws of labels of several parts.
use Rattle.std.proofs.Common.{◌≡◌, ℕ, ◌≤◌, ◌<◌, true, List, [], ◌∷◌, length, refl, sym, ap, ◌∙◌, inl, inr, nat_eq, nat_cmp, Less, Equal, Greater, arith}
use Rattle.std.specs.Prelude.{◌↔◌}
use Rattle.std.specs.Cmp.Lexicographic.{slice_cmp, pointwise, bytes_decides}
use Rattle.std.specs.Ordering.{ordering_then}
use Rattle.std.specs.declared.cmp.Ordering.{Ordering}
use Rattle.std.proofs.lemmas.Bool.Decides.{eqb_tells, nat_tests}
use Rattle.vc_label.specs.OrderLaws.{equal}
use Rattle.vc_label.specs.Order.{word_order}
use Rattle.vc_model.specs.Words.{Word}
use Rattle.vc_tuple.specs.Parts.{before_first, parts_of}

then_grouped : (o p q : Ordering) → ordering_then (ordering_then o p) q ≡ ordering_then o (ordering_then p q)
then_grouped Less p q = refl
then_grouped Equal p q = refl
then_grouped Greater p q = refl

then_equal : (o : Ordering) → o ≡ ordering_then o Equal
then_equal Less = refl
then_equal Equal = refl
then_equal Greater = refl

some_before : (x : ℕ) (w : Word) → 1 ≤ length (before_first x w)
some_before x [] = omega arith
some_before x (a ∷ w) = omega arith

-- there is a part
pub some_part : (xs : List ℕ) → 1 ≤ length (parts_of xs)
some_part [] = omega arith
some_part (x ∷ xs) = elim (eqb_tells x 0) [ inl p ↦ rw p.0 (omega arith) | inr p ↦ rw p.0 (some_before x (parts_of xs)) ]

less_than_some : (w : Word) → 1 ≤ length w → Less ≡ word_order [] w
less_than_some [] h = absurd (omega arith)
less_than_some (a ∷ w) h = refl

more_than_none : (w : Word) → 1 ≤ length w → Greater ≡ word_order w []
more_than_none [] h = absurd (omega arith)
more_than_none (a ∷ w) h = refl

-- an empty part comes before a part with a letter
less_than_letter : (v w : Word) (x : ℕ) → Less ≡ word_order ([] ∷ v) (before_first x w)
less_than_letter v [] x = refl
less_than_letter v (a ∷ w) x = refl

more_than_empty : (v w : Word) (x : ℕ) → Greater ≡ word_order (before_first x v) ([] ∷ w)
more_than_empty [] w x = refl
more_than_empty (a ∷ v) w x = refl

-- the first letters decide, and then the rest
by_first_letter : (x y : ℕ) (v w : Word) → 1 ≤ length v → 1 ≤ length w → word_order (before_first x v) (before_first y w) ≡ ordering_then (nat_cmp x y) (word_order v w)
by_first_letter x y [] w h k = absurd (omega arith)
by_first_letter x y (a ∷ v) [] h k = absurd (omega arith)
by_first_letter x y (a ∷ v) (b ∷ w) h k = then_grouped (nat_cmp x y) (slice_cmp nat_cmp a b) (word_order v w)

is_less : (x y : ℕ) → x < y → nat_cmp x y ≡ Less
is_less x y h = grind (arith, nat_tests)

is_more : (x y : ℕ) → y < x → nat_cmp x y ≡ Greater
is_more x y h = grind (arith, nat_tests)

-- the bytes are ordered as the parts are
pub parts_in_order : (a b : List ℕ) → slice_cmp nat_cmp a b ≡ word_order (parts_of a) (parts_of b)
parts_in_order [] [] = refl
parts_in_order [] (y ∷ b) = elim (eqb_tells y 0) [
  | inl q ↦ rw q.0 (less_than_some (parts_of b) (some_part b))
  | inr q ↦ rw q.0 (less_than_letter [] (parts_of b) y)
]
parts_in_order (x ∷ a) [] = elim (eqb_tells x 0) [
  | inl p ↦ rw p.0 (more_than_none (parts_of a) (some_part a))
  | inr p ↦ rw p.0 (more_than_empty (parts_of a) [] x)
]
parts_in_order (x ∷ a) (y ∷ b) = elim (eqb_tells x 0) [
  | inl p ↦ elim (eqb_tells y 0) [
    | inl q ↦ let c : nat_cmp x y ≡ Equal = rw (p.1, q.1) refl in rw (p.0, q.0, c) (parts_in_order a b)
    | inr q ↦ let c : nat_cmp x y ≡ Less = is_less x y (omega arith) in rw (p.0, q.0, c) (less_than_letter (parts_of a) (parts_of b) y)
  ]
  | inr p ↦ elim (eqb_tells y 0) [
    | inl q ↦ let c : nat_cmp x y ≡ Greater = is_more x y (omega arith) in rw (p.0, q.0, c) (more_than_empty (parts_of a) (parts_of b) x)
    | inr q ↦ rw (p.0, q.0) (ap (ordering_then (nat_cmp x y)) (parts_in_order a b) ∙ sym (by_first_letter x y (parts_of a) (parts_of b) (some_part a) (some_part b)))
  ]
]

same_bytes : (a b : List ℕ) → parts_of a ≡ parts_of b → a ≡ b
same_bytes a b e =
    let o : slice_cmp nat_cmp a b ≡ Equal = parts_in_order a b ∙ (equal (parts_of a) (parts_of b)).1 e in
    let f : (a ∷ []) ≡ (b ∷ []) = (equal (a ∷ []) (b ∷ [])).0 (sym (then_equal (slice_cmp nat_cmp a b)) ∙ o) in
    cc

-- the bytes are the same exactly where the parts are
pub same_parts_of : (a b : List ℕ) → (pointwise nat_eq a b ≡ true) ↔ (parts_of a ≡ parts_of b)
same_parts_of a b = ((λ h. ap parts_of ((bytes_decides a b).0 h)), (λ e. (bytes_decides a b).1 (same_bytes a b e)))

pub few_of_several : (xs : List ℕ) → length (parts_of xs) ≤ 4 → (1 ≤ length (parts_of xs)) × (length (parts_of xs) ≤ 4)
few_of_several xs h = (some_part xs, h)
