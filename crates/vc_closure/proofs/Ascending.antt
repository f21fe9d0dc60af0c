-- Items whose keys ascend: at each key at most one of them stands, and those before an item are those of lesser keys.
use Rattle.std.proofs.Common.{◌≡◌, ℕ, ◌<◌, List, [], ◌∷◌, ◌++◌, Bool, true, false, cond, eqb, refl, sym, ap, ap₂, ◌∙◌, inl, inr, subst, arith}
use Rattle.std.proofs.lemmas.Bool.{eqb-true, eq-eqb}
use Rattle.vc_closure.proofs.Closings.{less, pick}
use Rattle.vc_model.specs.Choices.{cond-times, off}
use Rattle.vc_model.specs.Lists.{In, below}
use Rattle.vc_model.specs.Members.{In-middle}
use Rattle.vc_model.specs.Rearranged.{plus_times, zero_plus, zero_times}
use Rattle.vc_model.specs.SumLaws.{sum-plus, sum_same, sum_zero}
use Rattle.vc_model.specs.Sums.{sum_over}
use Rattle.vc_model.specs.WeightSet.{WeightSet, SemiringLaws}

-- of the items that count, each has a lesser key than those after it
abbrev pub Ascends : {X : Type 0} → (X → Bool) → (X → ℕ) → List X → Type 0
Ascends on key [] = Unit {0}
Ascends {X} on key (x ∷ xs) = ((y : X) → In y xs → on x ≡ true → on y ≡ true → key x < key y) × Ascends on key xs

module _ {X V : Type 0} {R : WeightSet V} (L : SemiringLaws R) (on : X → Bool) (key : X → ℕ) (value : X → V) where
  -- what counts at a key
  abbrev pub at_key : List X → ℕ → V
  at_key xs q = sum_over R (λ x. cond (on x) (cond (eqb q (key x)) (value x) R.zero) R.zero) xs

  -- what counts, each times what stands at its key
  abbrev pub part : List X → (ℕ → V) → V
  part xs g = sum_over R (λ x. cond (on x) (R.times (value x) (g (key x))) R.zero) xs

  none_at : (xs : List X) (q : ℕ) → ((x : X) → In x xs → on x ≡ true → q < key x) → at_key xs q ≡ R.zero
  none_at xs q h = sum_zero L _ xs (λ x i. go x i (on x) refl)
    where
      go : (x : X) → In x xs → (b : Bool) → on x ≡ b → cond b (cond (eqb q (key x)) (value x) R.zero) R.zero ≡ R.zero
      go x i true e = off R.zero (eqb q (key x)) (value x) (λ t. let k : q ≡ key x = eqb-true q (key x) t in let l : q < key x = h x i e in absurd (omega arith))
      go x i false e = refl

  -- what counts at the key of an item is the item's own
  pub there : (before after : List X) (x : X) → on x ≡ true → Ascends on key (before ++ x ∷ after) → at_key (before ++ x ∷ after) (key x) ≡ value x
  there [] after x o a =
      ap₂ R.plus
      (ap (λ b. cond b (cond (eqb (key x) (key x)) (value x) R.zero) R.zero) o ∙ ap (λ b. cond b (value x) R.zero) (eq-eqb (key x) (key x) refl))
      (none_at after (key x) (λ y i h. a.0 y i o h)) ∙ L.plus_zero (value x)
  there (y ∷ ys) after x o a =
      ap (λ v. R.plus v (at_key (ys ++ x ∷ after) (key x))) (go (on y) refl)
      ∙ zero_plus L (at_key (ys ++ x ∷ after) (key x)) ∙ there ys after x o a.1
    where
      go : (b : Bool) → on y ≡ b → cond b (cond (eqb (key x) (key y)) (value y) R.zero) R.zero ≡ R.zero
      go true e = off R.zero (eqb (key x) (key y)) (value y) (λ t. let k : key x ≡ key y = eqb-true (key x) (key y) t in let l : key y < key x = a.0 x (In-middle x ys after) e o in absurd (omega arith))
      go false e = refl

  one_key : (x : X) (n : ℕ) (g : ℕ → V) → (on x ≡ true → key x < n) → sum_over R (λ j. R.times (cond (on x) (cond (eqb j (key x)) (value x) R.zero) R.zero) (g j)) (below n) ≡ cond (on x) (R.times (value x) (g (key x))) R.zero
  one_key x n g h = go (on x) h
    where
      go : (b : Bool) → (b ≡ true → key x < n) → sum_over R (λ j. R.times (cond b (cond (eqb j (key x)) (value x) R.zero) R.zero) (g j)) (below n) ≡ cond b (R.times (value x) (g (key x))) R.zero
      go true l = sum_same L _ (λ j. cond (eqb j (key x)) (R.times (value x) (g j)) R.zero) (below n) (λ j i. cond-times L (eqb j (key x)) (value x) (g j)) ∙ pick L n (key x) (λ j. R.times (value x) (g j)) (l refl)
      go false l = sum_zero L _ (below n) (λ j i. zero_times L (g j))

  -- what counts before an item is what counts at the lesser keys
  pub lesser : (before after : List X) (x : X) (g : ℕ → V) → on x ≡ true → Ascends on key (before ++ x ∷ after) → part before g ≡ sum_over R (λ j. R.times (at_key (before ++ x ∷ after) j) (g j)) (below (key x))
  lesser [] after x g o a =
      sym (sum_zero L _ (below (key x)) (λ j i. ap (λ v. R.times v (g j)) (none_at (x ∷ after) j (all j (less j (key x) i))) ∙ zero_times L (g j)))
    where
      all : (j : ℕ) → j < key x → (y : X) → In y (x ∷ after) → on y ≡ true → j < key y
      all j l y (inl e) h = subst (λ z. j < key z) (sym e) l
      all j l y (inr i) h = let m : key x < key y = a.0 y i o h in omega arith
  lesser (y ∷ ys) after x g o a =
      ap₂ R.plus (sym (one_key y (key x) g (λ h. a.0 x (In-middle x ys after) h o))) (lesser ys after x g o a.1)
      ∙ sym (sum-plus L _ _ (below (key x)))
      ∙ sum_same L _ _ (below (key x)) (λ j i. sym (plus_times L (cond (on y) (cond (eqb j (key y)) (value y) R.zero) R.zero) (at_key (ys ++ x ∷ after) j) (g j)))
