-- Places of lists, and sums over them.
use Rattle.std.proofs.Common.{◌≡◌, ℕ, List, [], ◌∷◌, refl, sym, ap, ◌∙◌, zero, suc, ◌<◌, ◌≤◌, ◌+◌, arith, length, get_or, map, take}
use Rattle.vc_model.specs.Lists.{below}
use Rattle.vc_model.specs.SumLaws.{sum-below, sum-take}
use Rattle.vc_model.specs.Sums.{sum_over}
use Rattle.vc_model.specs.WeightSet.{WeightSet, SemiringLaws}

take_whole : {X : Type 0} (xs : List X) → take (length xs) xs ≡ xs
take_whole [] = refl
take_whole (x ∷ xs) = ap (λ zs. x ∷ zs) (take_whole xs)

module _ {V : Type 0} (R : WeightSet V) (L : SemiringLaws R) where
  sum_front : {X : Type 0} (F : X → V) (xs : List X) (d : X) (n : ℕ) → n ≤ length xs → sum_over R (λ i. F (get_or xs i d)) (below n) ≡ sum_over R F (take n xs)
  sum_front F xs d zero h = refl
  sum_front F xs d (suc n) h =
      let e : suc n ≡ n + 1 = omega arith in
      ap (λ k. sum_over R (λ i. F (get_or xs i d)) (below k)) e
      ∙ sum-below L (λ i. F (get_or xs i d)) n
      ∙ ap (λ v. R.plus v (F (get_or xs n d))) (sum_front F xs d n (omega arith))
      ∙ sym (ap (λ k. sum_over R F (take k xs)) e ∙ sum-take L F xs n d (omega arith))

  -- a sum over the places of a list is the sum over its members
  pub sum_places : {X : Type 0} (F : X → V) (xs : List X) (d : X) → sum_over R (λ i. F (get_or xs i d)) (below (length xs)) ≡ sum_over R F xs
  sum_places F xs d = sum_front F xs d (length xs) (omega arith) ∙ ap (sum_over R F) (take_whole xs)

-- what stands at a place of a mapped list
pub mapped_at : {X Y : Type 0} (f : X → Y) (xs : List X) (i : ℕ) (d : X) (z : Y) → i < length xs → get_or (map f xs) i z ≡ f (get_or xs i d)
mapped_at f [] i d z h = absurd (omega arith)
mapped_at f (x ∷ xs) zero d z h = refl
mapped_at f (x ∷ xs) (suc i) d z h = mapped_at f xs i d z (omega arith)
