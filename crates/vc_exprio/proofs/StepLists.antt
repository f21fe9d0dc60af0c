-- Steps in order.
use Rattle.std.proofs.Common.{◌≡◌, ◌<◌, ◌-◌, ◌+◌, ℕ, zero, suc, List, [], ◌∷◌, map, take, drop, length, slice_index_or, refl, ap, sym, ◌∙◌, arith}
use Rattle.std.proofs.lemmas.List.{take_all, length-drop, drop_more}

map_drop : {X Y : Type 0} (f : X → Y) (n : ℕ) (xs : List X) → drop n (map f xs) ≡ map f (drop n xs)
map_drop f zero xs = refl
map_drop f (suc n) [] = refl
map_drop f (suc n) (x ∷ xs) = map_drop f n xs

-- what stands at a place, and what stands after it
pub at_place : {X Y : Type 0} (f : X → Y) (xs : List X) (at : ℕ) (d : X) → at < length xs
    → drop at (map f xs) ≡ f (slice_index_or xs at d) ∷ map f (take (length xs - (at + 1)) (drop (at + 1) xs))
at_place f xs at d h =
    map_drop f at xs ∙ ap (map f) (drop_more xs at d h)
    ∙ ap (λ ys. f (slice_index_or xs at d) ∷ map f ys) (sym (take_all (length xs - (at + 1)) (drop (at + 1) xs) (omega (arith, length-drop (at + 1) xs))))

rest_at : {X : Type 0} (xs ys : List X) (at : ℕ) (x : X) → drop at xs ≡ x ∷ ys → drop (suc at) xs ≡ ys
rest_at [] ys zero x e = absurd (cc)
rest_at [] ys (suc at) x e = absurd (cc)
rest_at (z ∷ xs) ys zero x e = cc
rest_at (z ∷ xs) ys (suc at) x e = rest_at xs ys at x e

-- what stands after a place
pub after_place : {X : Type 0} (xs ys : List X) (at : ℕ) (x : X) → drop at xs ≡ x ∷ ys → drop (at + 1) xs ≡ ys
after_place xs ys at x e = let n : at + 1 ≡ suc at = omega arith in ap (λ k. drop k xs) n ∙ rest_at xs ys at x e
