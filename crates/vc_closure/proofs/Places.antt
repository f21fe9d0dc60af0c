-- Members of lists by their places.
use Rattle.std.proofs.Common.{◌≡◌, ℕ, ◌<◌, List, [], ◌∷◌, ◌++◌, ◌+◌, length, map, get_or, slice_get, Some, take, drop, ◌-◌, refl, sym, ap, ◌∙◌, inl, inr, subst, arith, zero, suc}
use Rattle.std.specs.Option.{option_map}
use Rattle.std.proofs.lemmas.Option.{none-some, same_Some, slice_get-get_or, slice_get-map, slice_get_read, slice_get_within}
use Rattle.std.proofs.lemmas.List.{length-drop, length-map, map-append, take-map, take_all, take_more}
use Rattle.vc_model.specs.Lists.{In, NoRepeat}

-- what a list that stands for another has at a place that was read
pub at_place : {X Y : Type 0} (f : X → Y) (xs : List X) (ys : List Y) (i : ℕ) (x : X) → map f xs ≡ ys → i < length xs → x ≡ get_or xs i x → slice_get ys i ≡ Some (f x)
at_place f xs ys i x e l r = ap (λ zs. slice_get zs i) (sym e) ∙ slice_get-map f xs i ∙ ap (option_map f) (slice_get_read xs (length xs) i x refl l r)

-- what stands at a place is a member
pub member_at : {X : Type 0} (xs : List X) (i : ℕ) (x : X) → slice_get xs i ≡ Some x → In x xs
member_at [] i x e = absurd (none-some x e)
member_at (y ∷ xs) zero x e = inl (sym (same_Some y x e))
member_at (y ∷ xs) (suc i) x e = inr (member_at xs i x e)

-- a member stands at some place
pub place_of_member : {X : Type 0} (xs : List X) (x : X) → In x xs → (i : ℕ) × (slice_get xs i ≡ Some x)
place_of_member [] x i = absurd i
place_of_member (y ∷ xs) x (inl e) = (0, ap Some (sym e))
place_of_member (y ∷ xs) x (inr i) = let r = place_of_member xs x i in (suc r.0, r.1)

-- what is read from a place on is all that is left there
pub take_rest : {X : Type 0} (xs : List X) (k : ℕ) → take (length xs - k) (drop k xs) ≡ drop k xs
take_rest xs k = take_all (length xs - k) (drop k xs) (omega (arith, length-drop k xs))

pub In-drop : {X : Type 0} (x : X) (k : ℕ) (xs : List X) → In x (drop k xs) → In x xs
In-drop x zero xs i = i
In-drop x (suc k) [] i = i
In-drop x (suc k) (y ∷ xs) i = inr (In-drop x k xs i)

-- a place at which the list that stands for another has a member
pub place_within : {X Y : Type 0} (f : X → Y) (xs : List X) (i : ℕ) (y : Y) → slice_get (map f xs) i ≡ Some y → i < length xs
place_within f xs i y e = subst (λ n. i < n) (length-map xs f) (slice_get_within (map f xs) i y e)

-- the member there is what stands for the one that is read
pub place_is : {X Y : Type 0} (f : X → Y) (xs : List X) (i : ℕ) (y : Y) → slice_get (map f xs) i ≡ Some y → (d : X) → y ≡ f (get_or xs i d)
place_is f xs i y e d = same_Some y (f (get_or xs i d)) (sym e ∙ slice_get-map f xs i ∙ ap (option_map f) (slice_get-get_or xs i d (place_within f xs i y e)))

-- one more is taken of a list that stands for another
pub read_more : {X Y : Type 0} (f : X → Y) (xs : List X) (i : ℕ) (x : X) → i < length xs → x ≡ get_or xs i x → take (i + 1) (map f xs) ≡ take i (map f xs) ++ f x ∷ []
read_more f xs i x l r =
    take-map f (i + 1) xs ∙ ap (map f) (take_more xs i x l ∙ ap (λ y. take i xs ++ y ∷ []) (sym r)) ∙ map-append f (take i xs) (x ∷ [])
    ∙ ap (λ us. us ++ f x ∷ []) (sym (take-map f i xs))

-- a list at a place that was read
pub split_read : {X : Type 0} (xs : List X) (i : ℕ) (x : X) → i < length xs → x ≡ get_or xs i x → xs ≡ take i xs ++ x ∷ drop (suc i) xs
split_read [] i x l r = absurd (omega arith)
split_read (y ∷ xs) zero x l r = ap (λ z. z ∷ xs) (sym r)
split_read (y ∷ xs) (suc i) x l r = ap (λ zs. y ∷ zs) (split_read xs i x (omega arith) r)

-- the same of a list that stands for it
pub split_map : {X Y : Type 0} (f : X → Y) (xs : List X) (i : ℕ) (x : X) → i < length xs → x ≡ get_or xs i x → map f xs ≡ take i (map f xs) ++ f x ∷ drop (suc i) (map f xs)
split_map f [] i x l r = absurd (omega arith)
split_map f (y ∷ xs) zero x l r = ap (λ z. f z ∷ map f xs) (sym r)
split_map f (y ∷ xs) (suc i) x l r = ap (λ zs. f y ∷ zs) (split_map f xs i x (omega arith) r)

pub In-take : {X : Type 0} (x : X) (k : ℕ) (xs : List X) → In x (take k xs) → In x xs
In-take x zero xs i = absurd i
In-take x (suc k) [] i = absurd i
In-take x (suc k) (y ∷ xs) (inl e) = inl e
In-take x (suc k) (y ∷ xs) (inr i) = inr (In-take x k xs i)

pub once_take : {X : Type 0} (k : ℕ) (xs : List X) → NoRepeat xs → NoRepeat (take k xs)
once_take zero xs n = tt
once_take (suc k) [] n = tt
once_take (suc k) (x ∷ xs) n = ((λ i. n.0 (In-take x k xs i)), once_take k xs n.1)
