-- One item more of a list.
use Rattle.std.proofs.Common.{◌≡◌, ℕ, List, [], ◌∷◌, ◌++◌, map, Bool, true, false, cond, refl, sym, ap, ◌∙◌, zero, suc, ◌<◌, ◌+◌, arith, length, drop, take, get_or, ◌-◌, length-drop, inr}
use Rattle.std.specs.List.{filter}
use Rattle.std.proofs.lemmas.List.{append-nil}
use Rattle.vc_model.specs.Gathered.{IsAscending}
use Rattle.vc_model.specs.Lists.{In, below}
use Rattle.vc_model.specs.Members.{up_from-more}
use Rattle.vc_join.specs.Pairs.{Pair}

-- the item at a place begins what is left there
pub next_item : {X : Type 0} (xs : List X) (i : ℕ) (x : X) → i < length xs → x ≡ get_or xs i x → drop i xs ≡ x ∷ drop (i + 1) xs
next_item [] i x h e = absurd (omega arith)
next_item (y ∷ xs) zero x h e = ap (λ z. z ∷ xs) (sym e)
next_item (y ∷ xs) (suc i) x h e =
    let n : suc i + 1 ≡ suc (i + 1) = omega arith in
    next_item xs i x (omega arith) e ∙ ap (λ k. x ∷ drop k (y ∷ xs)) (sym n)

filter-append : {X : Type 0} (p : X → Bool) (xs ys : List X) → filter p (xs ++ ys) ≡ filter p xs ++ filter p ys
filter-append p [] ys = refl
filter-append p (x ∷ xs) ys = go (p x) (filter-append p xs ys)
  where
    go : (b : Bool) → filter p (xs ++ ys) ≡ filter p xs ++ filter p ys → cond b (x ∷ filter p (xs ++ ys)) (filter p (xs ++ ys)) ≡ cond b (x ∷ filter p xs) (filter p xs) ++ filter p ys
    go true e = ap (λ zs. x ∷ zs) e
    go false e = e

-- one number more that passes, or does not
pub below_more : (p : ℕ → Bool) (n : ℕ) → filter p (below (n + 1)) ≡ cond (p n) (filter p (below n) ++ n ∷ []) (filter p (below n))
below_more p n =
    let z : 0 + n ≡ n = omega arith in
    ap (filter p) (up_from-more 0 n ∙ ap (λ m. below n ++ m ∷ []) z) ∙ filter-append p (below n) (n ∷ []) ∙ go (p n)
  where
    go : (b : Bool) → filter p (below n) ++ cond b (n ∷ []) [] ≡ cond b (filter p (below n) ++ n ∷ []) (filter p (below n))
    go true = refl
    go false = append-nil (filter p (below n))

pub drop_at : {X : Type 0} (xs : List X) (i : ℕ) (d : X) → i < length xs → drop i xs ≡ get_or xs i d ∷ drop (i + 1) xs
drop_at [] i d h = absurd (omega arith)
drop_at (y ∷ xs) zero d h = refl
drop_at (y ∷ xs) (suc i) d h =
    let n : suc i + 1 ≡ suc (i + 1) = omega arith in
    drop_at xs i d (omega arith) ∙ ap (λ k. get_or xs i d ∷ drop k (y ∷ xs)) (sym n)

-- a pair
abbrev pub paired : ℕ → ℕ → Pair
paired p q = (p, q)

-- the items in front, and one more
pub take_item : {X Y : Type 0} (f : X → Y) (xs : List X) (i : ℕ) (x : X) → i < length xs → x ≡ get_or xs i x → map f (take (i + 1) xs) ≡ map f (take i xs) ++ f x ∷ []
take_item f [] i x h e = absurd (omega arith)
take_item f (y ∷ xs) zero x h e = ap (λ z. f z ∷ []) (sym e)
take_item f (y ∷ xs) (suc i) x h e =
    let n : suc i + 1 ≡ suc (i + 1) = omega arith in
    ap (λ k. map f (take k (y ∷ xs))) n ∙ ap (λ zs. f y ∷ zs) (take_item f xs i x (omega arith) e)

take_all : {X : Type 0} (xs : List X) (n : ℕ) → n ≡ length xs → take n xs ≡ xs
take_all [] n e = ap (λ k. take k []) e
take_all (x ∷ xs) n e = ap (λ k. take k (x ∷ xs)) e ∙ ap (λ zs. x ∷ zs) (take_all xs (length xs) refl)

-- all that is left from a place on
pub take_rest : {X : Type 0} (xs : List X) (i : ℕ) → take (length xs - i) (drop i xs) ≡ drop i xs
take_rest xs i = take_all (drop i xs) (length xs - i) (sym (length-drop i xs))

-- what is left of a mapped list
pub drop_map : {X Y : Type 0} (f : X → Y) (n : ℕ) (xs : List X) → drop n (map f xs) ≡ map f (drop n xs)
drop_map f zero xs = refl
drop_map f (suc n) [] = refl
drop_map f (suc n) (x ∷ xs) = drop_map f n xs

-- the same where it is cut to its length
pub rest_map : {X Y : Type 0} (f : X → Y) (n : ℕ) (xs : List X) → map f (take (length xs - n) (drop n xs)) ≡ drop n (map f xs)
rest_map f n xs = ap (map f) (take_rest xs n) ∙ sym (drop_map f n xs)

-- it has no other members, and its order
pub drop_in : {X : Type 0} (n : ℕ) (xs : List X) (x : X) → In x (drop n xs) → In x xs
drop_in zero xs x i = i
drop_in (suc n) [] x i = i
drop_in (suc n) (y ∷ xs) x i = inr (drop_in n xs x i)

pub drop_ascending : {X Y : Type 0} (before : Y → Y → Bool) (f : X → Y) (n : ℕ) (xs : List X) → IsAscending before (map f xs) → IsAscending before (map f (drop n xs))
drop_ascending before f zero xs a = a
drop_ascending before f (suc n) [] a = a
drop_ascending before f (suc n) (x ∷ xs) a = drop_ascending before f n xs a.1
