-- What a stable sort of transitions ensures: they rise, and those of each triple keep their order.
use Rattle.std.proofs.Common.{◌≡◌, ◌∙◌, sym, ap, refl, ℕ, suc, ◌+◌, ◌<◌, Bool, true, false, List, [], ◌∷◌, length, map, get_or, cond, Less, Equal, Greater, arith, inl, inr}
use Rattle.std.specs.Prelude.{not, ◌&&◌}
use Rattle.std.specs.List.{filter}
use Rattle.std.specs.List.Sorted.{IsSortedBy, IsStableBy, ties}
use Rattle.std.specs.Ordering.{ordering_reverse, is_eq, is_lt}
use Rattle.std.specs.Cmp.{IsTotalOrder, IsStrictWeakOrder}
use Rattle.std.specs.declared.cmp.Ordering.{Ordering}
use Rattle.std.proofs.lemmas.List.Sorted.{ranks_by, sorted_far}
use Rattle.vc_model.specs.Automata.{Transition}
use Rattle.vc_model.specs.Lists.{In}
use Rattle.vc_aut.specs.Order.{triple_order}
use Rattle.vc_aut.proofs.Groups.{at, is_equal}
use Rattle.vc_aut.proofs.Merged.{IsRising}

filter_same : {X : Type 0} (p r : X → Bool) → ((x : X) → p x ≡ r x) → (xs : List X) → filter p xs ≡ filter r xs
filter_same p r e [] = refl
filter_same p r e (x ∷ xs) = ap (λ b. cond b (x ∷ filter p xs) (filter p xs)) (e x) ∙ ap (λ ys. cond (r x) (x ∷ ys) ys) (filter_same p r e xs)

mapped_by : {X Y : Type 0} (f : X → Y) (p : Y → Bool) (x : X) (xs : List X) (b : Bool) → filter p (map f xs) ≡ map f (filter (λ y. p (f y)) xs)
    → cond b (f x ∷ filter p (map f xs)) (filter p (map f xs)) ≡ map f (cond b (x ∷ filter (λ y. p (f y)) xs) (filter (λ y. p (f y)) xs))
mapped_by f p x xs true e = ap (λ ys. f x ∷ ys) e
mapped_by f p x xs false e = e

filter_mapped : {X Y : Type 0} (f : X → Y) (p : Y → Bool) (xs : List X) → filter p (map f xs) ≡ map f (filter (λ x. p (f x)) xs)
filter_mapped f p [] = refl
filter_mapped f p (x ∷ xs) = mapped_by f p x xs (p (f x)) (filter_mapped f p xs)

first_by : {X : Type 0} (p : X → Bool) (x : X) (xs : List X) (y : X) (ys : List X) (b : Bool) → p x ≡ b → cond b (x ∷ filter p xs) (filter p xs) ≡ y ∷ ys → ((filter p xs ≡ y ∷ ys) → p y ≡ true) → p y ≡ true
first_by p x xs y ys true h e rest = let same : x ≡ y = cc in ap p (sym same) ∙ h
first_by p x xs y ys false h e rest = rest e

-- the first that passes
first_passes : {X : Type 0} (p : X → Bool) (xs : List X) (y : X) (ys : List X) → filter p xs ≡ y ∷ ys → p y ≡ true
first_passes p [] y ys e = absurd (cc)
first_passes p (x ∷ xs) y ys e = first_by p x xs y ys (p x) refl e (first_passes p xs y ys)

tied : (o p : Ordering) → p ≡ ordering_reverse o → (not (is_lt o) && not (is_lt p)) ≡ is_eq o
tied Less p e = ap (λ q. not (is_lt Less) && not (is_lt q)) e
tied Equal p e = ap (λ q. not (is_lt Equal) && not (is_lt q)) e
tied Greater p e = ap (λ q. not (is_lt Greater) && not (is_lt q)) e

module _ {X V : Type 0} (order : IsTotalOrder (triple_order {V = V})) (tr : X → Transition V) where
  -- a transition comes before another
  abbrev pub before : X → X → Bool
  before x y = is_lt (triple_order (tr x) (tr y))

  pub before_ranks : IsStrictWeakOrder before
  before_ranks = ranks_by order tr

  first : (y : X) (ys : List X) → ((j : ℕ) (d : X) → j < length ys → before (get_or ys j d) y ≡ false) → (u : Transition V) → In u (map tr ys) → is_lt (triple_order u (tr y)) ≡ false
  first y [] k u i = absurd i
  first y (x ∷ xs) k u (inl e) = ap (λ v. is_lt (triple_order v (tr y))) e ∙ k 0 x (omega arith)
  first y (x ∷ xs) k u (inr i) = first y xs (λ j d b. k (suc j) d (omega arith)) u i

  pub rising_sorted : (ys : List X) → IsSortedBy before ys → IsRising (map tr ys)
  rising_sorted [] h = tt
  rising_sorted (y ∷ ys) h = (
    first y ys (λ j d b. sorted_far before before_ranks (y ∷ ys) h 0 (suc j) d (omega arith) (omega arith)),
    rising_sorted ys (λ k d low high. (let e : suc (k + 1) ≡ suc k + 1 = omega arith in ap (λ n. before (get_or (y ∷ ys) n d) (get_or ys k d)) e ∙ h (suc k) d (omega arith) (omega arith))),
  )

  module _ (xs ys : List X) (stable : IsStableBy before xs ys) where
    group_of : (x : X) → filter (λ y. at (tr x) (tr y)) ys ≡ filter (λ y. at (tr x) (tr y)) xs
    group_of x =
        let same : (y : X) → ties before x y ≡ at (tr x) (tr y) = λ y. tied (triple_order (tr x) (tr y)) (triple_order (tr y) (tr x)) (order.antisymm (tr y) (tr x)) in
        filter_same (λ y. at (tr x) (tr y)) (ties before x) (λ y. sym (same y)) ys ∙ stable x ∙ filter_same (ties before x) (λ y. at (tr x) (tr y)) same xs

    group_at : (t : Transition V) (u : X) → at t (tr u) ≡ true → filter (λ y. at t (tr y)) ys ≡ filter (λ y. at t (tr y)) xs
    group_at t u h =
        let same : (y : X) → at t (tr y) ≡ at (tr u) (tr y) = λ y. ap is_eq (order.congr t (tr u) (tr y) (is_equal (triple_order t (tr u)) h)) in
        filter_same (λ y. at t (tr y)) (λ y. at (tr u) (tr y)) same ys ∙ group_of u ∙ filter_same (λ y. at (tr u) (tr y)) (λ y. at t (tr y)) (λ y. sym (same y)) xs

    group_by : (t : Transition V) (us vs : List X) → filter (λ y. at t (tr y)) ys ≡ us → filter (λ y. at t (tr y)) xs ≡ vs → filter (λ y. at t (tr y)) ys ≡ filter (λ y. at t (tr y)) xs
    group_by t [] [] e f = e ∙ sym f
    group_by t (u ∷ us) vs e f = group_at t u (first_passes (λ y. at t (tr y)) ys u us e)
    group_by t [] (v ∷ vs) e f = group_at t v (first_passes (λ y. at t (tr y)) xs v vs f)

    pub same_groups : (t : Transition V) → filter (at t) (map tr xs) ≡ filter (at t) (map tr ys)
    same_groups t =
        filter_mapped tr (at t) xs
        ∙ ap (map tr) (sym (group_by t (filter (λ y. at t (tr y)) ys) (filter (λ y. at t (tr y)) xs) refl refl))
        ∙ sym (filter_mapped tr (at t) ys)
