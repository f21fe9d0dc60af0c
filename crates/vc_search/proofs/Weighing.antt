-- The weights of members, one after the other.
use Rattle.std.proofs.Common.{◌≡◌, ◌≤◌, ◌+◌, ◌++◌, ◌∷◌, [], ℕ, zero, suc, List, map, take, length, arith, ap, ap₂, refl, sym, subst, ◌∙◌, Some}
use Rattle.std.specs.Prelude.{IsTrue, slice_get}
use Rattle.vc_model.specs.WeightSet.{InRange, WeightSet}
use Rattle.std.proofs.lemmas.List.Elements.{All-nil, All-cons, All-head, All-tail}

-- one member more
pub taken_more : {X Y : Type 0} (f : X → Y) (xs : List X) (n : ℕ) (x : X) → slice_get xs n ≡ Some x → map f (take (n + 1) xs) ≡ map f (take n xs) ++ f x ∷ []
taken_more f [] n x e = absurd (cc)
taken_more f (y ∷ xs) zero x e = let q : y ≡ x = cc in ap (λ z. f z ∷ []) q
taken_more f (y ∷ xs) (suc n) x e =
    let m : suc n + 1 ≡ suc (n + 1) = omega arith in
    ap (λ k. map f (take k (y ∷ xs))) m ∙ ap (λ zs. f y ∷ zs) (taken_more f xs n x e)

-- in the end all
pub taken_all : {X Y : Type 0} (f : X → Y) (xs : List X) (n : ℕ) → length xs ≤ n → map f (take n xs) ≡ map f xs
taken_all f [] zero h = refl
taken_all f [] (suc n) h = refl
taken_all f (y ∷ xs) zero h = absurd (omega arith)
taken_all f (y ∷ xs) (suc n) h = ap (λ zs. f y ∷ zs) (taken_all f xs n (omega arith))

-- so the values of the members in front stay
pub weighed_more : {X V : Type 0} (f : X → V) (xs : List X) (n : ℕ) (k : X) (ws us : List V) (w : V) → slice_get xs n ≡ Some k → ws ≡ map f (take n xs) → us ≡ ws ++ w ∷ [] → w ≡ f k → us ≡ map f (take (n + 1) xs)
weighed_more f xs n k ws us w s e p q = p ∙ ap₂ (λ vs v. vs ++ v ∷ []) e q ∙ sym (taken_more f xs n k s)

-- one value more that is in range
pub in_range_more : {V : Type 0} (R : WeightSet V) (ws us : List V) (w : V) → us ≡ ws ++ w ∷ [] → InRange R ws → IsTrue (R.in_range w) → InRange R us
in_range_more {V} R ws us w e h p = subst (InRange R) (sym e) (more ws h)
  where
    more : (zs : List V) → InRange R zs → InRange R (zs ++ w ∷ [])
    more [] h = All-cons (λ (a : V). IsTrue (R.in_range a)) w [] p (All-nil (λ (a : V). IsTrue (R.in_range a)))
    more (z ∷ zs) h = All-cons (λ (a : V). IsTrue (R.in_range a)) z (zs ++ w ∷ []) (All-head (λ (a : V). IsTrue (R.in_range a)) z zs h) (more zs (All-tail (λ (a : V). IsTrue (R.in_range a)) z zs h))
