-- Faults that are passed on.
use Rattle.std.proofs.Common.{◌≡◌, ◌++◌, [], ◌∷◌, map, List, inl, inr, subst, refl, ◌<◌, ◌≤◌, ℕ, length, get_or, drop, zero, suc, arith, sym, ap₂, ◌∙◌, ◌+◌}
use Rattle.std.specs.Prelude.{IfErr, IsErrAnd, Result, Ok, Err}
use Rattle.vc_model.specs.WeightSet.{WeightSet}
use Rattle.vc_model.specs.Lists.{In}
use Rattle.vc_model.specs.Members.{In-middle, In-map}
use Rattle.vc_ring.specs.declared.faults.MakeFault.{MakeFault}
use Rattle.vc_ring.specs.declared.faults.MakeFault.TheVariants.{Overflow as Unfit, Limit as PastLimit, Memory}
use Rattle.vc_ring.specs.declared.faults.Overflow.{Overflow}
use Rattle.vc_standard.specs.Refusals.{IsFault}

module _ {V : Type 0} (R : WeightSet V) where
  -- a fault of a part is one of the whole
  pub passed_on : (P Q : Overflow V → Type 0) (A B : Type 0) → ((o : Overflow V) → P o → Q o) → (A → B) → (f : MakeFault V) → IsFault R P A f → IsFault R Q B f
  passed_on P Q A B p a (Unfit o) h = (p o h.0, h.1)
  passed_on P Q A B p a (PastLimit l) h = (h.0, a h.1)
  passed_on P Q A B p a (Memory e) h = tt

-- what stands at a place is a member
pub at_place : {X Y : Type 0} (f : X → Y) (xs : List X) (i : ℕ) (d : X) → i < length xs → In (f (get_or xs i d)) (map f xs)
at_place f [] i d l = absurd (omega (arith, l))
at_place f (x ∷ xs) zero d l = inl refl
at_place f (x ∷ xs) (suc i) d l = inr (at_place f xs i d (omega (arith, l)))

pub read_at : {X Y : Type 0} (f : X → Y) (xs : List X) (i : ℕ) (x : X) → i < length xs → x ≡ get_or xs i x → In (f x) (map f xs)
read_at f xs i x l e = subst (λ y. In (f y) (map f xs)) (sym e) (at_place f xs i x l)

-- and what stands between others
pub between : {X Y : Type 0} (f : X → Y) (done : List X) (x : X) (rest all : List X) → done ++ x ∷ rest ≡ all → In (f x) (map f all)
between f done x rest all e = In-map f x all (subst (λ ys. In x ys) e (In-middle x done rest))

-- the one at a place stands in front of those behind it
pub dropped : {X Y : Type 0} (f : X → Y) (xs : List X) (i : ℕ) (x : X) → i < length xs → x ≡ get_or xs i x → map f (drop i xs) ≡ f x ∷ map f (drop (i + 1) xs)
dropped {X} {Y} f xs i x l e = at xs i l ∙ ap₂ (λ y n. f y ∷ map f (drop n xs)) (sym e) (next i)
  where
    next : (n : ℕ) → suc n ≡ n + 1
    next n = omega arith

    at : (ys : List X) (j : ℕ) → j < length ys → map f (drop j ys) ≡ f (get_or ys j x) ∷ map f (drop (suc j) ys)
    at [] j m = absurd (omega (arith, m))
    at (y ∷ ys) zero m = refl
    at (y ∷ ys) (suc j) m = at ys j (omega (arith, m))

-- a fault that is returned as it came
pub residual : {T E : Type 0} (r : Result T E) (e : E) (P : E → Type 0) → IsErrAnd r (λ x. x ≡ e) → P e → IfErr r P
residual (Ok x) e P h t = absurd h
residual (Err x) e P h t = subst P (sym h) t

-- nothing stands behind all
pub none_left : {X : Type 0} (xs : List X) (i : ℕ) → length xs ≤ i → drop i xs ≡ []
none_left [] zero l = refl
none_left [] (suc i) l = refl
none_left (x ∷ xs) zero l = absurd (omega (arith, l))
none_left (x ∷ xs) (suc i) l = none_left xs i (omega (arith, l))

-- what is true of an error is weakened
pub if_err : {T E : Type 0} (r : Result T E) (P Q : E → Type 0) → ((e : E) → P e → Q e) → IfErr r P → IfErr r Q
if_err (Ok x) P Q f h = h
if_err (Err e) P Q f h = f e h
