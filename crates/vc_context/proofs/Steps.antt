-- Answers of readers, one step after another.
use Rattle.std.proofs.Common.{◌≡◌, ◌⊎◌, inl, inr, ap, refl, List, ℕ, Option, Some, None}
use Rattle.std.specs.Option.{option_map}
use Rattle.vc_context.specs.Reading.{Front, ◌>>=◌, choose}

pub bind_some : {A B : Type 0} (o : Option A) (f : A → Option B) (y : B) → (o >>= f) ≡ Some y → (x : A) × (o ≡ Some x) × (f x ≡ Some y)
bind_some None f y e = absurd (cc)
bind_some (Some x) f y e = (x, refl, e)

pub map_some : {A B : Type 0} (f : A → B) (o : Option A) (y : B) → option_map f o ≡ Some y → (x : A) × (o ≡ Some x) × (f x ≡ y)
map_some f None y e = absurd (cc)
map_some f (Some x) y e = (x, refl, cc)

pub choose_some : {A B : Type 0} (o : Option A) (f : A → Option B) (other : Option B) (y : B) → choose o f other ≡ Some y
    → ((x : A) × (o ≡ Some x) × (f x ≡ Some y)) ⊎ ((o ≡ None) × (other ≡ Some y))
choose_some None f other y e = inr (refl, e)
choose_some (Some x) f other y e = inl (x, refl, e)

pub bind_is : {A B : Type 0} (o : Option A) (f : A → Option B) (x : A) → o ≡ Some x → (o >>= f) ≡ f x
bind_is o f x e = ap (λ o. o >>= f) e

pub map_is : {A B : Type 0} (f : A → B) (o : Option A) (x : A) → o ≡ Some x → option_map f o ≡ Some (f x)
map_is f o x e = ap (option_map f) e

pub choose_is : {A B : Type 0} (o : Option A) (f : A → Option B) (other : Option B) (x : A) → o ≡ Some x → choose o f other ≡ f x
choose_is o f other x e = ap (λ o. choose o f other) e

pub choose_not : {A B : Type 0} (o : Option A) (f : A → Option B) (other : Option B) → o ≡ None → choose o f other ≡ other
choose_not o f other e = ap (λ o. choose o f other) e

pub some_is : {A : Type 0} (x y : A) → Some x ≡ Some y → x ≡ y
some_is x y e = cc

-- an answer, and what stands behind it
abbrev pub found : {A : Type 0} → A → List ℕ → Front A
found x rest = Some (x, rest)

pub found_is : {A : Type 0} (x y : A) (s t : List ℕ) → found x s ≡ found y t → (x ≡ y) × (s ≡ t)
found_is {A} x y s t e =
    let p : A × List ℕ = (x, s) in
    let q : A × List ℕ = (y, t) in
    let same : p ≡ q = some_is p q e in
    (ap (λ (z : A × List ℕ). z.0) same, ap (λ (z : A × List ℕ). z.1) same)
