-- The numbers of members, and transitions between them.
use Rattle.std.proofs.Common.{◌≡◌, ℕ, List, [], ◌∷◌, ◌++◌, map, Bool, true, false, cond, not, refl, sym, ap, ap₂, ◌∙◌, subst, zero, suc, ◌<◌, ◌+◌, arith, length, get_or, inl, inr}
use Rattle.std.specs.List.{flat_map}
use Rattle.std.proofs.lemmas.Bool.{false≢true}
use Rattle.vc_model.specs.Automata.{Transition, triple}
use Rattle.vc_model.specs.Items.{Item, item_key}
use Rattle.vc_model.specs.Lists.{In, NoRepeat, below, IsEqualityTest}
use Rattle.vc_model.specs.Machines.{place_in, steps_of}
use Rattle.vc_model.specs.Members.{In-map, In-map_from, NoRepeat-flat_map, NoRepeat-up_from, below-In}
use Rattle.vc_model.specs.Words.{Word}
use Rattle.vc_search.specs.Courses.{step_of, steps_at, steps_below}
use Rattle.vc_search.specs.Explored.{next_by}
use Rattle.vc_search.specs.Found.{number_of}

-- distinct under one map, distinct under another that tells no fewer apart
once_through : {X Y Z : Type 0} (f : X → Y) (g : X → Z) (xs : List X) → ((x y : X) → In x xs → In y xs → f x ≡ f y → g x ≡ g y) → NoRepeat (map g xs) → NoRepeat (map f xs)
once_through f g [] h n = tt
once_through f g (x ∷ xs) h n = (
  (λ i. let r = In-map_from f (f x) xs i in n.0 (subst (λ z. In z (map g xs)) (sym (h x r.0 (inl refl) (inr r.1) r.2)) (In-map g r.0 xs r.1))),
  once_through f g xs (λ y z i j. h y z (inr i) (inr j)) n.1,
)

map_map : {X Y Z : Type 0} (f : Y → Z) (g : X → Y) (xs : List X) → map f (map g xs) ≡ map (λ x. f (g x)) xs
map_map f g [] = refl
map_map f g (x ∷ xs) = ap (λ zs. f (g x) ∷ zs) (map_map f g xs)

map_append : {X Y : Type 0} (f : X → Y) (xs ys : List X) → map f (xs ++ ys) ≡ map f xs ++ map f ys
map_append f [] ys = refl
map_append f (x ∷ xs) ys = ap (λ zs. f x ∷ zs) (map_append f xs ys)

map_flat : {X Y Z : Type 0} (f : Y → Z) (g : X → List Y) (xs : List X) → map f (flat_map g xs) ≡ flat_map (λ x. map f (g x)) xs
map_flat f g [] = refl
map_flat f g (x ∷ xs) = map_append f (g x) (flat_map g xs) ∙ ap (λ zs. map f (g x) ++ zs) (map_flat f g xs)

get_in : {X : Type 0} (xs : List X) (i : ℕ) (d : X) → i < length xs → In (get_or xs i d) xs
get_in [] i d h = absurd (omega arith)
get_in (x ∷ xs) zero d h = inl refl
get_in (x ∷ xs) (suc i) d h = inr (get_in xs i d (omega arith))

get_next : {X : Type 0} (x : X) (xs : List X) (n : ℕ) (d : X) → get_or (x ∷ xs) (1 + n) d ≡ get_or xs n d
get_next x xs n d = let e : 1 + n ≡ suc n = omega arith in ap (λ m. get_or (x ∷ xs) m d) e

module _ {K : Type 0} (same : K → K → Bool) (T : IsEqualityTest same) where
  -- a member stands at its number
  number_at : (k : K) (ks : List K) (d : K) → In k ks → get_or ks (number_of same k ks) d ≡ k
  number_at k [] d i = absurd i
  number_at k (x ∷ ks) d i = go (same k x) refl (λ j. number_at k ks d j) i
    where
      go : (b : Bool) → same k x ≡ b → (In k ks → get_or ks (number_of same k ks) d ≡ k) → In k (x ∷ ks) → get_or (x ∷ ks) (cond (not b) (1 + number_of same k ks) 0) d ≡ k
      go true e ih i = sym ((T k x).0 e)
      go false e ih (inl p) = absurd (false≢true (sym e ∙ (T k x).1 p))
      go false e ih (inr j) = get_next x ks (number_of same k ks) d ∙ ih j

  -- so different members have different numbers
  number_once : (a b : K) (ks : List K) → In a ks → In b ks → number_of same a ks ≡ number_of same b ks → a ≡ b
  number_once a b ks i j e = sym (number_at a ks a i) ∙ ap (λ n. get_or ks n a) e ∙ number_at b ks a j

  both_ways : (a b : K) → same a b ≡ same b a
  both_ways a b = go (same a b) (same b a) refl refl
    where
      go : (x y : Bool) → same a b ≡ x → same b a ≡ y → x ≡ y
      go true true e f = refl
      go false false e f = refl
      go true false e f = absurd (false≢true (sym f ∙ (T b a).1 (sym ((T a b).0 e))))
      go false true e f = absurd (false≢true (sym e ∙ (T a b).1 (sym ((T b a).0 f))))

  number_place : (k : K) (ks : List K) → number_of same k ks ≡ place_in same k ks
  number_place k [] = refl
  number_place k (x ∷ ks) = flip (same k x) (number_place k ks) ∙ ap (λ b. cond b 0 (suc (place_in same k ks))) (both_ways k x)
    where
      flip : (b : Bool) → number_of same k ks ≡ place_in same k ks → cond (not b) (1 + number_of same k ks) 0 ≡ cond b 0 (suc (place_in same k ks))
      flip true e = refl
      flip false e = omega arith

  module _ {V : Type 0} (items : K → List (Item V K)) (past : K) (members : List K) where
    steps : (i : ℕ) (es : List (Item V K)) → map (step_of same members i) es ≡ map (λ (e : Item V K). record { from = i; label = e.label; to = place_in same e.to members; weight = e.weight }) es
    steps i [] = refl
    steps i (e ∷ es) = ap₂ (λ n (ts : List (Transition V)). record { from = i; label = e.label; to = n; weight = e.weight } ∷ ts) (number_place e.to members) (steps i es)

    -- the transitions are those of the machine of the members
    pub machine_steps : (ns : List ℕ) → flat_map (steps_at same items past members) ns ≡ flat_map (λ i. steps_of same items past members i) ns
    machine_steps [] = refl
    machine_steps (n ∷ ns) = ap₂ ◌++◌ (steps n (items (get_or members n past))) (machine_steps ns)

    -- no triple of them occurs twice
    pub steps_once : (closed : (x y : K) → In x members → In y (next_by items x) → In y members) → ((i : ℕ) → i < length members → NoRepeat (map item_key (items (get_or members i past)))) → NoRepeat (map triple (steps_below same items past members (length members)))
    steps_once closed each =
        subst NoRepeat (sym (map_flat triple (steps_at same items past members) (below (length members))))
        (NoRepeat-flat_map (λ i. map triple (steps_at same items past members i)) (below (length members)) (NoRepeat-up_from 0 (length members))
        (λ i m.
        let es = items (get_or members i past) in
        let h = below-In (length members) i m in
        let f : Item V K → ℕ × Word × ℕ = λ e. triple (step_of same members i e) in
        subst NoRepeat (sym (map_map triple (step_of same members i) es))
        (once_through f item_key es
        (λ x y a b p.
        let c = closed (get_or members i past) in
        let g = get_in members i past h in
        let q : x.to ≡ y.to = number_once x.to y.to members (c x.to g (In-map (λ (e : Item V K). e.to) x es a)) (c y.to g (In-map (λ (e : Item V K). e.to) y es b)) (ap (λ (z : ℕ × Word × ℕ). z.2) p) in
        let l : x.label ≡ y.label = ap (λ (z : ℕ × Word × ℕ). z.1) p in
        ap₂ (λ (u : Word) (v : K). (u, v)) l q)
        (each i h)))
        (λ i j y a b p q.
        let u = In-map_from triple y (steps_at same items past members i) p in
        let v = In-map_from triple y (steps_at same items past members j) q in
        from_of i u.0 u.1 u.2 ∙ sym (from_of j v.0 v.1 v.2)))
      where
        from_of : {y : ℕ × Word × ℕ} (i : ℕ) (t : Transition V) → In t (steps_at same items past members i) → y ≡ triple t → i ≡ y.0
        from_of i t m e =
            let r = In-map_from (step_of same members i) t (items (get_or members i past)) m in
            sym (ap (λ (z : Transition V). z.from) r.2) ∙ sym (ap (λ (z : ℕ × Word × ℕ). z.0) e)
