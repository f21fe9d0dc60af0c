-- The triples that the items of members name.
use Rattle.std.proofs.Common.{◌≡◌, ℕ, List, [], ◌∷◌, ◌++◌, map, Bool, refl, sym, ap, ◌∙◌, subst, zero, suc, ◌<◌, ◌+◌, arith, length, length-append, get_or, inl, inr}
use Rattle.std.specs.List.{flat_map}
use Rattle.std.proofs.lemmas.List.{length-map, append-nil}
use Rattle.vc_model.specs.Items.{Item, item_key}
use Rattle.vc_model.specs.Lists.{In, NoRepeat, below}
use Rattle.vc_model.specs.Members.{In-flat_map_from, In-map_from, NoRepeat-flat_map, NoRepeat-map, NoRepeat-up_from, below-In, up_from-more}
use Rattle.vc_model.specs.Words.{Word}
use Rattle.vc_search.specs.Courses.{step_of, steps_at, steps_below}

-- equal members stand at equal places
get_in : {X : Type 0} (xs : List X) (i : ℕ) (d : X) → i < length xs → In (get_or xs i d) xs
get_in [] i d h = absurd (omega arith)
get_in (x ∷ xs) zero d h = inl refl
get_in (x ∷ xs) (suc i) d h = inr (get_in xs i d (omega arith))

pub same_place : {X : Type 0} (xs : List X) (d : X) → NoRepeat xs → (i j : ℕ) → i < length xs → j < length xs → get_or xs i d ≡ get_or xs j d → i ≡ j
same_place [] d n i j h k e = absurd (omega arith)
same_place (x ∷ xs) d n zero zero h k e = refl
same_place (x ∷ xs) d n zero (suc j) h k e = absurd (n.0 (subst (λ z. In z xs) (sym e) (get_in xs j d (omega arith))))
same_place (x ∷ xs) d n (suc i) zero h k e = absurd (n.0 (subst (λ z. In z xs) e (get_in xs i d (omega arith))))
same_place (x ∷ xs) d n (suc i) (suc j) h k e = ap suc (same_place xs d n.1 i j (omega arith) (omega arith) e)

flat_length : {X Y Z : Type 0} (f : X → List Y) (g : X → List Z) (xs : List X) → ((x : X) → In x xs → length (f x) ≡ length (g x)) → length (flat_map f xs) ≡ length (flat_map g xs)
flat_length f g [] h = refl
flat_length f g (x ∷ xs) h =
    let a = flat_length f g xs (λ y i. h y (inr i)) in
    omega (arith, a, h x (inl refl), length-append (f x) (flat_map f xs), length-append (g x) (flat_map g xs))

flat_append : {X Y : Type 0} (f : X → List Y) (xs ys : List X) → length (flat_map f (xs ++ ys)) ≡ length (flat_map f xs) + length (flat_map f ys)
flat_append f [] ys = omega arith
flat_append f (x ∷ xs) ys = let a = flat_append f xs ys in omega (arith, a, length-append (f x) (flat_map f (xs ++ ys)), length-append (f x) (flat_map f xs))

module _ {V K : Type 0} (items : K → List (Item V K)) (past : K) (members : List K) where
  -- the triples of the member at a place
  abbrev pub named_at : ℕ → List (K × (Word × K))
  named_at i = map (λ (q : Word × K). (get_or members i past, q)) (map item_key (items (get_or members i past)))

  -- the triples of the first n members
  abbrev pub named_below : ℕ → List (K × (Word × K))
  named_below n = flat_map named_at (below n)

  pub named_once : (n : ℕ) → NoRepeat members → n < length members + 1 → ((i : ℕ) → i < n → NoRepeat (map item_key (items (get_or members i past)))) → NoRepeat (named_below n)
  named_once n once h each =
      NoRepeat-flat_map named_at (below n) (NoRepeat-up_from 0 n)
      (λ i m. NoRepeat-map (λ (q : Word × K). (get_or members i past, q)) (map item_key (items (get_or members i past))) (λ x y a b e. ap (λ (z : K × (Word × K)). z.1) e) (each i (below-In n i m)))
      (λ i j y a b p q.
      let u = In-map_from (λ (q : Word × K). (get_or members i past, q)) y (map item_key (items (get_or members i past))) p in
      let v = In-map_from (λ (q : Word × K). (get_or members j past, q)) y (map item_key (items (get_or members j past))) q in
      let s = below-In n i a in
      let t = below-In n j b in
      same_place members past once i j (omega (arith, s, h)) (omega (arith, t, h)) (sym (ap (λ (z : K × (Word × K)). z.0) u.2) ∙ ap (λ (z : K × (Word × K)). z.0) v.2))

  -- there are as many as there are transitions
  pub named_length : (same : K → K → Bool) (n : ℕ) → length (named_below n) ≡ length (steps_below same items past members n)
  named_length same n = flat_length named_at (steps_at same items past members) (below n) (λ i m.
      let es = items (get_or members i past) in
      length-map (map item_key es) (λ (q : Word × K). (get_or members i past, q)) ∙ length-map es item_key ∙ sym (length-map es (step_of same members i)))

  -- and for one member more
  pub named_more : (n : ℕ) → length (named_below (n + 1)) ≡ length (named_below n) + length (items (get_or members n past))
  named_more n =
      let z : 0 + n ≡ n = omega arith in
      let es = items (get_or members n past) in
      let with_member : Word × K → K × (Word × K) = λ q. (get_or members n past, q) in
      let e : below (n + 1) ≡ below n ++ n ∷ [] = up_from-more 0 n ∙ ap (λ m. below n ++ m ∷ []) z in
      let a = ap (λ ns. length (flat_map named_at ns)) e in
      let b = flat_append named_at (below n) (n ∷ []) in
      let c = ap length (append-nil (named_at n)) in
      let d : length (named_at n) ≡ length es = length-map (map item_key es) with_member ∙ length-map es item_key in
      omega (arith, a, b, c, d)

  -- each is one of a member
  pub named_by : (n : ℕ) (y : K × (Word × K)) → In y (named_below n) → (i : ℕ) × (i < n) × (y.0 ≡ get_or members i past) × In y.1 (map item_key (items y.0))
  named_by n y m =
      let r = In-flat_map_from named_at y (below n) m in
      let u = In-map_from (λ (q : Word × K). (get_or members r.0 past, q)) y (map item_key (items (get_or members r.0 past))) r.2 in
      let at : y.0 ≡ get_or members r.0 past = ap (λ (z : K × (Word × K)). z.0) u.2 in
      (r.0, below-In n r.0 r.1, at, subst (λ z. In y.1 (map item_key (items z))) (sym at) (subst (λ z. In z (map item_key (items (get_or members r.0 past)))) (sym (ap (λ (z : K × (Word × K)). z.1) u.2)) u.1))
