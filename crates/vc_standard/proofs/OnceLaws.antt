-- No triple stands twice in the structure of a tree.
use Rattle.std.proofs.Common.{◌≡◌, ℕ, List, [], ◌∷◌, ◌++◌, map, ◌+◌, ◌*◌, ◌/◌, ◌<◌, ◌≤◌, Bool, true, false, cond, sym, ap, ap₂, ◌∙◌, subst, arith, refl, inl, inr, ◌⊎◌}
use Rattle.std.proofs.lemmas.Bool.{eq-eqb, false≢true}
use Rattle.std.proofs.lemmas.List.{map-append}
use Rattle.std.proofs.lemmas.Nat.{div-mul-add}
use Rattle.std.specs.List.{flat_map, filter}
use Rattle.vc_model.specs.Items.{Item, item_key}
use Rattle.vc_model.specs.Lists.{In, NoRepeat}
use Rattle.vc_model.specs.Members.{In-map_from, In-filter_from, In-map, NoRepeat-append, NoRepeat-map, NoRepeat-flat_map, NoRepeat-from_map, NoRepeat-filter}
use Rattle.vc_model.specs.WeightSet.{WeightSet}
use Rattle.vc_model.specs.WordLaws.{and_both, same_word-true, same_word_is}
use Rattle.vc_model.specs.Words.{Word, same_word}
use Rattle.vc_terms.specs.ItemLists.{mapped, scaled_items, same_item, put_item, grouped_items, met_items}
use Rattle.vc_standard.specs.Structures.{Moves, same_place, moved, copied}
use Rattle.vc_standard.specs.Within.{Are}
use Rattle.vc_standard.proofs.MoveLaws.{are-in}

-- no two of the transitions have the same label and place
abbrev pub Once : {V : Type 0} → Moves V → Type 0
Once xs = NoRepeat (map item_key xs)

pair_is : (k l : Word × ℕ) → k.0 ≡ l.0 → k.1 ≡ l.1 → k ≡ l
pair_is k l p q = ap₂ (λ (a : Word) (i : ℕ). (a, i)) p q

module _ {V : Type 0} where
  mapped_keys : (f : ℕ → ℕ) (xs : Moves V) → map item_key (mapped f xs) ≡ map (λ (k : Word × ℕ). (k.0, f k.1)) (map item_key xs)
  mapped_keys f [] = refl
  mapped_keys f (x ∷ xs) = ap (λ (ks : List (Word × ℕ)). (x.label, f x.to) ∷ ks) (mapped_keys f xs)

  pub once-mapped : (f : ℕ → ℕ) → ((a b : ℕ) → f a ≡ f b → a ≡ b) → (xs : Moves V) → Once xs → Once (mapped f xs)
  once-mapped f inj xs h =
      subst NoRepeat (sym (mapped_keys f xs)) (NoRepeat-map (λ (k : Word × ℕ). (k.0, f k.1)) (map item_key xs)
      (λ k l i j e. pair_is k l (ap (λ (z : Word × ℕ). z.0) e) (inj k.1 l.1 (ap (λ (z : Word × ℕ). z.1) e))) h)

  scaled_keys : (R : WeightSet V) (k : V) (xs : Moves V) → map item_key (scaled_items R k xs) ≡ map item_key xs
  scaled_keys R k [] = refl
  scaled_keys R k (x ∷ xs) = ap (λ (ks : List (Word × ℕ)). (x.label, x.to) ∷ ks) (scaled_keys R k xs)

  pub once-scaled : (R : WeightSet V) (k : V) (xs : Moves V) → Once xs → Once (scaled_items R k xs)
  once-scaled R k xs h = subst NoRepeat (sym (scaled_keys R k xs)) h

  pub once-copied : (R : WeightSet V) (equal : V → V → Bool) (k : V) (xs : Moves V) → Once xs → Once (copied R equal k xs)
  once-copied R equal k xs h = go (equal k R.zero)
    where
      go : (b : Bool) → Once (cond b [] (scaled_items R k xs))
      go true = tt
      go false = once-scaled R k xs h

  pub once-moved : (n : ℕ) (xs : Moves V) → Once xs → Once (moved n xs)
  once-moved n xs h = once-mapped (λ i. n + i) (λ a b e. omega (arith, e)) xs h

  -- those that lead below n, and others that do not
  pub once-append : (n : ℕ) (xs ys : Moves V) → Are (λ a i. i < n) xs → Are (λ a i. n ≤ i) ys → Once xs → Once ys → Once (xs ++ ys)
  once-append n xs ys a b h g =
      subst NoRepeat (sym (map-append item_key xs ys)) (NoRepeat-append (map item_key xs) (map item_key ys) h g
      (λ k i j.
      let e = In-map_from item_key k xs i in
      let d = In-map_from item_key k ys j in
      let p : e.0.to < n = are-in (λ a i. i < n) xs a e.0 e.1 in
      let q : n ≤ d.0.to = are-in (λ a i. n ≤ i) ys b d.0 d.1 in
      let s : e.0.to ≡ d.0.to = ap (λ (z : Word × ℕ). z.1) (sym e.2 ∙ d.2) in
      absurd (omega (arith, p, q, s))))

  -- transitions with the same label and place are the same one
  same_one : (xs : Moves V) → Once xs → (d e : Item V ℕ) → In d xs → In e xs → item_key d ≡ item_key e → d ≡ e
  same_one [] h d e i j q = absurd i
  same_one (x ∷ xs) h d e (inl p) (inl r) q = p ∙ sym r
  same_one (x ∷ xs) h d e (inl p) (inr j) q = absurd (h.0 (subst (λ k. In k (map item_key xs)) (sym q ∙ ap item_key p) (In-map item_key e xs j)))
  same_one (x ∷ xs) h d e (inr i) (inl r) q = absurd (h.0 (subst (λ k. In k (map item_key xs)) (q ∙ ap item_key r) (In-map item_key d xs i)))
  same_one (x ∷ xs) h d e (inr i) (inr j) q = same_one xs h.1 d e i j q

module _ {V : Type 0} (R : WeightSet V) where
  put_keys : (k : Word × ℕ) (e : Item V ℕ) (ds : Moves V) → In k (map item_key (put_item R same_place e ds)) → (k ≡ item_key e) ⊎ In k (map item_key ds)
  put_keys k e [] i = i
  put_keys k e (d ∷ ds) i = go (same_item same_place d e) i (put_keys k e ds)
    where
      go : (b : Bool) → In k (map item_key (cond b (record { label = d.label; weight = R.plus d.weight e.weight; to = d.to } ∷ ds) (d ∷ put_item R same_place e ds))) → (In k (map item_key (put_item R same_place e ds)) → (k ≡ item_key e) ⊎ In k (map item_key ds)) → (k ≡ item_key e) ⊎ In k (map item_key (d ∷ ds))
      go true j r = inr j
      go false (inl q) r = inr (inl q)
      go false (inr j) r = elim (r j) [ inl q ↦ inl q | inr m ↦ inr (inr m) ]

  same_key : (d e : Item V ℕ) → item_key d ≡ item_key e → same_item same_place d e ≡ true
  same_key d e q = and_both (same_word d.label e.label) (same_place d.to e.to) (same_word_is d.label e.label (ap (λ (k : Word × ℕ). k.0) q)) (eq-eqb d.to e.to (ap (λ (k : Word × ℕ). k.1) q))

  put_once : (e : Item V ℕ) (ds : Moves V) → Once ds → Once (put_item R same_place e ds)
  put_once e [] n = ((λ i. i), tt)
  put_once e (d ∷ ds) n = go (same_item same_place d e) refl (put_once e ds n.1)
    where
      go : (b : Bool) → same_item same_place d e ≡ b → Once (put_item R same_place e ds) → Once (cond b (record { label = d.label; weight = R.plus d.weight e.weight; to = d.to } ∷ ds) (d ∷ put_item R same_place e ds))
      go true p m = n
      go false p m = ((λ i. elim (put_keys (item_key d) e ds i) [ inl q ↦ absurd (false≢true (sym p ∙ same_key d e q)) | inr j ↦ n.0 j ]), m)

  pub once-grouped : (ds es : Moves V) → Once ds → Once (grouped_items R same_place ds es)
  once-grouped ds [] n = n
  once-grouped ds (e ∷ es) n = once-grouped (put_item R same_place e ds) es (put_once e ds n)

  -- any two that meet lead to a place of their own
  pub once-met : (m : ℕ) (xs ys : Moves V) → Are (λ a i. i < m) ys → Once xs → Once ys → Once (met_items R (λ i j. i * m + j) xs ys)
  once-met m xs ys b h g = subst NoRepeat (sym (keys xs)) (NoRepeat-flat_map pieces xs (NoRepeat-from_map item_key xs h) each apart)
    where
      met : Item V ℕ → Item V ℕ → Item V ℕ
      met e d = record { label = e.label; weight = R.times e.weight d.weight; to = e.to * m + d.to }

      pieces : Item V ℕ → List (Word × ℕ)
      pieces e = map item_key (map (met e) (filter (λ d. same_word e.label d.label) ys))

      keys : (zs : Moves V) → map item_key (met_items R (λ i j. i * m + j) zs ys) ≡ flat_map pieces zs
      keys [] = refl
      keys (z ∷ zs) =
          map-append item_key (map (met z) (filter (λ d. same_word z.label d.label) ys)) (met_items R (λ i j. i * m + j) zs ys)
          ∙ ap (λ ks. pieces z ++ ks) (keys zs)

      below : (d : Item V ℕ) → In d ys → d.to < m
      below d i = are-in (λ a i. i < m) ys b d i

      split : (i j k l : ℕ) → j < m → l < m → i * m + j ≡ k * m + l → (i ≡ k) × (j ≡ l)
      split i j k l p q e =
          let a = ap (λ n. n / m) e in
          let r : i ≡ k = sym (div-mul-add i m j p) ∙ a ∙ div-mul-add k m l q in
          let s : i * m ≡ k * m = ap (λ n. n * m) r in
          (r, omega (arith, e, s))

      of : (e : Item V ℕ) (k : Word × ℕ) → In k (pieces e) → (d : Item V ℕ) × In d ys × (e.label ≡ d.label) × (k.0 ≡ e.label) × (k.1 ≡ e.to * m + d.to)
      of e k i =
          let r = In-map_from item_key k (map (met e) (filter (λ d. same_word e.label d.label) ys)) i in
          let t = In-map_from (met e) r.0 (filter (λ d. same_word e.label d.label) ys) r.1 in
          let u = In-filter_from (λ d. same_word e.label d.label) t.0 ys t.1 in
          let q : k ≡ item_key (met e t.0) = r.2 ∙ ap item_key t.2 in
          (t.0, u.0, same_word-true e.label t.0.label u.1, ap (λ (z : Word × ℕ). z.0) q, ap (λ (z : Word × ℕ). z.1) q)

      each : (e : Item V ℕ) → In e xs → NoRepeat (pieces e)
      each e i =
          NoRepeat-map item_key (map (met e) (filter (λ d. same_word e.label d.label) ys))
          (λ c d j k q.
          let r = In-map_from (met e) c (filter (λ d. same_word e.label d.label) ys) j in
          let t = In-map_from (met e) d (filter (λ d. same_word e.label d.label) ys) k in
          let u = In-filter_from (λ d. same_word e.label d.label) r.0 ys r.1 in
          let v = In-filter_from (λ d. same_word e.label d.label) t.0 ys t.1 in
          let n = ap (λ (z : Word × ℕ). z.1) (ap item_key (sym r.2) ∙ q ∙ ap item_key t.2) in
          let w = (split e.to r.0.to e.to t.0.to (below r.0 u.0) (below t.0 v.0) n).1 in
          r.2 ∙ ap (met e) (same_one ys g r.0 t.0 u.0 v.0 (pair_is (item_key r.0) (item_key t.0) (sym (same_word-true e.label r.0.label u.1) ∙ same_word-true e.label t.0.label v.1) w)) ∙ sym t.2)
          (NoRepeat-map (met e) (filter (λ d. same_word e.label d.label) ys)
          (λ c d j k q.
          let u = In-filter_from (λ d. same_word e.label d.label) c ys j in
          let v = In-filter_from (λ d. same_word e.label d.label) d ys k in
          let w = (split e.to c.to e.to d.to (below c u.0) (below d v.0) (ap (λ z. z.to) q)).1 in
          same_one ys g c d u.0 v.0 (pair_is (item_key c) (item_key d) (sym (same_word-true e.label c.label u.1) ∙ same_word-true e.label d.label v.1) w))
          (NoRepeat-filter (λ d. same_word e.label d.label) ys (NoRepeat-from_map item_key ys g)))

      apart : (e z : Item V ℕ) (k : Word × ℕ) → In e xs → In z xs → In k (pieces e) → In k (pieces z) → e ≡ z
      apart e z k i j p q =
          let r = of e k p in
          let t = of z k q in
          let w = (split e.to r.0.to z.to t.0.to (below r.0 r.1) (below t.0 t.1) (sym r.4 ∙ t.4)).0 in
          same_one xs h e z i j (pair_is (item_key e) (item_key z) (sym r.3 ∙ t.3) w)
