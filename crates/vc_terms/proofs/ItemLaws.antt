-- Sums over items, and items that are collected.
use Rattle.std.proofs.Common.{◌≡◌, ◌≢◌, List, [], ◌∷◌, ◌++◌, map, cond, Bool, true, false, not, refl, sym, ap, ◌∙◌, ap₂, inl, inr, ◌⊎◌, subst}
use Rattle.std.specs.List.{filter}
use Rattle.std.proofs.lemmas.Bool.{false≢true}
use Rattle.vc_model.specs.WeightSet.{WeightSet, SemiringLaws}
use Rattle.vc_model.specs.Lists.{In, NoRepeat, IsEqualityTest}
use Rattle.vc_model.specs.Words.{Word, same_word}
use Rattle.vc_model.specs.Items.{Item, item_key, taken, AreNeat}
use Rattle.vc_terms.specs.ItemLists.{mapped, scaled_items, same_item, put_item, grouped_items, collected_items}
use Rattle.vc_model.specs.Rearranged.{zero_plus, zero_times, plus_times}
use Rattle.vc_model.specs.SumLaws.{sum-append, sum-map, sum_same, sum-times, sum-filter}
use Rattle.vc_model.specs.Members.{In-map, In-map_from, In-filter_from}
use Rattle.vc_model.specs.WordLaws.{and_parts, and_both, same_word-true, same_word_is}

module _ {V T : Type 0} {R : WeightSet V} (L : SemiringLaws R) where
  pub taken-append : (h : Word → T → V) (xs ys : List (Item V T)) → taken R h (xs ++ ys) ≡ R.plus (taken R h xs) (taken R h ys)
  taken-append h xs ys = sum-append L _ xs ys

  pub taken-scaled : (h : Word → T → V) (k : V) (xs : List (Item V T)) → taken R h (scaled_items R k xs) ≡ R.times k (taken R h xs)
  taken-scaled h k xs = sum-map L _ _ xs ∙ sum_same L _ (λ e. R.times k (R.times e.weight (h e.label e.to))) xs (λ e i. L.times_assoc k e.weight (h e.label e.to)) ∙ sum-times L k _ xs

  -- items that are left out where their factor is zero
  pub taken-unless_zero : (equal : V → V → Bool) → IsEqualityTest equal → (h : Word → T → V) (c : V) (xs : List (Item V T)) → taken R h (cond (equal c R.zero) [] (scaled_items R c xs)) ≡ R.times c (taken R h xs)
  taken-unless_zero equal Z h c xs = go (equal c R.zero) refl
    where
      go : (b : Bool) → equal c R.zero ≡ b → taken R h (cond b [] (scaled_items R c xs)) ≡ R.times c (taken R h xs)
      go true p = sym (ap (λ x. R.times x (taken R h xs)) ((Z c R.zero).0 p) ∙ zero_times L _)
      go false p = taken-scaled h c xs

  pub taken-mapped : {U : Type 0} (h : Word → U → V) (f : T → U) (xs : List (Item V T)) → taken R h (mapped f xs) ≡ taken R (λ a t. h a (f t)) xs
  taken-mapped h f xs = sum-map L _ _ xs

  pub taken_same : (h g : Word → T → V) (xs : List (Item V T)) → ((e : Item V T) → In e xs → h e.label e.to ≡ g e.label e.to) → taken R h xs ≡ taken R g xs
  taken_same h g xs r = sum_same L _ _ xs (λ e i. ap (R.times e.weight) (r e i))

-- an item of the list has the label and the target of x
pub record LikeItem {V T : Type 0} (x : Item V T) (xs : List (Item V T)) : Type 0 where
  pub item : Item V T
  pub is_in : In item xs
  pub label : item.label ≡ x.label
  pub to : item.to ≡ x.to

pub later_item : {V T : Type 0} (x e : Item V T) (xs : List (Item V T)) → LikeItem x xs → LikeItem x (e ∷ xs)
later_item x e xs r = record { item = r.item; is_in = inr r.is_in; label = r.label; to = r.to }

module _ {V T : Type 0} {R : WeightSet V} (L : SemiringLaws R) (same : T → T → Bool) (Q : IsEqualityTest same) where
  same_item-true : (d e : Item V T) → same_item same d e ≡ true → (d.label ≡ e.label) × (d.to ≡ e.to)
  same_item-true d e p = let r = and_parts (same_word d.label e.label) (same d.to e.to) p in (same_word-true d.label e.label r.0, (Q d.to e.to).0 r.1)

  taken-put : (h : Word → T → V) (e : Item V T) (ds : List (Item V T)) → taken R h (put_item R same e ds) ≡ R.plus (taken R h ds) (R.times e.weight (h e.label e.to))
  taken-put h e [] = L.plus_comm _ _
  taken-put h e (d ∷ ds) = go (same_item same d e) refl (taken-put h e ds)
    where
      go : (b : Bool) → same_item same d e ≡ b → taken R h (put_item R same e ds) ≡ R.plus (taken R h ds) (R.times e.weight (h e.label e.to))
          → taken R h (cond b (record { label = d.label; weight = R.plus d.weight e.weight; to = d.to } ∷ ds) (d ∷ put_item R same e ds)) ≡ R.plus (R.plus (R.times d.weight (h d.label d.to)) (taken R h ds)) (R.times e.weight (h e.label e.to))
      go true p r =
          let q = same_item-true d e p in
          ap (λ x. R.plus x (taken R h ds)) (plus_times L d.weight e.weight (h d.label d.to) ∙ ap (R.plus (R.times d.weight (h d.label d.to))) (ap₂ (λ a K. R.times e.weight (h a K)) q.0 q.1))
          ∙ L.plus_assoc _ _ _ ∙ ap (R.plus (R.times d.weight (h d.label d.to))) (L.plus_comm _ _) ∙ sym (L.plus_assoc _ _ _)
      go false p r = ap (R.plus (R.times d.weight (h d.label d.to))) r ∙ sym (L.plus_assoc _ _ _)

  taken-grouped : (h : Word → T → V) (ds es : List (Item V T)) → taken R h (grouped_items R same ds es) ≡ R.plus (taken R h ds) (taken R h es)
  taken-grouped h ds [] = sym (L.plus_zero _)
  taken-grouped h ds (e ∷ es) = taken-grouped h (put_item R same e ds) es ∙ ap (λ x. R.plus x (taken R h es)) (taken-put h e ds) ∙ L.plus_assoc _ _ _

  pub taken-collected : (equal : V → V → Bool) → IsEqualityTest equal → (h : Word → T → V) (xs : List (Item V T)) → taken R h (collected_items R equal same xs) ≡ taken R h xs
  taken-collected equal Z h xs =
      sum-filter L (λ e. R.times e.weight (h e.label e.to)) (λ e. not (equal e.weight R.zero)) (grouped_items R same [] xs)
      ∙ sum_same L _ (λ e. R.times e.weight (h e.label e.to)) (grouped_items R same [] xs) (λ e i. go e (equal e.weight R.zero) refl)
      ∙ taken-grouped h [] xs ∙ zero_plus L _
    where
      go : (e : Item V T) (b : Bool) → equal e.weight R.zero ≡ b → cond (not b) (R.times e.weight (h e.label e.to)) R.zero ≡ R.times e.weight (h e.label e.to)
      go e true p = sym (ap (λ x. R.times x (h e.label e.to)) ((Z e.weight R.zero).0 p) ∙ zero_times L _)
      go e false p = refl

  -- members
  put_like : (x e : Item V T) (ds : List (Item V T)) → In x (put_item R same e ds) → LikeItem x (e ∷ ds)
  put_like x e [] (inl q) = record { item = e; is_in = inl refl; label = sym (ap (λ z. z.label) q); to = sym (ap (λ z. z.to) q) }
  put_like x e [] (inr i) = absurd i
  put_like x e (d ∷ ds) i = go (same_item same d e) i (put_like x e ds)
    where
      first : (d : Item V T) (ds : List (Item V T)) → (x.label ≡ d.label) → (x.to ≡ d.to) → LikeItem x (e ∷ d ∷ ds)
      first d ds p q = record { item = d; is_in = inr (inl refl); label = sym p; to = sym q }

      skip : LikeItem x (e ∷ ds) → LikeItem x (e ∷ d ∷ ds)
      skip r = record { item = r.item; is_in = elim r.is_in [ inl q ↦ inl q | inr j ↦ inr (inr j) ]; label = r.label; to = r.to }

      go : (b : Bool) → In x (cond b (record { label = d.label; weight = R.plus d.weight e.weight; to = d.to } ∷ ds) (d ∷ put_item R same e ds)) → (In x (put_item R same e ds) → LikeItem x (e ∷ ds)) → LikeItem x (e ∷ d ∷ ds)
      go true (inl q) r = first d ds (ap (λ z. z.label) q) (ap (λ z. z.to) q)
      go true (inr j) r = record { item = x; is_in = inr (inr j); label = refl; to = refl }
      go false (inl q) r = first d ds (ap (λ z. z.label) q) (ap (λ z. z.to) q)
      go false (inr j) r = skip (r j)

  grouped_like : (x : Item V T) (ds es : List (Item V T)) → In x (grouped_items R same ds es) → LikeItem x ds ⊎ LikeItem x es
  grouped_like x ds [] i = inl (record { item = x; is_in = i; label = refl; to = refl })
  grouped_like x ds (e ∷ es) i = elim (grouped_like x (put_item R same e ds) es i) [ inl r ↦ go r (put_like r.item e ds r.is_in) | inr r ↦ inr (later_item x e es r) ]
    where
      go : (r : LikeItem x (put_item R same e ds)) → LikeItem r.item (e ∷ ds) → LikeItem x ds ⊎ LikeItem x (e ∷ es)
      go r s = elim s.is_in [
        | inl q ↦ inr (record { item = e; is_in = inl refl; label = ap (λ z. z.label) (sym q) ∙ s.label ∙ r.label; to = ap (λ z. z.to) (sym q) ∙ s.to ∙ r.to })
        | inr j ↦ inl (record { item = s.item; is_in = j; label = s.label ∙ r.label; to = s.to ∙ r.to })
      ]

  pub collected_like_item : (equal : V → V → Bool) (x : Item V T) (xs : List (Item V T)) → In x (collected_items R equal same xs) → LikeItem x xs
  collected_like_item equal x xs i = elim (grouped_like x [] xs (In-filter_from (λ e. not (equal e.weight R.zero)) x (grouped_items R same [] xs) i).0) [ inl r ↦ absurd r.is_in | inr r ↦ r ]

  -- different, and no weight zero
  same_item_is : (d e : Item V T) → item_key d ≡ item_key e → same_item same d e ≡ true
  same_item_is d e p = and_both (same_word d.label e.label) (same d.to e.to) (same_word_is d.label e.label (ap (λ z. z.0) p)) (ap (same d.to) (sym (ap (λ z. z.1) p)) ∙ (Q d.to d.to).1 refl)

  put_keys : (k : Word × T) (e : Item V T) (ds : List (Item V T)) → In k (map item_key (put_item R same e ds)) → (k ≡ item_key e) ⊎ In k (map item_key ds)
  put_keys k e [] (inl q) = inl q
  put_keys k e [] (inr i) = absurd i
  put_keys k e (d ∷ ds) i = go (same_item same d e) i (put_keys k e ds)
    where
      go : (b : Bool) → In k (map item_key (cond b (record { label = d.label; weight = R.plus d.weight e.weight; to = d.to } ∷ ds) (d ∷ put_item R same e ds))) → (In k (map item_key (put_item R same e ds)) → (k ≡ item_key e) ⊎ In k (map item_key ds)) → (k ≡ item_key e) ⊎ In k (map item_key (d ∷ ds))
      go true j r = inr j
      go false (inl q) r = inr (inl q)
      go false (inr j) r = elim (r j) [ inl q ↦ inl q | inr l ↦ inr (inr l) ]

  put_once : (e : Item V T) (ds : List (Item V T)) → NoRepeat (map item_key ds) → NoRepeat (map item_key (put_item R same e ds))
  put_once e [] n = ((λ i. i), tt)
  put_once e (d ∷ ds) n = go (same_item same d e) refl (put_once e ds n.1)
    where
      go : (b : Bool) → same_item same d e ≡ b → NoRepeat (map item_key (put_item R same e ds)) → NoRepeat (map item_key (cond b (record { label = d.label; weight = R.plus d.weight e.weight; to = d.to } ∷ ds) (d ∷ put_item R same e ds)))
      go true p m = n
      go false p m = ((λ i. elim (put_keys (item_key d) e ds i) [ inl q ↦ false≢true (sym p ∙ same_item_is d e q) | inr j ↦ n.0 j ]), m)

  grouped_once : (ds es : List (Item V T)) → NoRepeat (map item_key ds) → NoRepeat (map item_key (grouped_items R same ds es))
  grouped_once ds [] n = n
  grouped_once ds (e ∷ es) n = grouped_once (put_item R same e ds) es (put_once e ds n)

  filter_keys : (k : Word × T) (p : Item V T → Bool) (xs : List (Item V T)) → In k (map item_key (filter p xs)) → In k (map item_key xs)
  filter_keys k p xs i =
      let r = In-map_from item_key k (filter p xs) i in
      subst (λ z. In z (map item_key xs)) (sym r.2) (In-map item_key r.0 xs (In-filter_from p r.0 xs r.1).0)

  filter_once : (p : Item V T → Bool) (xs : List (Item V T)) → NoRepeat (map item_key xs) → NoRepeat (map item_key (filter p xs))
  filter_once p [] n = tt
  filter_once p (x ∷ xs) n = go (p x) (filter_once p xs n.1)
    where
      go : (b : Bool) → NoRepeat (map item_key (filter p xs)) → NoRepeat (map item_key (cond b (x ∷ filter p xs) (filter p xs)))
      go true m = ((λ i. n.0 (filter_keys (item_key x) p xs i)), m)
      go false m = m

  collected_weight : (equal : V → V → Bool) → IsEqualityTest equal → (xs : List (Item V T)) (e : Item V T) → In e (collected_items R equal same xs) → e.weight ≢ R.zero
  collected_weight equal Z xs e i q = go (equal e.weight R.zero) ((Z e.weight R.zero).1 q) refl (In-filter_from (λ d. not (equal d.weight R.zero)) e (grouped_items R same [] xs) i).1
    where
      go : (b : Bool) → equal e.weight R.zero ≡ true → equal e.weight R.zero ≡ b → not (equal e.weight R.zero) ≡ true → ⊥
      go b p r s = false≢true (ap not (sym p) ∙ s)

  pub collected_neat_items : (equal : V → V → Bool) → IsEqualityTest equal → (xs : List (Item V T)) → AreNeat R (collected_items R equal same xs)
  collected_neat_items equal Z xs = record { once = filter_once (λ e. not (equal e.weight R.zero)) (grouped_items R same [] xs) (grouped_once [] xs tt); weight = collected_weight equal Z xs }
