-- Sums over transitions to places, and what is true of each of them.
use Rattle.std.proofs.Common.{◌≡◌, ℕ, List, [], ◌∷◌, ◌++◌, map, cond, Bool, true, false, refl, sym, ap, ◌∙◌, ap₂, inl, inr, subst}
use Rattle.std.specs.List.{filter}
use Rattle.vc_model.specs.WeightSet.{WeightSet, SemiringLaws}
use Rattle.vc_model.specs.Lists.{In}
use Rattle.vc_model.specs.Words.{Word, same_word}
use Rattle.vc_model.specs.WordLaws.{and_parts, same_word-true}
use Rattle.vc_model.specs.Rearranged.{plus_times}
use Rattle.vc_model.specs.SumLaws.{sum_same, sum-map, sum-flat_map}
use Rattle.vc_model.specs.Members.{In-filter_from}
use Rattle.vc_model.specs.Items.{Item, taken}
use Rattle.vc_terms.specs.ItemLists.{mapped, scaled_items, met_items, same_item, put_item, grouped_items}
use Rattle.vc_standard.specs.Structures.{Moves, Position, same_place, copied}
use Rattle.vc_standard.specs.Within.{Are, AreAll}
use Rattle.std.proofs.lemmas.Bool.{eqb-true}

module _ {V : Type 0} where
  pub are-in : (K : Word → ℕ → Type 0) (xs : Moves V) → Are K xs → (e : Item V ℕ) → In e xs → K e.label e.to
  are-in K [] h e i = absurd i
  are-in K (x ∷ xs) h e (inl q) = subst (λ z. K z.label z.to) (sym q) h.0
  are-in K (x ∷ xs) h e (inr i) = are-in K xs h.1 e i

  pub are-weaker : (K J : Word → ℕ → Type 0) → ((a : Word) (i : ℕ) → K a i → J a i) → (xs : Moves V) → Are K xs → Are J xs
  are-weaker K J f [] h = tt
  are-weaker K J f (x ∷ xs) h = (f x.label x.to h.0, are-weaker K J f xs h.1)

  pub all-weaker : (K J : Word → ℕ → Type 0) → ((a : Word) (i : ℕ) → K a i → J a i) → (ps : List (Position V)) → AreAll K ps → AreAll J ps
  all-weaker K J f [] h = tt
  all-weaker K J f (p ∷ ps) h = (are-weaker K J f p.moves h.0, all-weaker K J f ps h.1)

  pub are-append : (K : Word → ℕ → Type 0) (xs ys : Moves V) → Are K xs → Are K ys → Are K (xs ++ ys)
  are-append K [] ys h g = g
  are-append K (x ∷ xs) ys h g = (h.0, are-append K xs ys h.1 g)

  pub all-append : (K : Word → ℕ → Type 0) (ps qs : List (Position V)) → AreAll K ps → AreAll K qs → AreAll K (ps ++ qs)
  all-append K [] qs h g = g
  all-append K (p ∷ ps) qs h g = (h.0, all-append K ps qs h.1 g)

  pub all-map : (K J : Word → ℕ → Type 0) (f : Position V → Position V) → ((p : Position V) → Are K p.moves → Are J (f p).moves) → (ps : List (Position V)) → AreAll K ps → AreAll J (map f ps)
  all-map K J f h [] g = tt
  all-map K J f h (p ∷ ps) g = (h p g.0, all-map K J f h ps g.1)

  pub are-mapped : (K J : Word → ℕ → Type 0) (f : ℕ → ℕ) → ((a : Word) (i : ℕ) → K a i → J a (f i)) → (xs : Moves V) → Are K xs → Are J (mapped f xs)
  are-mapped K J f g [] h = tt
  are-mapped K J f g (x ∷ xs) h = (g x.label x.to h.0, are-mapped K J f g xs h.1)

  pub are-put : (R : WeightSet V) (K : Word → ℕ → Type 0) (e : Item V ℕ) (ds : Moves V) → K e.label e.to → Are K ds → Are K (put_item R same_place e ds)
  are-put R K e [] k h = (k, tt)
  are-put R K e (d ∷ ds) k h = go (same_item same_place d e) (are-put R K e ds k h.1)
    where
      go : (b : Bool) → Are K (put_item R same_place e ds) → Are K (cond b (record { label = d.label; weight = R.plus d.weight e.weight; to = d.to } ∷ ds) (d ∷ put_item R same_place e ds))
      go true r = (h.0, h.1)
      go false r = (h.0, r)

  pub are-grouped : (R : WeightSet V) (K : Word → ℕ → Type 0) (ds es : Moves V) → Are K ds → Are K es → Are K (grouped_items R same_place ds es)
  are-grouped R K ds [] h g = h
  are-grouped R K ds (e ∷ es) h g = are-grouped R K (put_item R same_place e ds) es (are-put R K e ds g.0 h) g.1

  pub are-scaled : (R : WeightSet V) (K : Word → ℕ → Type 0) (k : V) (xs : Moves V) → Are K xs → Are K (scaled_items R k xs)
  are-scaled R K k [] h = tt
  are-scaled R K k (x ∷ xs) h = (h.0, are-scaled R K k xs h.1)

  pub are-copied : (R : WeightSet V) (equal : V → V → Bool) (K : Word → ℕ → Type 0) (k : V) (xs : Moves V) → Are K xs → Are K (copied R equal k xs)
  are-copied R equal K k xs h = go (equal k R.zero)
    where
      go : (b : Bool) → Are K (cond b [] (scaled_items R k xs))
      go true = tt
      go false = are-scaled R K k xs h

  are-partners : (R : WeightSet V) (K J N : Word → ℕ → Type 0) (f : ℕ → ℕ → ℕ) → ((a b : Word) (i j : ℕ) → K a i → J b j → N a (f i j)) → (e : Item V ℕ) → K e.label e.to → (ys : Moves V) → Are J ys
      → Are N (map (λ d. record { label = e.label; weight = R.times e.weight d.weight; to = f e.to d.to }) (filter (λ d. same_word e.label d.label) ys))
  are-partners R K J N f n e k [] g = tt
  are-partners R K J N f n e k (y ∷ ys) g = go (same_word e.label y.label) (are-partners R K J N f n e k ys g.1)
    where
      go : (b : Bool) → Are N (map (λ d. record { label = e.label; weight = R.times e.weight d.weight; to = f e.to d.to }) (filter (λ d. same_word e.label d.label) ys))
          → Are N (map (λ d. record { label = e.label; weight = R.times e.weight d.weight; to = f e.to d.to }) (cond b (y ∷ filter (λ d. same_word e.label d.label) ys) (filter (λ d. same_word e.label d.label) ys)))
      go true r = (n e.label y.label e.to y.to k g.0, r)
      go false r = r

  pub are-met : (R : WeightSet V) (K J N : Word → ℕ → Type 0) (f : ℕ → ℕ → ℕ) → ((a b : Word) (i j : ℕ) → K a i → J b j → N a (f i j)) → (xs ys : Moves V) → Are K xs → Are J ys → Are N (met_items R f xs ys)
  are-met R K J N f n [] ys h g = tt
  are-met R K J N f n (x ∷ xs) ys h g =
      are-append N (map (λ d. record { label = x.label; weight = R.times x.weight d.weight; to = f x.to d.to }) (filter (λ d. same_word x.label d.label) ys)) (met_items R f xs ys)
      (are-partners R K J N f n x h.0 ys g) (are-met R K J N f n xs ys h.1 g)

module _ {V : Type 0} {R : WeightSet V} (L : SemiringLaws R) where
  same_item-true : (d e : Item V ℕ) → same_item same_place d e ≡ true → (d.label ≡ e.label) × (d.to ≡ e.to)
  same_item-true d e p = let r = and_parts (same_word d.label e.label) (same_place d.to e.to) p in (same_word-true d.label e.label r.0, eqb-true d.to e.to r.1)

  taken-put : (h : Word → ℕ → V) (e : Item V ℕ) (ds : Moves V) → taken R h (put_item R same_place e ds) ≡ R.plus (taken R h ds) (R.times e.weight (h e.label e.to))
  taken-put h e [] = L.plus_comm _ _
  taken-put h e (d ∷ ds) = go (same_item same_place d e) refl (taken-put h e ds)
    where
      go : (b : Bool) → same_item same_place d e ≡ b → taken R h (put_item R same_place e ds) ≡ R.plus (taken R h ds) (R.times e.weight (h e.label e.to))
          → taken R h (cond b (record { label = d.label; weight = R.plus d.weight e.weight; to = d.to } ∷ ds) (d ∷ put_item R same_place e ds)) ≡ R.plus (R.plus (R.times d.weight (h d.label d.to)) (taken R h ds)) (R.times e.weight (h e.label e.to))
      go true p r =
          let q = same_item-true d e p in
          ap (λ x. R.plus x (taken R h ds)) (plus_times L d.weight e.weight (h d.label d.to) ∙ ap (R.plus (R.times d.weight (h d.label d.to))) (ap₂ (λ a K. R.times e.weight (h a K)) q.0 q.1))
          ∙ L.plus_assoc _ _ _ ∙ ap (R.plus (R.times d.weight (h d.label d.to))) (L.plus_comm _ _) ∙ sym (L.plus_assoc _ _ _)
      go false p r = ap (R.plus (R.times d.weight (h d.label d.to))) r ∙ sym (L.plus_assoc _ _ _)

  -- items that are added to others bring what they bring
  pub taken-grouped : (h : Word → ℕ → V) (ds es : Moves V) → taken R h (grouped_items R same_place ds es) ≡ R.plus (taken R h ds) (taken R h es)
  taken-grouped h ds [] = sym (L.plus_zero _)
  taken-grouped h ds (e ∷ es) = taken-grouped h (put_item R same_place e ds) es ∙ ap (λ x. R.plus x (taken R h es)) (taken-put h e ds) ∙ L.plus_assoc _ _ _

  -- values that agree at each item bring the same
  pub taken-same : (h g : Word → ℕ → V) (xs : Moves V) → ((e : Item V ℕ) → In e xs → h e.label e.to ≡ g e.label e.to) → taken R h xs ≡ taken R g xs
  taken-same h g xs r = sum_same L _ _ xs (λ e i. ap (R.times e.weight) (r e i))

  -- the same for two that meet, also where they lead elsewhere
  pub taken-met : (f g : ℕ → ℕ → ℕ) (h k : Word → ℕ → V) (xs ys : Moves V) → ((e d : Item V ℕ) → In e xs → In d ys → h e.label (f e.to d.to) ≡ k e.label (g e.to d.to))
      → taken R h (met_items R f xs ys) ≡ taken R k (met_items R g xs ys)
  taken-met f g h k xs ys r =
      sum-flat_map L _ (λ e. map (λ d. record { label = e.label; weight = R.times e.weight d.weight; to = f e.to d.to }) (filter (λ d. same_word e.label d.label) ys)) xs
      ∙ sum_same L _ _ xs (λ e i.
      sum-map L _ (λ d. record { label = e.label; weight = R.times e.weight d.weight; to = f e.to d.to }) (filter (λ d. same_word e.label d.label) ys)
      ∙ sum_same L _ _ (filter (λ d. same_word e.label d.label) ys) (λ d j. ap (R.times (R.times e.weight d.weight)) (r e d i (In-filter_from (λ d. same_word e.label d.label) d ys j).0))
      ∙ sym (sum-map L (λ x. R.times x.weight (k x.label x.to)) (λ d. record { label = e.label; weight = R.times e.weight d.weight; to = g e.to d.to }) (filter (λ d. same_word e.label d.label) ys)))
      ∙ sym (sum-flat_map L (λ x. R.times x.weight (k x.label x.to)) (λ e. map (λ d. record { label = e.label; weight = R.times e.weight d.weight; to = g e.to d.to }) (filter (λ d. same_word e.label d.label) ys)) xs)
