-- Nodes and their trees.
use Rattle.std.proofs.Common.{◌≡◌, ℕ, zero, suc, ◌<◌, ◌+◌, add-zero, arith, List, [], ◌∷◌, ◌++◌, length, length-append, map, Some, refl, sym, ap, ap₂, ◌∙◌, subst, inl, inr}
use Rattle.std.specs.List.{slice_get}
use Rattle.std.proofs.Math.ListN.{get_or-append}
use Rattle.std.proofs.Math.Seq.{get_or-append_seam}
use Rattle.vc_model.specs.Lists.{In, NoRepeat}
use Rattle.vc_model.specs.Words.{Word}
use Rattle.vc_terms.specs.Terms.{Term, Terms, MoreTerms, terms_of, Zero, Atom, Sum, Product, Star, Weight, Both, Shuffle}
use Rattle.vc_terms.specs.Forms.{Everywhere, EverywhereIn}
use Rattle.vc_expr.specs.Rows.{Row, ZeroRow, OneRow, AtomRow, SumRow, ProductRow, StarRow, WeightRow, BothRow, ShuffleRow, tree_at, tree_of_row, trees_after, trees, AreBelow, HasPartsBelow}
use Rattle.vc_expr.specs.Facts.{AreEarlier}

all_below : (i n : ℕ) (is : List ℕ) → i < n → AreBelow i is → AreBelow n is
all_below i n [] l h = tt
all_below i n (j ∷ is) l h = (omega (arith, h.0, l), all_below i n is l h.1)

after_none : {V : Type 0} (ts : List (Term V)) → trees_after ts [] ≡ ts
unfolding trees_after
after_none ts = refl

-- no node, no tree
pub none : {V : Type 0} → trees {V = V} [] ≡ []
unfolding trees
none {V} = after_none {V = V} []

module _ {V : Type 0} where
  after_push : (ts : List (Term V)) (rs : List (Row V)) (r : Row V) → trees_after ts (rs ++ r ∷ []) ≡ trees_after ts rs ++ tree_of_row (trees_after ts rs) r ∷ []
  unfolding trees_after
  after_push ts [] r = refl
  after_push ts (q ∷ rs) r = after_push (ts ++ tree_of_row ts q ∷ []) rs r

  after_length : (ts : List (Term V)) (rs : List (Row V)) → length (trees_after ts rs) ≡ length ts + length rs
  unfolding trees_after
  after_length ts [] = omega arith
  after_length ts (q ∷ rs) = omega (arith, after_length (ts ++ tree_of_row ts q ∷ []) rs, length-append ts (tree_of_row ts q ∷ []))

  pub trees_push : (rs : List (Row V)) (r : Row V) → trees (rs ++ r ∷ []) ≡ trees rs ++ tree_of_row (trees rs) r ∷ []
  unfolding trees
  trees_push rs r = after_push [] rs r

  pub trees_length : (rs : List (Row V)) → length (trees rs) ≡ length rs
  unfolding trees
  trees_length rs = omega (arith, after_length [] rs)

  -- a node has one tree among more trees
  agree_all : (n : ℕ) (ts us : List (Term V)) (is : List ℕ) → AreBelow n is → ((j : ℕ) → j < n → tree_at us j ≡ tree_at ts j) → map (tree_at us) is ≡ map (tree_at ts) is
  agree_all n ts us [] p h = refl
  agree_all n ts us (i ∷ is) p h = ap₂ (λ t rest. t ∷ rest) (h i p.0) (agree_all n ts us is p.1 h)

  pub agree : (n : ℕ) (ts us : List (Term V)) (r : Row V) → HasPartsBelow n r → ((j : ℕ) → j < n → tree_at us j ≡ tree_at ts j) → tree_of_row us r ≡ tree_of_row ts r
  agree n ts us ZeroRow p h = refl
  agree n ts us OneRow p h = refl
  agree n ts us (AtomRow a) p h = refl
  agree n ts us (SumRow is) p h = ap (λ xs. Sum (terms_of xs)) (agree_all n ts us is p h)
  agree n ts us (ProductRow is) p h = ap (λ xs. Product (terms_of xs)) (agree_all n ts us is p h)
  agree n ts us (StarRow i) p h = ap Star (h i p)
  agree n ts us (WeightRow k i) p h = ap (Weight k) (h i p)
  agree n ts us (BothRow i j) p h = ap₂ Both (h i p.0) (h j p.1)
  agree n ts us (ShuffleRow i j) p h = ap₂ Shuffle (h i p.0) (h j p.1)

  pub more_below : (i n : ℕ) (r : Row V) → i < n → HasPartsBelow i r → HasPartsBelow n r
  more_below i n ZeroRow l h = tt
  more_below i n OneRow l h = tt
  more_below i n (AtomRow a) l h = tt
  more_below i n (SumRow is) l h = all_below i n is l h
  more_below i n (ProductRow is) l h = all_below i n is l h
  more_below i n (StarRow j) l h = omega (arith, h, l)
  more_below i n (WeightRow k j) l h = omega (arith, h, l)
  more_below i n (BothRow j k) l h = (omega (arith, h.0, l), omega (arith, h.1, l))
  more_below i n (ShuffleRow j k) l h = (omega (arith, h.0, l), omega (arith, h.1, l))

  kept_after : (ts : List (Term V)) (rs : List (Row V)) (j : ℕ) → j < length ts → tree_at (trees_after ts rs) j ≡ tree_at ts j
  unfolding trees_after
  kept_after ts [] j h = refl
  kept_after ts (r ∷ rs) j h =
      kept_after (ts ++ tree_of_row ts r ∷ []) rs j (omega (arith, length-append ts (tree_of_row ts r ∷ []), h)) ∙ get_or-append ts (tree_of_row ts r ∷ []) Zero j h

  row_after : (ts : List (Term V)) (rs : List (Row V)) (n i : ℕ) (r : Row V) → n ≡ length ts → AreEarlier n rs → slice_get rs i ≡ Some r
      → (tree_at (trees_after ts rs) (n + i) ≡ tree_of_row (trees_after ts rs) r) × HasPartsBelow (n + i) r
  unfolding trees_after
  row_after ts [] n i r e h s = absurd (cc)
  row_after ts (q ∷ rs) n zero r e h s =
      let t : Term V = tree_of_row ts q in
      let is : q ≡ r = cc in
      let len : length (ts ++ t ∷ []) ≡ length ts + 1 = length-append ts (t ∷ []) in
      let left : tree_at (trees_after (ts ++ t ∷ []) rs) (length ts) ≡ t =
      kept_after (ts ++ t ∷ []) rs (length ts) (omega (arith, len)) ∙ get_or-append_seam ts t [] Zero in
      let right : tree_of_row (trees_after (ts ++ t ∷ []) rs) q ≡ t =
      agree n ts (trees_after (ts ++ t ∷ []) rs) q h.0
      (λ j p. kept_after (ts ++ t ∷ []) rs j (omega (arith, len, p, e)) ∙ get_or-append ts (t ∷ []) Zero j (omega (arith, p, e))) in
      let all : (tree_at (trees_after (ts ++ t ∷ []) rs) n ≡ tree_of_row (trees_after (ts ++ t ∷ []) rs) q) × HasPartsBelow n q =
      (ap (tree_at (trees_after (ts ++ t ∷ []) rs)) e ∙ left ∙ sym right, h.0) in
      rw add-zero (subst (λ x. (tree_at (trees_after (ts ++ t ∷ []) rs) n ≡ tree_of_row (trees_after (ts ++ t ∷ []) rs) x) × HasPartsBelow n x) is all)
  row_after ts (q ∷ rs) n (suc i) r e h s =
      let t : Term V = tree_of_row ts q in
      let len : n + 1 ≡ length (ts ++ t ∷ []) = omega (arith, e, length-append ts (t ∷ [])) in
      let at : n + suc i ≡ (n + 1) + i = omega arith in
      rw at (row_after (ts ++ t ∷ []) rs (n + 1) i r len h.1 s)

  -- the tree of a place is that of its node, whose parts are earlier
  pub row_tree : (rs : List (Row V)) (i : ℕ) (r : Row V) → AreEarlier 0 rs → slice_get rs i ≡ Some r → (tree_at (trees rs) i ≡ tree_of_row (trees rs) r) × HasPartsBelow i r
  unfolding trees
  row_tree rs i r h s =
      let z : 0 + i ≡ i = omega arith in
      let f : (tree_at (trees_after [] rs) (0 + i) ≡ tree_of_row (trees_after [] rs) r) × HasPartsBelow (0 + i) r = row_after [] rs 0 i r refl h s in
      rw z at f

  pub earlier_push : (n : ℕ) (rs : List (Row V)) (r : Row V) → AreEarlier n rs → HasPartsBelow (n + length rs) r → AreEarlier n (rs ++ r ∷ [])
  earlier_push n [] r h p = (rw add-zero at p, tt)
  earlier_push n (q ∷ rs) r h p =
      let e : n + suc (length rs) ≡ (n + 1) + length rs = omega arith in
      (h.0, earlier_push (n + 1) rs r h.1 (rw e at p))

  -- what is true everywhere of the parts, and of the root
  everywhere_all : (P : Term V → Type 0) (n : ℕ) (ts : List (Term V)) (is : List ℕ) → AreBelow n is → ((j : ℕ) → j < n → Everywhere P (tree_at ts j)) → EverywhereIn P (terms_of (map (tree_at ts) is))
  everywhere_all P n ts [] p h = tt
  everywhere_all P n ts (i ∷ is) p h = (h i p.0, everywhere_all P n ts is p.1 h)

  pub everywhere_row : (P : Term V → Type 0) (n : ℕ) (ts : List (Term V)) (r : Row V) → HasPartsBelow n r → ((j : ℕ) → j < n → Everywhere P (tree_at ts j)) → P (tree_of_row ts r) → Everywhere P (tree_of_row ts r)
  everywhere_row P n ts ZeroRow p h q = q
  everywhere_row P n ts OneRow p h q = q
  everywhere_row P n ts (AtomRow a) p h q = q
  everywhere_row P n ts (SumRow is) p h q = (q, everywhere_all P n ts is p h)
  everywhere_row P n ts (ProductRow is) p h q = (q, everywhere_all P n ts is p h)
  everywhere_row P n ts (StarRow i) p h q = (q, h i p)
  everywhere_row P n ts (WeightRow k i) p h q = (q, h i p)
  everywhere_row P n ts (BothRow i j) p h q = (q, h i p.0, h j p.1)
  everywhere_row P n ts (ShuffleRow i j) p h q = (q, h i p.0, h j p.1)

  pub everywhere_at : (P : Term V → Type 0) (ts : List (Term V)) (i : ℕ) → EverywhereIn P (terms_of ts) → i < length ts → Everywhere P (tree_at ts i)
  everywhere_at P [] i h l = absurd (omega arith)
  everywhere_at P (t ∷ ts) zero h l = h.0
  everywhere_at P (t ∷ ts) (suc i) h l = everywhere_at P ts i h.1 (omega arith)

  pub everywhere_push : (P : Term V → Type 0) (ts : List (Term V)) (t : Term V) → EverywhereIn P (terms_of ts) → Everywhere P t → EverywhereIn P (terms_of (ts ++ t ∷ []))
  everywhere_push P [] t h k = (k, tt)
  everywhere_push P (u ∷ ts) t h k = (h.0, everywhere_push P ts t h.1 k)

  -- where no tree stands twice, equal trees stand at one place
  pub In-at : (ts : List (Term V)) (i : ℕ) → i < length ts → In (tree_at ts i) ts
  In-at [] i l = absurd (omega arith)
  In-at (t ∷ ts) zero l = inl refl
  In-at (t ∷ ts) (suc i) l = inr (In-at ts i (omega arith))

  pub one_place : (ts : List (Term V)) (i j : ℕ) → NoRepeat ts → i < length ts → j < length ts → tree_at ts i ≡ tree_at ts j → i ≡ j
  one_place [] i j n l m e = absurd (omega arith)
  one_place (t ∷ ts) zero zero n l m e = refl
  one_place (t ∷ ts) zero (suc j) n l m e = absurd (n.0 (subst (λ u. In u ts) (sym e) (In-at ts j (omega arith))))
  one_place (t ∷ ts) (suc i) zero n l m e = absurd (n.0 (subst (λ u. In u ts) e (In-at ts i (omega arith))))
  one_place (t ∷ ts) (suc i) (suc j) n l m e = ap suc (one_place ts i j n.1 (omega arith) (omega arith) e)

  first_term : (t u : Term V) (ts us : Terms V) → ◌≡◌ {A = Terms V} (MoreTerms t ts) (MoreTerms u us) → (t ≡ u) × (ts ≡ us)
  first_term t u ts us e = (cc, cc)

  -- nodes of one tree are equal, where no tree stands twice
  places_alike : (ts : List (Term V)) (n : ℕ) (is js : List ℕ) → ((i j : ℕ) → i < n → j < n → tree_at ts i ≡ tree_at ts j → i ≡ j) → AreBelow n is → AreBelow n js
      → terms_of (map (tree_at ts) is) ≡ terms_of (map (tree_at ts) js) → is ≡ js
  places_alike ts n [] [] u h k e = refl
  places_alike ts n [] (j ∷ js) u h k e = absurd (cc)
  places_alike ts n (i ∷ is) [] u h k e = absurd (cc)
  places_alike ts n (i ∷ is) (j ∷ js) u h k e =
      let r = first_term (tree_at ts i) (tree_at ts j) (terms_of (map (tree_at ts) is)) (terms_of (map (tree_at ts) js)) e in
      ap₂ (λ x xs. x ∷ xs) (u i j h.0 k.0 r.0) (places_alike ts n is js u h.1 k.1 r.1)

  atom_word : (a b : Word) → ◌≡◌ {A = Term V} (Atom a) (Atom b) → a ≡ b
  atom_word a b e = cc

  sum_terms : (a b : Terms V) → Sum a ≡ Sum b → a ≡ b
  sum_terms a b e = cc

  product_terms : (a b : Terms V) → Product a ≡ Product b → a ≡ b
  product_terms a b e = cc

  star_term : (a b : Term V) → Star a ≡ Star b → a ≡ b
  star_term a b e = cc

  weight_terms : (k h : V) (a b : Term V) → Weight k a ≡ Weight h b → (k ≡ h) × (a ≡ b)
  weight_terms k h a b e = (cc, cc)

  both_terms : (k h a b : Term V) → Both k a ≡ Both h b → (k ≡ h) × (a ≡ b)
  both_terms k h a b e = (cc, cc)

  shuffle_terms : (k h a b : Term V) → Shuffle k a ≡ Shuffle h b → (k ≡ h) × (a ≡ b)
  shuffle_terms k h a b e = (cc, cc)

  pub rows_alike : (ts : List (Term V)) (n : ℕ) (r q : Row V) → ((i j : ℕ) → i < n → j < n → tree_at ts i ≡ tree_at ts j → i ≡ j) → HasPartsBelow n r → HasPartsBelow n q
      → tree_of_row ts r ≡ tree_of_row ts q → r ≡ q
  rows_alike ts n ZeroRow ZeroRow u h k e = refl
  rows_alike ts n OneRow OneRow u h k e = refl
  rows_alike ts n (AtomRow a) (AtomRow b) u h k e = ap AtomRow (atom_word a b e)
  rows_alike ts n (SumRow a) (SumRow b) u h k e = ap SumRow (places_alike ts n a b u h k (sum_terms _ _ e))
  rows_alike ts n (ProductRow a) (ProductRow b) u h k e = ap ProductRow (places_alike ts n a b u h k (product_terms _ _ e))
  rows_alike ts n (StarRow a) (StarRow b) u h k e = ap StarRow (u a b h k (star_term _ _ e))
  rows_alike ts n (WeightRow c a) (WeightRow d b) u h k e = let r = weight_terms c d (tree_at ts a) (tree_at ts b) e in ap₂ WeightRow r.0 (u a b h k r.1)
  rows_alike ts n (BothRow c a) (BothRow d b) u h k e = let r = both_terms (tree_at ts c) (tree_at ts d) (tree_at ts a) (tree_at ts b) e in ap₂ BothRow (u c d h.0 k.0 r.0) (u a b h.1 k.1 r.1)
  rows_alike ts n (ShuffleRow c a) (ShuffleRow d b) u h k e = let r = shuffle_terms (tree_at ts c) (tree_at ts d) (tree_at ts a) (tree_at ts b) e in ap₂ ShuffleRow (u c d h.0 k.0 r.0) (u a b h.1 k.1 r.1)
  rows_alike ts n r q u h k e = absurd (cc)
