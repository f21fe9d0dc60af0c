-- A pool with one node more.
use Rattle.std.proofs.Common.{◌≡◌, ℕ, zero, suc, ◌<◌, ◌+◌, ◌⊎◌, arith, Bool, true, false, not, cond, List, [], ◌∷◌, ◌++◌, length, length-append, zero-add, map, Some, refl, sym, ap, ◌∙◌, subst, inl, inr, ◌↔◌}
use Rattle.std.specs.List.{slice_get, position_or_len}
use Rattle.std.specs.Map.{keys_of}
use Rattle.indexmap.specs.IndexMap.{insert_entry}
use Rattle.std.proofs.Math.Seq.{get_or-append_seam}
use Rattle.std.proofs.lemmas.List.{append-nil, map-append, length-map}
use Rattle.std.proofs.lemmas.Bool.{false≢true}
use Rattle.vc_model.specs.WeightSet.{WeightSet}
use Rattle.vc_model.specs.Lists.{In, NoRepeat}
use Rattle.vc_model.specs.Members.{NoRepeat-append}
use Rattle.vc_model.specs.Words.{Word}
use Rattle.vc_terms.specs.Terms.{Term, Zero, terms_of}
use Rattle.vc_terms.specs.Forms.{Everywhere, EverywhereIn}
use Rattle.vc_expr.specs.Rows.{Row, tree_at, tree_of_row, trees, HasPartsBelow}
use Rattle.vc_expr.specs.Names.{Has, Grows}
use Rattle.vc_expr.specs.Nodes.{row_of}
use Rattle.vc_expr.specs.Entries.{rows_in, facts_in}
use Rattle.vc_expr.specs.Facts.{facts_of, HasRootLetters, IsStoredRoot, IsStore, IsPool, AreNodes, AreEarlier}
use Rattle.vc_expr.specs.declared.facts.Facts.{Facts}
use Rattle.vc_expr.specs.declared.stored.Stored.{Stored}
use Rattle.vc_expr.proofs.RowLaws.{trees_push, trees_length, row_tree, rows_alike, one_place, earlier_push, everywhere_row, everywhere_at, everywhere_push, more_below, none}

-- where a member of a list stands
pub In-slice : {X : Type 0} (x : X) (xs : List X) → In x xs → (i : ℕ) × (i < length xs) × (slice_get xs i ≡ Some x)
In-slice x [] h = absurd h
In-slice x (y ∷ ys) (inl e) = (0, omega arith, ap Some (sym e))
In-slice x (y ∷ ys) (inr h) = let r = In-slice x ys h in (suc r.0, omega (arith, r.1), r.2)

slice-In : {X : Type 0} (x : X) (xs : List X) (i : ℕ) → slice_get xs i ≡ Some x → In x xs
slice-In x [] i h = absurd (cc)
slice-In x (y ∷ ys) zero h = let e : y ≡ x = cc in inl (sym e)
slice-In x (y ∷ ys) (suc i) h = inr (slice-In x ys i h)

slice-within : {X : Type 0} (x : X) (xs : List X) (i : ℕ) → slice_get xs i ≡ Some x → i < length xs
slice-within x [] i h = absurd (cc)
slice-within x (y ∷ ys) zero h = omega arith
slice-within x (y ∷ ys) (suc i) h = omega (arith, slice-within x ys i h)

tree-slice : {V : Type 0} (t : Term V) (ts : List (Term V)) (i : ℕ) → slice_get ts i ≡ Some t → tree_at ts i ≡ t
tree-slice t [] i h = absurd (cc)
tree-slice t (u ∷ ts) zero h = cc
tree-slice t (u ∷ ts) (suc i) h = tree-slice t ts i h

slice-row : {X Y : Type 0} (f : X → Y) (xs : List X) (i : ℕ) (x : X) → slice_get xs i ≡ Some x → slice_get (map f xs) i ≡ Some (f x)
slice-row f [] i x h = absurd (cc)
slice-row f (y ∷ ys) zero x h = let e : y ≡ x = cc in ap (λ z. Some (f z)) e
slice-row f (y ∷ ys) (suc i) x h = slice-row f ys i x h

-- an insertion, where what stands beside a key that is found is the value already: then the entries stay, and else the pair goes last
inserted : {K X : Type 0} (eq : K → K → Bool) (k : K) (v : X) (es : List (K × X)) → ((e : K × X) → In e es → eq k e.0 ≡ true → e.1 ≡ v)
    → ((e : K × X) × (slice_get es (position_or_len (eq k) (keys_of es)) ≡ Some e) × (eq k e.0 ≡ true) × (insert_entry eq es k v ≡ es))
    ⊎ ((position_or_len (eq k) (keys_of es) ≡ length es) × (insert_entry eq es k v ≡ es ++ (k, v) ∷ []) × ((e : K × X) → In e es → eq k e.0 ≡ true → ⊥))
inserted {K} {X} eq k v [] same = inr (refl, refl, λ e i p. i)
inserted {K} {X} eq k v (e ∷ es) same = go (eq k e.0) refl (inserted eq k v es (λ d i p. same d (inr i) p))
  where
    go : (b : Bool) → eq k e.0 ≡ b
        → ((d : K × X) × (slice_get es (position_or_len (eq k) (keys_of es)) ≡ Some d) × (eq k d.0 ≡ true) × (insert_entry eq es k v ≡ es))
        ⊎ ((position_or_len (eq k) (keys_of es) ≡ length es) × (insert_entry eq es k v ≡ es ++ (k, v) ∷ []) × ((d : K × X) → In d es → eq k d.0 ≡ true → ⊥))
        → ((d : K × X) × (slice_get (e ∷ es) (position_or_len (eq k) (keys_of (e ∷ es))) ≡ Some d) × (eq k d.0 ≡ true) × (insert_entry eq (e ∷ es) k v ≡ e ∷ es))
        ⊎ ((position_or_len (eq k) (keys_of (e ∷ es)) ≡ length (e ∷ es)) × (insert_entry eq (e ∷ es) k v ≡ (e ∷ es) ++ (k, v) ∷ []) × ((d : K × X) → In d (e ∷ es) → eq k d.0 ≡ true → ⊥))
    go true q rest =
        let place : position_or_len (eq k) (keys_of (e ∷ es)) ≡ 0 = ap (λ b. cond (not b) (1 + position_or_len (eq k) (keys_of es)) 0) q in
        let set : insert_entry eq (e ∷ es) k v ≡ (e.0, v) ∷ es = ap (λ b. cond b ((e.0, v) ∷ es) (e ∷ insert_entry eq es k v)) q in
        inl (e, ap (slice_get (e ∷ es)) place, q, set ∙ ap (λ x. (e.0, x) ∷ es) (sym (same e (inl refl) q)))
    go false q rest =
        let n = position_or_len (eq k) (keys_of es) in
        let more : 1 + n ≡ suc n = omega arith in
        let place : position_or_len (eq k) (keys_of (e ∷ es)) ≡ suc n = ap (λ b. cond (not b) (1 + n) 0) q ∙ more in
        let set : insert_entry eq (e ∷ es) k v ≡ e ∷ insert_entry eq es k v = ap (λ b. cond b ((e.0, v) ∷ es) (e ∷ insert_entry eq es k v)) q in
        elim rest [
          | inl h ↦ inl (h.0, ap (slice_get (e ∷ es)) place ∙ h.1, h.2, set ∙ ap (λ ds. e ∷ ds) h.3)
          | inr h ↦ inr (place ∙ ap suc h.0, set ∙ ap (λ ds. e ∷ ds) h.1, λ d i p. elim i [ inl s ↦ false≢true (sym q ∙ ap (λ x. eq k x.0) (sym s) ∙ p) | inr j ↦ h.2 d j p ])
        ]

map-In : {X Y : Type 0} (f : X → Y) (y : Y) (xs : List X) → In y (map f xs) → (x : X) × In x xs × (y ≡ f x)
map-In f y [] h = absurd h
map-In f y (x ∷ xs) (inl e) = (x, inl refl, e)
map-In f y (x ∷ xs) (inr h) = let r = map-In f y xs h in (r.0, inr r.1, r.2)

-- with one more member that is new, still nothing stands twice
once_push : {X : Type 0} (xs : List X) (x : X) → NoRepeat xs → ¬ In x xs → NoRepeat (xs ++ x ∷ [])
once_push xs x n h = NoRepeat-append xs (x ∷ []) n ((λ i. i), tt) (λ y i j. elim j [ inl e ↦ h (subst (λ z. In z xs) e i) | inr k ↦ k ])

module _ {V : Type 0} (R : WeightSet V) (equal : V → V → Bool) where
  -- the tree of a new node is new
  new_tree : (rows : List (Row V)) (r : Row V) → AreEarlier 0 rows → NoRepeat (trees rows) → HasPartsBelow (length (trees rows)) r → ¬ In r rows → ¬ In (tree_of_row (trees rows) r) (trees rows)
  new_tree rows r h n p new i =
      let t : Term V = tree_of_row (trees rows) r in
      let at = In-slice t (trees rows) i in
      let len : length (trees rows) ≡ length rows = trees_length rows in
      let short : at.0 < length rows = omega (arith, at.1, len) in
      let node = row_there rows at.0 short in
      let is = row_tree rows at.0 node.0 h node.1 in
      let same : tree_of_row (trees rows) r ≡ tree_of_row (trees rows) node.0 = sym (tree-slice t (trees rows) at.0 at.2) ∙ is.0 in
      let alike : r ≡ node.0 = rows_alike (trees rows) (length (trees rows)) r node.0 (λ i j l m e. one_place (trees rows) i j n l m e) p (more_below at.0 (length (trees rows)) node.0 at.1 is.1) same in
      new (subst (λ x. In x rows) (sym alike) (slice-In node.0 rows at.0 node.1))
    where
      row_there : (rs : List (Row V)) (i : ℕ) → i < length rs → (q : Row V) × (slice_get rs i ≡ Some q)
      row_there [] i l = absurd (omega arith)
      row_there (q ∷ rs) zero l = (q, refl)
      row_there (q ∷ rs) (suc i) l = row_there rs i (omega arith)

  pub pool_push : (rows : List (Row V)) (facts : List (Facts V)) (r : Row V) (f : Facts V) → IsPool R equal rows facts → HasPartsBelow (length (trees rows)) r
      → f ≡ facts_of R (tree_of_row (trees rows) r) → IsStoredRoot R equal (tree_of_row (trees rows) r) → ¬ In r rows
      → IsPool R equal (rows ++ r ∷ []) (facts ++ f ∷ [])
  pool_push rows facts r f P p e root new =
      let t : Term V = tree_of_row (trees rows) r in
      let early : AreEarlier 0 (rows ++ r ∷ []) = earlier_push 0 rows r P.earlier (subst (λ n. HasPartsBelow n r) (trees_length rows ∙ sym (zero-add (length rows))) p) in
      let here : Everywhere (IsStoredRoot R equal) t = everywhere_row (IsStoredRoot R equal) (length (trees rows)) (trees rows) r p (λ j l. everywhere_at (IsStoredRoot R equal) (trees rows) j P.store.stored l) root in
      let all : IsStore R equal (trees rows ++ t ∷ []) = record {
        once = once_push (trees rows) t P.store.once (new_tree rows r P.earlier P.store.once p new);
        stored = everywhere_push (IsStoredRoot R equal) (trees rows) t P.store.stored here;
      } in
      record {
        earlier = early;
        known = ap (λ x. x ++ f ∷ []) P.known ∙ ap (λ x. map (facts_of R) (trees rows) ++ x ∷ []) e ∙ sym (map-append (facts_of R) (trees rows) (t ∷ [])) ∙ ap (map (facts_of R)) (sym (trees_push rows r));
        store = subst (IsStore R equal) (sym (trees_push rows r)) all;
      }

-- the trees with one node more
added_trees : {B V : Type 0} (parts : B → Word) (es : List (Stored B V × Facts V)) (s : List (Term V)) (x : Stored B V) (f : Facts V) → trees (rows_in parts es) ≡ s
    → trees (rows_in parts (es ++ (x, f) ∷ [])) ≡ s ++ tree_of_row s (row_of parts x) ∷ []
added_trees parts es s x f v =
    ap trees (map-append (λ d. row_of parts d.0) es ((x, f) ∷ [])) ∙ trees_push (rows_in parts es) (row_of parts x)
    ∙ ap (λ ts. ts ++ tree_of_row ts (row_of parts x) ∷ []) v

pub at_end : {V : Type 0} (s : List (Term V)) (t : Term V) (n : ℕ) → n ≡ length s → (n < length (s ++ t ∷ [])) × (tree_at (s ++ t ∷ []) n ≡ t)
at_end s t n e = (omega (arith, e, length-append s (t ∷ [])), ap (tree_at (s ++ t ∷ [])) e ∙ get_or-append_seam s t [] Zero)

pub pool_length : {B V : Type 0} (parts : B → Word) (es : List (Stored B V × Facts V)) (s : List (Term V)) → trees (rows_in parts es) ≡ s → length es ≡ length s
pool_length parts es s v = sym (length-map es (λ e. row_of parts e.0)) ∙ sym (trees_length (rows_in parts es)) ∙ ap length v

facts-slice : {V : Type 0} (R : WeightSet V) (ts : List (Term V)) (i : ℕ) (f : Facts V) → slice_get (map (facts_of R) ts) i ≡ Some f → f ≡ facts_of R (tree_at ts i)
facts-slice R [] i f h = absurd (cc)
facts-slice R (t ∷ ts) zero f h = cc
facts-slice R (t ∷ ts) (suc i) f h = facts-slice R ts i f h

module _ {B V : Type 0} (R : WeightSet V) (equal : V → V → Bool) (parts : B → Word) where
  -- what stands at a place: the node of its tree, and its facts
  pub stored_tree : (es : List (Stored B V × Facts V)) (s : List (Term V)) (k : Stored B V) (f : Facts V) (i : ℕ) → trees (rows_in parts es) ≡ s → IsPool R equal (rows_in parts es) (facts_in es)
      → slice_get es i ≡ Some (k, f) → HasPartsBelow i (row_of parts k) × (tree_at s i ≡ tree_of_row s (row_of parts k)) × (f ≡ facts_of R (tree_at s i))
  stored_tree es s k f i v P at =
      let is = row_tree (rows_in parts es) i (row_of parts k) P.earlier (slice-row (λ e. row_of parts e.0) es i (k, f) at) in
      let fact : slice_get (map (facts_of R) (trees (rows_in parts es))) i ≡ Some f = ap (λ fs. slice_get fs i) (sym P.known) ∙ slice-row (λ e. e.1) es i (k, f) at in
      let tree : tree_at (trees (rows_in parts es)) i ≡ tree_of_row (trees (rows_in parts es)) (row_of parts k) = is.0 in
      let known : f ≡ facts_of R (tree_at (trees (rows_in parts es)) i) = facts-slice R (trees (rows_in parts es)) i f fact in
      (is.1, rw v at tree, rw v at known)

  module _ (eq : Stored B V → Stored B V → Bool) (told : (a b : Stored B V) → (eq a b ≡ true) ↔ (row_of parts a ≡ row_of parts b)) where
    new_row : (es : List (Stored B V × Facts V)) (x : Stored B V) → ((e : Stored B V × Facts V) → In e es → eq x e.0 ≡ true → ⊥) → ¬ In (row_of parts x) (rows_in parts es)
    new_row es x h i =
        let r = map-In (λ e. row_of parts e.0) (row_of parts x) es i in
        h r.0 r.1 ((told x r.0.0).1 r.2)

    -- the facts that stand beside a node of the same tree
    beside : (es : List (Stored B V × Facts V)) (s : List (Term V)) (x : Stored B V) (f : Facts V) → trees (rows_in parts es) ≡ s → IsPool R equal (rows_in parts es) (facts_in es)
        → f ≡ facts_of R (tree_of_row s (row_of parts x)) → (e : Stored B V × Facts V) → In e es → eq x e.0 ≡ true → e.1 ≡ f
    beside es s x f v P k e i p =
        let at = In-slice e es i in
        let is = stored_tree es s e.0 e.1 at.0 v P at.2 in
        is.2 ∙ ap (facts_of R) (is.1 ∙ ap (tree_of_row s) (sym ((told x e.0).0 p))) ∙ sym k

    -- where the node stands, the pool stays
    found : (es new : List (Stored B V × Facts V)) (s : List (Term V)) (x : Stored B V) (e : Stored B V × Facts V) (at : ℕ) → trees (rows_in parts es) ≡ s → IsPool R equal (rows_in parts es) (facts_in es)
        → slice_get es at ≡ Some e → eq x e.0 ≡ true → new ≡ es
        → IsPool R equal (rows_in parts new) (facts_in new) × Has (trees (rows_in parts new)) (record { at = at }) × (tree_at (trees (rows_in parts new)) at ≡ tree_of_row s (row_of parts x)) × Grows s (trees (rows_in parts new))
    found es new s x e at v P is pass stays =
        let all = stored_tree es s e.0 e.1 at v P is in
        let tree : tree_at s at ≡ tree_of_row s (row_of parts x) = all.1 ∙ ap (tree_of_row s) (sym ((told x e.0).0 pass)) in
        let short : at < length s = omega (arith, slice-within e es at is, pool_length parts es s v) in
        let now : trees (rows_in parts new) ≡ s = ap (λ ds. trees (rows_in parts ds)) stays ∙ v in (
          subst (λ ds. IsPool R equal (rows_in parts ds) (facts_in ds)) (sym stays) P,
          subst (λ ts. at < length ts) (sym now) short,
          subst (λ ts. tree_at ts at ≡ tree_of_row s (row_of parts x)) (sym now) tree,
          record { more = []; is = now ∙ sym (append-nil s) },
        )

    -- where it does not, the pool has one node more
    grown : (es new : List (Stored B V × Facts V)) (s : List (Term V)) (x : Stored B V) (f : Facts V) (at : ℕ) → trees (rows_in parts es) ≡ s → IsPool R equal (rows_in parts es) (facts_in es)
        → HasPartsBelow (length s) (row_of parts x) → f ≡ facts_of R (tree_of_row s (row_of parts x)) → IsStoredRoot R equal (tree_of_row s (row_of parts x))
        → at ≡ length es → new ≡ es ++ (x, f) ∷ [] → ((e : Stored B V × Facts V) → In e es → eq x e.0 ≡ true → ⊥)
        → IsPool R equal (rows_in parts new) (facts_in new) × Has (trees (rows_in parts new)) (record { at = at }) × (tree_at (trees (rows_in parts new)) at ≡ tree_of_row s (row_of parts x)) × Grows s (trees (rows_in parts new))
    grown es new s x f at v P p k root place made none =
        let t : Term V = tree_of_row s (row_of parts x) in
        let q : IsPool R equal (rows_in parts es ++ row_of parts x ∷ []) (facts_in es ++ f ∷ []) =
        pool_push R equal (rows_in parts es) (facts_in es) (row_of parts x) f P (rw v p) (rw v k) (rw v root) (new_row es x none) in
        let pool : IsPool R equal (rows_in parts (es ++ (x, f) ∷ [])) (facts_in (es ++ (x, f) ∷ [])) = rw (map-append (λ d. row_of parts d.0) es ((x, f) ∷ []), map-append (λ d. d.1) es ((x, f) ∷ [])) q in
        let now : trees (rows_in parts new) ≡ s ++ t ∷ [] = ap (λ ds. trees (rows_in parts ds)) made ∙ added_trees parts es s x f v in
        let end = at_end s t at (place ∙ pool_length parts es s v) in (
          subst (λ ds. IsPool R equal (rows_in parts ds) (facts_in ds)) (sym made) pool,
          subst (λ ts. at < length ts) (sym now) end.0,
          subst (λ ts. tree_at ts at ≡ t) (sym now) end.1,
          record { more = t ∷ []; is = now },
        )

    -- a node that is put into a pool
    pub put_pool : (es new : List (Stored B V × Facts V)) (s : List (Term V)) (x : Stored B V) (f : Facts V) (at : ℕ) → trees (rows_in parts es) ≡ s → IsPool R equal (rows_in parts es) (facts_in es)
        → HasPartsBelow (length s) (row_of parts x) → f ≡ facts_of R (tree_of_row s (row_of parts x)) → IsStoredRoot R equal (tree_of_row s (row_of parts x))
        → at ≡ position_or_len (eq x) (keys_of es) → new ≡ insert_entry eq es x f
        → IsPool R equal (rows_in parts new) (facts_in new) × Has (trees (rows_in parts new)) (record { at = at }) × (tree_at (trees (rows_in parts new)) at ≡ tree_of_row s (row_of parts x)) × Grows s (trees (rows_in parts new))
    put_pool es new s x f at v P p k root place made =
        elim (inserted eq x f es (beside es s x f v P k)) [
          | inl h ↦ found es new s x h.0 at v P (ap (slice_get es) place ∙ h.1) h.2 (made ∙ h.3)
          | inr h ↦ grown es new s x f at v P p k root (place ∙ h.0) (made ∙ h.1) h.2
        ]

    -- what is true everywhere, and at the root of its tree, is true everywhere with it
    pub put_everywhere : (Q : Term V → Type 0) (es new : List (Stored B V × Facts V)) (s : List (Term V)) (x : Stored B V) (f : Facts V) → trees (rows_in parts es) ≡ s → IsPool R equal (rows_in parts es) (facts_in es)
        → EverywhereIn Q (terms_of (trees (rows_in parts es))) → HasPartsBelow (length s) (row_of parts x) → f ≡ facts_of R (tree_of_row s (row_of parts x)) → Q (tree_of_row s (row_of parts x))
        → new ≡ insert_entry eq es x f → EverywhereIn Q (terms_of (trees (rows_in parts new)))
    put_everywhere Q es new s x f v P E p k root made =
        let all : EverywhereIn Q (terms_of s) = subst (λ ts. EverywhereIn Q (terms_of ts)) v E in
        let here : Everywhere Q (tree_of_row s (row_of parts x)) = everywhere_row Q (length s) s (row_of parts x) p (λ j l. everywhere_at Q s j all l) root in
        let more : EverywhereIn Q (terms_of (s ++ tree_of_row s (row_of parts x) ∷ [])) = everywhere_push Q s (tree_of_row s (row_of parts x)) all here in
        elim (inserted eq x f es (beside es s x f v P k)) [
          | inl h ↦ subst (λ ds. EverywhereIn Q (terms_of (trees (rows_in parts ds)))) (sym (made ∙ h.3)) E
          | inr h ↦ subst (λ ts. EverywhereIn Q (terms_of ts)) (sym (ap (λ ds. trees (rows_in parts ds)) (made ∙ h.1) ∙ added_trees parts es s x f v)) more
        ]

    -- a node that is put into a store
    pub put_nodes : (single : Bool) (es new : List (Stored B V × Facts V)) (s : List (Term V)) (x : Stored B V) (f : Facts V) (at : ℕ) → trees (rows_in parts es) ≡ s → AreNodes R equal single (rows_in parts es) (facts_in es)
        → HasPartsBelow (length s) (row_of parts x) → f ≡ facts_of R (tree_of_row s (row_of parts x)) → IsStoredRoot R equal (tree_of_row s (row_of parts x)) → HasRootLetters single (tree_of_row s (row_of parts x))
        → at ≡ position_or_len (eq x) (keys_of es) → new ≡ insert_entry eq es x f → AreNodes R equal single (rows_in parts new) (facts_in new)
    put_nodes single es new s x f at v N p k root letters place made = record {
      pool = (put_pool es new s x f at v N.pool p k root place made).0;
      letters = put_everywhere (HasRootLetters single) es new s x f v N.pool N.letters p k letters made;
    }

  empty_store : IsStore R equal []
  empty_store = record { once = tt; stored = tt }

  empty_pool : IsPool R equal [] []
  empty_pool = record {
    earlier = tt;
    known = ap (map (facts_of R)) (sym (none {V = V}));
    store = subst (IsStore R equal) (sym (none {V = V})) empty_store;
  }

  pub no_pool : (es : List (Stored B V × Facts V)) → es ≡ [] → IsPool R equal (rows_in parts es) (facts_in es) × (trees (rows_in parts es) ≡ [])
  no_pool es e = subst (λ ds. IsPool R equal (rows_in parts ds) (facts_in ds) × (trees (rows_in parts ds) ≡ [])) (sym e)
      (empty_pool, none {V = V})

  pub no_nodes : (single : Bool) (es : List (Stored B V × Facts V)) → es ≡ [] → AreNodes R equal single (rows_in parts es) (facts_in es)
  no_nodes single es e =
      let none_there : trees (rows_in parts es) ≡ [] = (no_pool es e).1 in
      record { pool = (no_pool es e).0; letters = subst (λ ts. EverywhereIn (HasRootLetters single) (terms_of ts)) (sym none_there) tt }
