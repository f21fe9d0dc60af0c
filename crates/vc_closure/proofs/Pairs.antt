-- Entries other than zero are at pairs of states that empty labels join, and too many entries are too many pairs.
use Rattle.std.proofs.Common.{◌≡◌, ◌≢◌, ℕ, ◌<◌, ◌≤◌, ◌+◌, List, [], ◌∷◌, ◌++◌, Bool, true, false, not, cond, eqb, length, map, filter, set, refl, sym, ap, ap₂, ◌∙◌, inl, inr, subst, arith, zero, suc}
use Rattle.std.specs.Global.{Vec}
use Rattle.std.specs.List.{flat_map}
use Rattle.std.proofs.lemmas.Bool.{eqb-true, eq-eqb, false≢true}
use Rattle.std.proofs.lemmas.List.{length-append, length-map}
use Rattle.vc_closure.specs.Closing.{matrix, next_entry, silent_weight, unit_entry}
use Rattle.vc_closure.specs.Formula.{HasManyPairs, IsJoined, IsPair}
use Rattle.vc_closure.specs.Rows.{AreJoined, IsRow, entries_at, row_at}
use Rattle.vc_closure.specs.declared.rows.Entry.{Entry}
use Rattle.vc_closure.proofs.Closings.{less, silent}
use Rattle.vc_closure.proofs.EntrySteps.{row_there}
use Rattle.vc_closure.proofs.RowSums.{entries_at-other, entries_at-same}
use Rattle.vc_model.specs.Automata.{Automaton, IsAutomaton, Transition, path_label}
use Rattle.vc_model.specs.Lists.{In, IsEqualityTest, IsIncreasing, NoRepeat, below}
use Rattle.vc_model.specs.Members.{In-filter_from, In-flat_map_from, In-map_from, NoRepeat-filter, NoRepeat-flat_map, NoRepeat-map, place_of, up_from-more}
use Rattle.vc_model.specs.PathLaws.{length-path_label}
use Rattle.vc_model.specs.Pigeons.{no_more_than}
use Rattle.vc_model.specs.Rearranged.{zero_plus}
use Rattle.vc_model.specs.Sums.{sum_over}
use Rattle.vc_model.specs.WeightSet.{WeightSet, SemiringLaws}
use Rattle.vc_model.specs.WordLaws.{size-empty_word, size-is_empty, size-join}
use Rattle.vc_model.specs.Words.{is_empty, join, size}

-- a sum that is not zero has a member that is not
pub some_member : {X V : Type 0} {R : WeightSet V} → SemiringLaws R → (same : V → V → Bool) → IsEqualityTest same → (f : X → V) (xs : List X) → sum_over R f xs ≢ R.zero → (x : X) × In x xs × (f x ≢ R.zero)
some_member L same test f [] h = absurd (h refl)
some_member {X} {V} {R} L same test f (x ∷ xs) h = go (some_member L same test f xs) (same (f x) R.zero) refl
  where
    go : (sum_over R f xs ≢ R.zero → (y : X) × In y xs × (f y ≢ R.zero)) → (b : Bool) → same (f x) R.zero ≡ b → (y : X) × In y (x ∷ xs) × (f y ≢ R.zero)
    go ih true e =
        let z : f x ≡ R.zero = (test (f x) R.zero).0 e in
        let r = ih (λ s. h (ap₂ R.plus z s ∙ L.plus_zero R.zero)) in
        (r.0, inr r.1, r.2)
    go ih false e = (x, inl refl, λ z. false≢true (sym e ∙ (test (f x) R.zero).1 z))

module _ {V : Type 0} {R : WeightSet V} (L : SemiringLaws R) (same : V → V → Bool) (test : IsEqualityTest same) (tapes : ℕ) (A : Automaton V) (G : IsAutomaton R tapes A) where
  here : (i t : ℕ) → eqb t i ≡ true → IsJoined tapes A i t
  here i t e = ([], tt, sym (eqb-true t i e), size-empty_word tapes)

  unit_joined : AreJoined R tapes A (unit_entry R)
  unit_joined i t l m n = go (eqb t i) refl n
    where
      go : (b : Bool) → eqb t i ≡ b → cond b R.one R.zero ≢ R.zero → IsJoined tapes A i t
      go true e h = here i t e
      go false e h = absurd (h refl)

  pub next_joined : (K : ℕ → ℕ → V) → AreJoined R tapes A K → AreJoined R tapes A (next_entry R A K)
  next_joined K h i t l m n = go (eqb t i) refl n
    where
      on_move : (u : Transition V) → In u A.transitions → (b : Bool) → eqb u.from i ≡ b → (c : Bool) → is_empty u.label ≡ c → cond b (cond c (R.times u.weight (K u.to t)) R.zero) R.zero ≢ R.zero → IsJoined tapes A i t
      on_move u k true e true c x =
          let r = h u.to t (G.to u k) m (λ z. x (ap (R.times u.weight) z ∙ L.times_zero u.weight)) in
          let s : size (join u.label (path_label tapes r.0)) ≡ size u.label + size (path_label tapes r.0) = size-join u.label (path_label tapes r.0) (G.label u k ∙ sym (length-path_label A tapes G.label u.to r.0 r.1)) in
          let z : size u.label ≡ 0 = size-is_empty u.label c in
          let y : size (path_label tapes r.0) ≡ 0 = r.3 in
          (u ∷ r.0, (k, eqb-true u.from i e, r.1), r.2, omega arith)
      on_move u k true e false c x = absurd (x refl)
      on_move u k false e c d x = absurd (x refl)

      go : (b : Bool) → eqb t i ≡ b → R.plus (cond b R.one R.zero) (sum_over R (λ j. R.times (silent_weight R A i j) (K j t)) (below A.states)) ≢ R.zero → IsJoined tapes A i t
      go true e x = here i t e
      go false e x =
          let r = some_member L same test (λ (u : Transition V). cond (eqb u.from i) (cond (is_empty u.label) (R.times u.weight (K u.to t)) R.zero) R.zero) A.transitions (λ z. x (zero_plus L _ ∙ silent L A G.to i (λ j. K j t) ∙ z)) in
          on_move r.0 r.1 (eqb r.0.from i) refl (is_empty r.0.label) refl r.2

  pub matrix_joined : (m : ℕ) → AreJoined R tapes A (matrix R A m)
  matrix_joined zero = unit_joined
  matrix_joined (suc m) = next_joined (matrix R A m) (matrix_joined m)

-- how many entries the rows of the states have
abbrev pub count_of : {S V : Type 0} → List (Vec (Entry S V)) → List ℕ → ℕ
count_of rows [] = 0
count_of rows (p ∷ ps) = length (entries_at rows p) + count_of rows ps

increasing_once : (xs : List ℕ) → IsIncreasing xs → NoRepeat xs
increasing_once [] h = tt
increasing_once (x ∷ xs) h = ((λ i. let l : x < x = h.0 x i in absurd (omega arith)), increasing_once xs h.1)

all_others : (p : ℕ) (xs : List ℕ) → (¬ In p xs) → filter (λ q. not (eqb q p)) xs ≡ xs
all_others p [] n = refl
all_others p (x ∷ xs) n = go (all_others p xs (λ i. n (inr i))) (eqb x p) refl
  where
    go : filter (λ q. not (eqb q p)) xs ≡ xs → (b : Bool) → eqb x p ≡ b → cond (not b) (x ∷ filter (λ q. not (eqb q p)) xs) (filter (λ q. not (eqb q p)) xs) ≡ x ∷ xs
    go ih true e = absurd (n (inl (sym (eqb-true x p e))))
    go ih false e = ap (λ ys. x ∷ ys) ih

-- at most one of them is p
but_one : (p : ℕ) (xs : List ℕ) → NoRepeat xs → length xs ≤ length (filter (λ q. not (eqb q p)) xs) + 1
but_one p [] n = omega arith
but_one p (x ∷ xs) n = go (but_one p xs n.1) (eqb x p) refl
  where
    go : length xs ≤ length (filter (λ q. not (eqb q p)) xs) + 1 → (b : Bool) → eqb x p ≡ b → suc (length xs) ≤ length (cond (not b) (x ∷ filter (λ q. not (eqb q p)) xs) (filter (λ q. not (eqb q p)) xs)) + 1
    go ih true e = let k : length (filter (λ q. not (eqb q p)) xs) ≡ length xs = ap (λ ys. length ys) (all_others p xs (λ i. n.0 (subst (λ y. In y xs) (sym (eqb-true x p e)) i))) in omega arith
    go ih false e = omega arith

module _ {S V : Type 0} (R : WeightSet V) (tapes : ℕ) (A : Automaton V) (rows : List (Vec (Entry S V))) where
  abbrev states_at : ℕ → List ℕ
  states_at p = map (λ (e : Entry S V). e.state) (entries_at rows p)

  abbrev pairs_at : ℕ → List (ℕ × ℕ)
  pairs_at p = map (λ q. (p, q)) (filter (λ q. not (eqb q p)) (states_at p))

  enough : (ps : List ℕ) → ((p : ℕ) → IsRow R A.states (entries_at rows p)) → count_of rows ps ≤ length (flat_map pairs_at ps) + length ps
  enough [] h = omega arith
  enough (p ∷ ps) h =
      let a : count_of rows ps ≤ length (flat_map pairs_at ps) + length ps = enough ps h in
      let b : length (states_at p) ≤ length (filter (λ q. not (eqb q p)) (states_at p)) + 1 = but_one p (states_at p) (increasing_once (states_at p) (h p).order) in
      let c : length (states_at p) ≡ length (entries_at rows p) = length-map (entries_at rows p) (λ (e : Entry S V). e.state) in
      let d : length (pairs_at p) ≡ length (filter (λ q. not (eqb q p)) (states_at p)) = length-map (filter (λ q. not (eqb q p)) (states_at p)) (λ q. (p, q)) in
      let e : length (pairs_at p ++ flat_map pairs_at ps) ≡ length (pairs_at p) + length (flat_map pairs_at ps) = length-append (pairs_at p) (flat_map pairs_at ps) in
      omega arith

  -- rows of a matrix whose entries are joined, with too many entries
  pub many_pairs : SemiringLaws R → (K : ℕ → ℕ → V) → AreJoined R tapes A K → (ps : List ℕ) → NoRepeat ps → ((p : ℕ) → In p ps → p < A.states) → ((p : ℕ) → IsRow R A.states (entries_at rows p))
      → ((p q : ℕ) → In p ps → q < A.states → row_at R (entries_at rows p) q ≡ K p q) → 4000000 + A.states < count_of rows ps → HasManyPairs tapes A
  many_pairs L K joined ps once inside each are many =
      let a : count_of rows ps ≤ length (flat_map pairs_at ps) + length ps = enough ps each in
      let b : length ps ≤ A.states = no_more_than A.states ps once inside in
      (flat_map pairs_at ps, different, (λ d i. pair d i), omega arith)
    where
      different : NoRepeat (flat_map pairs_at ps)
      different = NoRepeat-flat_map pairs_at ps once
          (λ p i. NoRepeat-map (λ q. (p, q)) (filter (λ q. not (eqb q p)) (states_at p)) (λ x y j k e. ap (λ (z : ℕ × ℕ). z.1) e) (NoRepeat-filter (λ q. not (eqb q p)) (states_at p) (increasing_once (states_at p) (each p).order)))
          (λ p r d i j k l.
          let m = In-map_from (λ q. (p, q)) d (filter (λ q. not (eqb q p)) (states_at p)) k in
          let n = In-map_from (λ q. (r, q)) d (filter (λ q. not (eqb q r)) (states_at r)) l in
          ap (λ (z : ℕ × ℕ). z.0) (sym m.2 ∙ n.2))

      entry : (row : List (Entry S V)) (e : Entry S V) → In e row → IsIncreasing (map (λ (x : Entry S V). x.state) row) → row_at R row e.state ≡ e.weight
      entry row e i h =
          let p = place_of e row i in
          ap (λ (xs : List (Entry S V)). row_at R xs e.state) p.is ∙ row_there L p.before p.after e (subst (λ (xs : List (Entry S V)). IsIncreasing (map (λ (x : Entry S V). x.state) xs)) p.is h)

      other : (q p : ℕ) → not (eqb q p) ≡ true → p ≢ q
      other q p h e = false≢true (sym (ap not (eq-eqb q p (sym e))) ∙ h)

      pair : (d : ℕ × ℕ) → In d (flat_map pairs_at ps) → IsPair tapes A d
      pair d i =
          let f = In-flat_map_from pairs_at d ps i in
          let m = In-map_from (λ q. (f.0, q)) d (filter (λ q. not (eqb q f.0)) (states_at f.0)) f.2 in
          let k = In-filter_from (λ q. not (eqb q f.0)) m.0 (states_at f.0) m.1 in
          let x = In-map_from (λ (e : Entry S V). e.state) m.0 (entries_at rows f.0) k.0 in
          let e = x.0 in
          let l : f.0 < A.states = inside f.0 f.1 in
          let n : e.state < A.states = (each f.0).inside e x.1 in
          let w : K f.0 e.state ≢ R.zero = λ z. (each f.0).weight e x.1 (sym (entry (entries_at rows f.0) e x.1 (each f.0).order) ∙ are f.0 e.state f.1 n ∙ z) in
          let q : (f.0, e.state) ≡ d = ap (λ y. (f.0, y)) (sym x.2) ∙ sym m.2 in
          subst (λ (z : ℕ × ℕ). IsPair tapes A z) q (l, n, other e.state f.0 (subst (λ y. not (eqb y f.0) ≡ true) x.2 k.1), joined f.0 e.state l n w)

-- a row that is put at a place that was not counted
pub count_set : {S V : Type 0} (rows : List (Vec (Entry S V))) (s : ℕ) (v : Vec (Entry S V)) (ps : List ℕ) → s < length rows → (¬ In s ps) → count_of (set rows s v) (ps ++ s ∷ []) ≡ count_of rows ps + length v.items
count_set {S} {V} rows s v [] l n = ap (λ (xs : List (Entry S V)). length xs + 0) (entries_at-same rows s v l) ∙ omega arith
count_set {S} {V} rows s v (p ∷ ps) l n =
    let a : length (entries_at (set rows s v) p) ≡ length (entries_at rows p) = ap (λ (xs : List (Entry S V)). length xs) (entries_at-other rows s p v (λ e. n (inl (sym e)))) in
    let b : count_of (set rows s v) (ps ++ s ∷ []) ≡ count_of rows ps + length v.items = count_set rows s v ps l (λ i. n (inr i)) in
    omega arith

pub entries_at-front : {S V : Type 0} (vs ws : List (Vec (Entry S V))) (p : ℕ) → p < length vs → entries_at (vs ++ ws) p ≡ entries_at vs p
entries_at-front [] ws p l = absurd (omega arith)
entries_at-front (v ∷ vs) ws zero l = refl
entries_at-front (v ∷ vs) ws (suc p) l = entries_at-front vs ws p (omega arith)

pub entries_at-last : {S V : Type 0} (vs : List (Vec (Entry S V))) (v : Vec (Entry S V)) → entries_at (vs ++ v ∷ []) (length vs) ≡ v.items
entries_at-last [] v = refl
entries_at-last (w ∷ ws) v = entries_at-last ws v

count_same : {S V : Type 0} (vs ws : List (Vec (Entry S V))) (ps : List ℕ) → ((p : ℕ) → In p ps → p < length vs) → count_of (vs ++ ws) ps ≡ count_of vs ps
count_same vs ws [] h = refl
count_same {S} {V} vs ws (p ∷ ps) h = ap₂ (λ a b. a + b) (ap (λ (xs : List (Entry S V)). length xs) (entries_at-front vs ws p (h p (inl refl)))) (count_same vs ws ps (λ q i. h q (inr i)))

count_append : {S V : Type 0} (rows : List (Vec (Entry S V))) (ps qs : List ℕ) → count_of rows (ps ++ qs) ≡ count_of rows ps + count_of rows qs
count_append rows [] qs = omega arith
count_append rows (p ∷ ps) qs = let a : count_of rows (ps ++ qs) ≡ count_of rows ps + count_of rows qs = count_append rows ps qs in omega arith

-- a row more
pub count_push : {S V : Type 0} (vs ws : List (Vec (Entry S V))) (v : Vec (Entry S V)) (n : ℕ) → ws ≡ vs ++ v ∷ [] → length vs ≡ n → count_of ws (below (n + 1)) ≡ count_of vs (below n) + length v.items
count_push {S} {V} vs ws v n w e =
    let inside : (p : ℕ) → In p (below n) → p < length vs = λ p i. subst (λ k. p < k) (sym e) (less p n i) in
    let a : count_of (vs ++ v ∷ []) (below n) ≡ count_of vs (below n) = count_same vs (v ∷ []) (below n) inside in
    let b : length (entries_at (vs ++ v ∷ []) n) ≡ length v.items = ap (λ k. length (entries_at (vs ++ v ∷ []) k)) (sym e) ∙ ap (λ (xs : List (Entry S V)). length xs) (entries_at-last vs v) in
    ap (λ (us : List (Vec (Entry S V))). count_of us (below (n + 1))) w
    ∙ ap (count_of (vs ++ v ∷ [])) (up_from-more 0 n ∙ ap (λ k. below n ++ k ∷ []) (omega arith))
    ∙ count_append (vs ++ v ∷ []) (below n) (n ∷ []) ∙ omega arith
