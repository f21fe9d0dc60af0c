-- The steps by which what rows bring is made and added up are those of the formula, and too many triples of it are too many named ones.
use Rattle.std.proofs.Common.{◌≡◌, ◌≢◌, ℕ, ◌<◌, List, [], ◌∷◌, ◌++◌, Bool, true, false, not, ◌&&◌, cond, eqb, length, map, refl, sym, ap, ap₂, ◌∙◌, inl, inr, ◌⊎◌, subst, arith, None, Some, Option}
use Rattle.std.specs.Prelude.{◌↔◌}
use Rattle.std.specs.Global.{Vec}
use Rattle.std.specs.List.{filter, flat_map}
use Rattle.std.proofs.lemmas.Bool.{eq-eqb, false≢true}
use Rattle.std.proofs.lemmas.List.{length-map, map-append}
use Rattle.vc_aut.specs.Additions.{addition_to, additions}
use Rattle.vc_aut.specs.Order.{AreInOrder}
use Rattle.vc_aut.specs.Sums.{insert_all, insert_transition, standing}
use Rattle.vc_closure.specs.Brought.{AreTotalSteps, IsProductOf, entry_brought, row_brought, rows_brought}
use Rattle.vc_closure.specs.Closing.{closure}
use Rattle.vc_closure.specs.Formula.{HasManyTriples, IsBroughtStep, IsNamed}
use Rattle.vc_closure.specs.Rows.{AreRows, AreRowsOf, entries_at, row_at}
use Rattle.vc_closure.specs.Searches.{moves_from}
use Rattle.vc_closure.specs.declared.rows.Entry.{Entry}
use Rattle.vc_closure.proofs.Bringing.{moves_weight, share}
use Rattle.vc_closure.proofs.Closings.{less}
use Rattle.vc_closure.proofs.LastMatrix.{NoRepeat-map_filter}
use Rattle.vc_closure.proofs.EntrySteps.{row_lesser, row_there}
use Rattle.vc_closure.proofs.TripleOrder.{ordered_once}
use Rattle.vc_closure.proofs.Walks.{moves_member}
use Rattle.vc_model.specs.Automata.{Automaton, IsAutomaton, Transition, final_weight, triple}
use Rattle.vc_model.specs.Choices.{off}
use Rattle.vc_model.specs.Gathered.{same_triple, weight_at}
use Rattle.vc_model.specs.GatheredLaws.{member_weight, triple_tells}
use Rattle.vc_model.specs.Lists.{In, IsIncreasing, NoRepeat, below}
use Rattle.vc_model.specs.Members.{In-append_cases, In-append_left, In-filter_from, In-flat_map_from, In-map, In-map_from, In-middle, NoRepeat-middle, NoRepeat-up_from, head_same, place_of, tail_same}
use Rattle.vc_model.specs.Rearranged.{zero_plus}
use Rattle.vc_model.specs.SumLaws.{sum-append, sum-flat_map, sum_same, sum_zero}
use Rattle.vc_model.specs.Sums.{sum_over}
use Rattle.vc_model.specs.WeightSet.{WeightSet, SemiringLaws}
use Rattle.vc_model.specs.WordLaws.{is_empty-size, same_word-true, size-is_empty}
use Rattle.vc_model.specs.Words.{Word, is_empty, same_word, size}
use Rattle.vc_ring.specs.declared.faults.Overflow.{Overflow}
use Rattle.vc_ring.specs.declared.faults.Overflow.TheVariants.{Add, Mul}

append_split : {X : Type 0} (xs ys before after : List X) (x : X) → xs ++ ys ≡ before ++ x ∷ after → ((rest : List X) × (xs ≡ before ++ x ∷ rest)) ⊎ ((rest : List X) × (before ≡ xs ++ rest) × (ys ≡ rest ++ x ∷ after))
append_split [] ys before after x e = inr (before, refl, e)
append_split (z ∷ xs) ys [] after x e = inl (xs, ap (λ w. w ∷ xs) (head_same z x (xs ++ ys) after e))
append_split (z ∷ xs) ys (b ∷ before) after x e =
    let h : z ≡ b = head_same z b (xs ++ ys) (before ++ x ∷ after) e in
    elim (append_split xs ys before after x (tail_same z b (xs ++ ys) (before ++ x ∷ after) e)) [
      | inl r ↦ inl (r.0, ap₂ (λ w ws. w ∷ ws) h r.1)
      | inr r ↦ inr (r.0, ap₂ (λ w ws. w ∷ ws) (sym h) r.1, r.2)
    ]

not_empty : {X : Type 0} (before after : List X) (x : X) → [] ≡ before ++ x ∷ after → ⊥
not_empty [] after x e = cc
not_empty (b ∷ before) after x e = cc

append_three : {X : Type 0} (us bs cs : List X) → us ++ (bs ++ cs) ≡ (us ++ bs) ++ cs
append_three [] bs cs = refl
append_three (x ∷ us) bs cs = ap (λ zs. x ∷ zs) (append_three us bs cs)

-- where a member of joined pieces stands: in the piece of an item, behind the pieces of those before it
pub record PiecePlace {X Y : Type 0} (f : X → List Y) (xs : List X) (before : List Y) (y : Y) : Type 0 where
  pub front : List X
  pub item : X
  pub back : List X
  pub is : xs ≡ front ++ item ∷ back
  pub inner : List Y
  pub outer : List Y
  pub has : f item ≡ inner ++ y ∷ outer
  pub all : before ≡ flat_map f front ++ inner

piece_place : {X Y : Type 0} (f : X → List Y) (xs : List X) (before after : List Y) (y : Y) → flat_map f xs ≡ before ++ y ∷ after → PiecePlace f xs before y
piece_place f [] before after y e = absurd (not_empty before after y e)
piece_place f (x ∷ xs) before after y e = elim (append_split (f x) (flat_map f xs) before after y e) [
  | inl r ↦ record { front = []; item = x; back = xs; is = refl; inner = before; outer = r.0; has = r.1; all = refl }
  | inr r ↦
      let p = piece_place f xs r.0 after y r.2 in
      record { front = x ∷ p.front; item = p.item; back = p.back; is = ap (λ zs. x ∷ zs) p.is; inner = p.inner; outer = p.outer; has = p.has; all = r.1 ∙ ap (λ zs. f x ++ zs) p.all ∙ append_three (f x) (flat_map f p.front) p.inner }
]

pub record ImagePlace {X Y : Type 0} (f : X → Y) (xs : List X) (before : List Y) (y : Y) : Type 0 where
  pub front : List X
  pub item : X
  pub back : List X
  pub is : xs ≡ front ++ item ∷ back
  pub image : f item ≡ y
  pub all : before ≡ map f front

image_place : {X Y : Type 0} (f : X → Y) (xs : List X) (before after : List Y) (y : Y) → map f xs ≡ before ++ y ∷ after → ImagePlace f xs before y
image_place f [] before after y e = absurd (not_empty before after y e)
image_place f (x ∷ xs) [] after y e = record { front = []; item = x; back = xs; is = refl; image = head_same (f x) y (map f xs) after e; all = refl }
image_place f (x ∷ xs) (b ∷ before) after y e =
    let p = image_place f xs before after y (tail_same (f x) b (map f xs) (before ++ y ∷ after) e) in
    record { front = x ∷ p.front; item = p.item; back = p.back; is = ap (λ zs. x ∷ zs) p.is; image = p.image; all = ap₂ (λ w ws. w ∷ ws) (sym (head_same (f x) b (map f xs) (before ++ y ∷ after) e)) p.all }

-- where an addition is made: what stands there is the weight before it
pub record AdditionPlace {V : Type 0} (R : WeightSet V) (ts raw : List (Transition V)) (o : Overflow V) : Type 0 where
  pub before : List (Transition V)
  pub item : Transition V
  pub after : List (Transition V)
  pub is : raw ≡ before ++ item ∷ after
  pub stood : V
  pub stands : standing (insert_all R ts before) item ≡ Some stood
  pub adds : o ≡ Add stood item.weight

addition_place : {V : Type 0} (R : WeightSet V) (ts raw : List (Transition V)) (o : Overflow V) → In o (additions R ts raw) → AdditionPlace R ts raw o
addition_place R ts [] o i = absurd i
addition_place {V} R ts (t ∷ raw) o i = elim (In-append_cases o (addition_to (standing ts t) t.weight) (additions R (insert_transition R ts t) raw) i) [
  | inl j ↦ go (standing ts t) refl j
  | inr k ↦
      let p = addition_place R (insert_transition R ts t) raw o k in
      record { before = t ∷ p.before; item = p.item; after = p.after; is = ap (λ zs. t ∷ zs) p.is; stood = p.stood; stands = p.stands; adds = p.adds }
]
  where
    go : (s : Option V) → standing ts t ≡ s → In o (addition_to s t.weight) → AdditionPlace R ts (t ∷ raw) o
    go None e j = absurd j
    go (Some v) e (inl q) = record { before = []; item = t; after = raw; is = refl; stood = v; stands = e; adds = q }
    go (Some v) e (inr j) = absurd j

abbrev full_of : {V : Type 0} → Transition V → Bool
full_of t = not (is_empty t.label)

abbrev part_of : {V : Type 0} → WeightSet V → ℕ → V → Transition V → Transition V
part_of R i w t = record { from = i; label = t.label; to = t.to; weight = R.times w t.weight }

not_true : (b : Bool) → not b ≡ true → b ≡ false
not_true true e = absurd (false≢true e)
not_true false e = refl

module _ {V : Type 0} {R : WeightSet V} (L : SemiringLaws R) (tapes : ℕ) (A : Automaton V) (G : IsAutomaton R tapes A) where
  abbrev T : ℕ → Word → ℕ → V
  T j v t = weight_at R A.transitions (j, v, t)

  -- the weight of a transition by its triple
  weight_is : (s : ℕ) (u : Transition V) → In u (moves_from A s) → u.weight ≡ T s u.label u.to
  weight_is s u i = let m = moves_member A s u i in sym (member_weight L A.transitions G.triples u m.0) ∙ ap (λ k. T k u.label u.to) m.1

  spoken : (u : Transition V) → is_empty u.label ≡ false → size u.label ≢ 0
  spoken u e z = false≢true (sym e ∙ is_empty-size u.label z)

  -- what the transitions of a state have at a triple whose label is not empty
  share_is : (i s : ℕ) (v : Word) (t : ℕ) → size v ≢ 0 → share L A (i, v, t) i s ≡ T s v t
  share_is i s v t n = sum_same L _ _ A.transitions (λ u m. go u (eqb u.from s) (is_empty u.label) refl)
    where
      go : (u : Transition V) (b c : Bool) → is_empty u.label ≡ c → cond (b && not c) (cond (eqb i i && (same_word u.label v && eqb u.to t)) u.weight R.zero) R.zero ≡ cond (b && (same_word u.label v && eqb u.to t)) u.weight R.zero
      go u true false e = ap (λ x. cond (x && (same_word u.label v && eqb u.to t)) u.weight R.zero) (eq-eqb i i refl)
      go u true true e = other (same_word u.label v) refl
        where
          other : (x : Bool) → same_word u.label v ≡ x → R.zero ≡ cond (x && eqb u.to t) u.weight R.zero
          other true q = absurd (n (ap size (sym (same_word-true u.label v q)) ∙ size-is_empty u.label e))
          other false q = refl
      go u false c e = refl

  elsewhere : (d : ℕ × Word × ℕ) (ts : List (Transition V)) → ((r : Transition V) → In r ts → triple r ≢ d) → weight_at R ts d ≡ R.zero
  elsewhere d ts n = sum_zero L _ ts (λ r i. off R.zero (same_triple (triple r) d) r.weight (λ e. n r i (triple_tells (triple r) d e)))

module _ {S V : Type 0} {R : WeightSet V} (L : SemiringLaws R) (tapes : ℕ) (A : Automaton V) (G : IsAutomaton R tapes A) (rows : List (Vec (Entry S V))) (h : AreRows R A.states rows) (are : AreRowsOf R A (closure R A) rows) where
  column : (i : ℕ) (before after : List (Entry S V)) (e : Entry S V) → entries_at rows i ≡ before ++ e ∷ after → e.state < A.states
  column i before after e q = (h.each i).inside e (subst (λ (xs : List (Entry S V)). In e xs) (sym q) (In-middle e before after))

  -- an entry of a row is that of the closure
  entry_is : (i : ℕ) → i < A.states → (before after : List (Entry S V)) (e : Entry S V) → entries_at rows i ≡ before ++ e ∷ after → e.weight ≡ closure R A i e.state
  entry_is i l before after e q =
      sym (ap (λ (xs : List (Entry S V)). row_at R xs e.state) q ∙ row_there L before after e (subst (λ (xs : List (Entry S V)). IsIncreasing (map (λ (x : Entry S V). x.state) xs)) q (h.each i).order))
      ∙ are i e.state l (column i before after e q)

  -- what stands before an entry
  lesser_is : (i : ℕ) → i < A.states → (before after : List (Entry S V)) (e : Entry S V) (g : ℕ → V) → entries_at rows i ≡ before ++ e ∷ after
      → sum_over R (λ (x : Entry S V). R.times x.weight (g x.state)) before ≡ R.plus R.zero (sum_over R (λ k. R.times (closure R A i k) (g k)) (below e.state))
  lesser_is i l before after e g q =
      let c : e.state < A.states = column i before after e q in
      row_lesser L before after e g (subst (λ (xs : List (Entry S V)). IsIncreasing (map (λ (x : Entry S V). x.state) xs)) q (h.each i).order)
      ∙ sum_same L _ _ (below e.state) (λ k m. let z : k < e.state = less k e.state m in ap (λ x. R.times x (g k)) (ap (λ (xs : List (Entry S V)). row_at R xs k) (sym q) ∙ are i k l (omega arith)))
      ∙ sym (zero_plus L _)

  pub total_step : (o : Overflow V) → AreTotalSteps R A rows o → IsBroughtStep R A o
  total_step o s =
      let i = s.0 in
      let m = s.2 in
      let e = m.entry in
      inl (
        i,
        s.1,
        (
          e.state,
          column i m.before m.after e m.is,
          elim m.step [
            | inl q ↦ inl (q ∙ ap (λ x. Mul x (final_weight R A e.state)) (entry_is i s.1 m.before m.after e m.is))
            | inr q ↦ inr (q ∙ ap₂ Add (lesser_is i s.1 m.before m.after e (final_weight R A) m.is) (ap (λ x. R.times x (final_weight R A e.state)) (entry_is i s.1 m.before m.after e m.is)))
          ],
        ),
      )

  pub product_step : (o : Overflow V) → IsProductOf R A rows o → IsBroughtStep R A o
  product_step o s =
      let i = s.0 in
      let e = s.2.0 in
      let p = place_of e (entries_at rows i) s.2.1 in
      let u = s.2.2.0 in
      inr (i, u.label, u.to, s.1, spoken L tapes A G u s.2.2.2, (e.state, column i p.before p.after e p.is, inl (s.2.2.3 ∙ ap₂ Mul (entry_is i s.1 p.before p.after e p.is) (weight_is L tapes A G e.state u s.2.2.1))))

  record Source (t : Transition V) (before : List (Transition V)) : Type 0 where
    from : ℕ
    from_state : from < A.states
    front : List (Entry S V)
    entry : Entry S V
    back : List (Entry S V)
    row : entries_at rows from ≡ front ++ entry ∷ back
    move_ : Transition V
    member : In move_ (moves_from A entry.state)
    full : is_empty move_.label ≡ false
    image : record { from = from; label = move_.label; to = move_.to; weight = R.times entry.weight move_.weight } ≡ t
    stood : weight_at R before (from, move_.label, move_.to) ≡ sum_over R (λ (x : Entry S V). R.times x.weight (T L tapes A G x.state move_.label move_.to)) front

  from_row : (i : ℕ) (r : Transition V) → In r (row_brought R A i (entries_at rows i)) → r.from ≡ i
  from_row i r m =
      let f = In-flat_map_from (entry_brought R A i) r (entries_at rows i) m in
      let g = In-map_from (part_of R i f.0.weight) r (filter full_of (moves_from A f.0.state)) f.2 in
      ap (λ (x : Transition V). x.from) g.2

  source : (before after : List (Transition V)) (t : Transition V) → rows_brought R A rows A.states ≡ before ++ t ∷ after → Source t before
  source before after t e =
      let p = piece_place (λ i. row_brought R A i (entries_at rows i)) (below A.states) before after t e in
      let i = p.item in
      let q = piece_place (entry_brought R A i) (entries_at rows i) p.inner p.outer t p.has in
      let x = q.item in
      let k = image_place (part_of R i x.weight) (filter full_of (moves_from A x.state)) q.inner q.outer t q.has in
      let u = k.item in
      let m = In-filter_from full_of u (moves_from A x.state) (subst (λ (ts : List (Transition V)). In u ts) (sym k.is) (In-middle u k.front k.back)) in
      let d : ℕ × Word × ℕ = (i, u.label, u.to) in
      let full : is_empty u.label ≡ false = not_true (is_empty u.label) m.1 in
      let alone = NoRepeat-middle i p.front p.back (subst (λ xs. NoRepeat xs) p.is (NoRepeat-up_from 0 A.states)) in
      let others : weight_at R (flat_map (λ j. row_brought R A j (entries_at rows j)) p.front) d ≡ R.zero =
      elsewhere L tapes A G d (flat_map (λ j. row_brought R A j (entries_at rows j)) p.front) (λ r j y.
      let f = In-flat_map_from (λ j. row_brought R A j (entries_at rows j)) r p.front j in
      let z : f.0 ≡ i = sym (from_row f.0 r f.2) ∙ ap (λ (w : ℕ × Word × ℕ). w.0) y in
      alone.0 (In-append_left i p.front p.back (subst (λ w. In w p.front) z f.1))) in
      let once : NoRepeat (map triple (moves_from A x.state)) = NoRepeat-map_filter triple (λ (w : Transition V). eqb w.from x.state) A.transitions G.triples in
      let single : NoRepeat (map triple k.front ++ triple u ∷ map triple k.back) =
      subst (λ xs. NoRepeat xs) (ap (map triple) k.is ∙ map-append triple k.front (u ∷ k.back)) (NoRepeat-map_filter triple full_of (moves_from A x.state) once) in
      let same : weight_at R q.inner d ≡ R.zero =
      elsewhere L tapes A G d q.inner (λ r j y.
      let f = In-map_from (part_of R i x.weight) r k.front (subst (λ (xs : List (Transition V)). In r xs) k.all j) in
      let y' : (i, f.0.label, f.0.to) ≡ d = ap (λ (w : Transition V). triple w) (sym f.2) ∙ y in
      let in_moves : In f.0 (moves_from A x.state) = (In-filter_from full_of f.0 (moves_from A x.state) (subst (λ (ts : List (Transition V)). In f.0 ts) (sym k.is) (In-append_left f.0 k.front (u ∷ k.back) f.1))).0 in
      let from_same : f.0.from ≡ u.from = (moves_member A x.state f.0 in_moves).1 ∙ sym (moves_member A x.state u m.0).1 in
      let z : triple f.0 ≡ triple u = ap₂ (λ (a : ℕ) (w : ℕ × Word × ℕ). (a, w.1, w.2)) from_same y' in
      (NoRepeat-middle (triple u) (map triple k.front) (map triple k.back) single).0 (In-append_left (triple u) (map triple k.front) (map triple k.back) (subst (λ w. In w (map triple k.front)) z (In-map triple f.0 k.front f.1)))) in
      record {
        from = i;
        from_state = less i A.states (subst (λ xs. In i xs) (sym p.is) (In-middle i p.front p.back));
        front = q.front;
        entry = x;
        back = q.back;
        row = q.is;
        move_ = u;
        member = m.0;
        full = full;
        image = k.image;
        stood = ap (λ (xs : List (Transition V)). weight_at R xs d) p.all
            ∙ sum-append L _ (flat_map (λ j. row_brought R A j (entries_at rows j)) p.front) p.inner
            ∙ ap₂ R.plus others (ap (λ (xs : List (Transition V)). weight_at R xs d) q.all ∙ sum-append L _ (flat_map (entry_brought R A i) q.front) q.inner)
            ∙ zero_plus L _
            ∙ ap₂ R.plus
            (sum-flat_map L _ (entry_brought R A i) q.front
            ∙ sum_same L _ _ q.front (λ w j. moves_weight L A d i w.state w.weight ∙ ap (R.times w.weight) (share_is L tapes A G i w.state u.label u.to (spoken L tapes A G u full))))
            same
            ∙ L.plus_zero _;
      }

  module _ (standing_law : (ts : List (Transition V)) (t : Transition V) (w : V) → AreInOrder ts → (standing ts t ≡ Some w) ↔ In (record t { weight = w }) ts)
      (weight_law : (added : List (Transition V)) (d : ℕ × Word × ℕ) → weight_at R (insert_all R [] added) d ≡ weight_at R added d) (order_law : (added : List (Transition V)) → AreInOrder (insert_all R [] added)) where
    stood_is : (before : List (Transition V)) (t : Transition V) (v : V) → standing (insert_all R [] before) t ≡ Some v → v ≡ weight_at R before (triple t)
    stood_is before t v e =
        let o = order_law before in
        sym (member_weight L (insert_all R [] before) (ordered_once (insert_all R [] before) o) (record t { weight = v }) ((standing_law (insert_all R [] before) t v o).0 e)) ∙ weight_law before (triple t)

    pub addition_step : (o : Overflow V) → In o (additions R [] (rows_brought R A rows A.states)) → IsBroughtStep R A o
    addition_step o j =
        let a = addition_place R [] (rows_brought R A rows A.states) o j in
        let s = source a.before a.after a.item a.is in
        let e = s.entry in
        let u = s.move_ in
        let d : triple a.item ≡ (s.from, u.label, u.to) = ap (λ (x : Transition V). triple x) (sym s.image) in
        let v : a.stood ≡ R.plus R.zero (sum_over R (λ k. R.times (closure R A s.from k) (T L tapes A G k u.label u.to)) (below e.state)) =
        stood_is a.before a.item a.stood a.stands ∙ ap (weight_at R a.before) d ∙ s.stood ∙ lesser_is s.from s.from_state s.front s.back e (λ k. T L tapes A G k u.label u.to) s.row in
        let w : a.item.weight ≡ R.times (closure R A s.from e.state) (T L tapes A G e.state u.label u.to) =
        ap (λ (x : Transition V). x.weight) (sym s.image) ∙ ap₂ R.times (entry_is s.from s.from_state s.front s.back e s.row) (weight_is L tapes A G e.state u s.member) in
        inr (s.from, u.label, u.to, s.from_state, spoken L tapes A G u s.full, (e.state, column s.from s.front s.back e s.row, inr (a.adds ∙ ap₂ Add v w)))

    module _ (triples_law : (ts : List (Transition V)) (t : Transition V) (d : ℕ × Word × ℕ) → In d (map triple (insert_transition R ts t)) ↔ ((d ≡ triple t) ⊎ In d (map triple ts))) where
      inserted_from : (ts added : List (Transition V)) (d : ℕ × Word × ℕ) → In d (map triple (insert_all R ts added)) → In d (map triple ts) ⊎ In d (map triple added)
      inserted_from ts [] d i = inl i
      inserted_from ts (t ∷ added) d i = elim (inserted_from (insert_transition R ts t) added d i) [
        | inl j ↦ elim ((triples_law ts t d).0 j) [ inl e ↦ inr (inl e) | inr k ↦ inl k ]
        | inr j ↦ inr (inr j)
      ]

      named : (d : ℕ × Word × ℕ) → In d (map triple (rows_brought R A rows A.states)) → IsNamed R A d
      named d i =
          let r = In-map_from triple d (rows_brought R A rows A.states) i in
          let p = place_of r.0 (rows_brought R A rows A.states) r.1 in
          let s = source p.before p.after r.0 p.is in
          let e = s.entry in
          let u = s.move_ in
          let q : (s.from, u.label, u.to) ≡ d = ap (λ (x : Transition V). triple x) s.image ∙ sym r.2 in
          let x : In e (entries_at rows s.from) = subst (λ (xs : List (Entry S V)). In e xs) (sym s.row) (In-middle e s.front s.back) in
          subst (λ z. IsNamed R A z) q (
            s.from_state,
            spoken L tapes A G u s.full,
            e.state,
            column s.from s.front s.back e s.row,
            (λ z. (h.each s.from).weight e x (entry_is s.from s.from_state s.front s.back e s.row ∙ z)),
            (λ z. G.weight u (moves_member A e.state u s.member).0 (weight_is L tapes A G e.state u s.member ∙ z)),
          )

      pub many_triples : 4000000 < length (insert_all R [] (rows_brought R A rows A.states)) → HasManyTriples R A
      many_triples l = (
        map triple (insert_all R [] (rows_brought R A rows A.states)),
        ordered_once (insert_all R [] (rows_brought R A rows A.states)) (order_law (rows_brought R A rows A.states)),
        (λ d i. elim (inserted_from [] (rows_brought R A rows A.states) d i) [ inl j ↦ absurd j | inr j ↦ named d j ]),
        subst (λ n. 4000000 < n) (sym (length-map (insert_all R [] (rows_brought R A rows A.states)) triple)) l,
      )
