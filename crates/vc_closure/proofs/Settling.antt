-- Weights that spread along moves, and why a settled row is a row of the closure.
use Rattle.std.proofs.Common.{◌≡◌, ℕ, ◌<◌, ◌≤◌, ◌-◌, List, [], ◌∷◌, ◌++◌, Bool, true, false, cond, eqb, get_or, IsTrue, length, not, set, refl, sym, ap, ap₂, ◌∙◌, inl, inr, ◌⊎◌, subst, zero, suc, arith}
use Rattle.std.specs.Prelude.{◌↔◌}
use Rattle.std.specs.Global.{Vec}
use Rattle.std.proofs.lemmas.Bool.{eqb-true, eq-eqb, false≢true}
use Rattle.std.proofs.lemmas.List.{get_or_default, length-set}
use Rattle.vc_closure.specs.Closing.{closure, matrix, unit_entry}
use Rattle.vc_closure.specs.Rows.{AreSums, entries_at, sum_at}
use Rattle.vc_closure.specs.Searches.{moves_from}
use Rattle.vc_closure.specs.Settled.{AddsNothing, AreFrom, AreMovesOf, AreWaiting, IsSettled, TakesIn, move_of}
use Rattle.vc_closure.specs.declared.rows.Entry.{Entry}
use Rattle.vc_closure.proofs.Closings.{silent}
use Rattle.vc_closure.proofs.LastMatrix.{last_closed}
use Rattle.vc_closure.proofs.Matrices.{past_rows}
use Rattle.vc_closure.proofs.RowSums.{all_read}
use Rattle.vc_closure.proofs.Walks.{moves_member}
use Rattle.vc_model.specs.Absorption.{twice}
use Rattle.vc_model.specs.Automata.{Automaton, IsAutomaton, Transition}
use Rattle.vc_model.specs.Lists.{In}
use Rattle.vc_model.specs.Members.{In-append_cases, In-filter, In-filter_from, In-map, In-map_from}
use Rattle.vc_model.specs.Order.{below_more, below_part, below_times}
use Rattle.vc_model.specs.Rearranged.{one_times, plus_times, zero_plus, zero_times}
use Rattle.vc_model.specs.SumLaws.{sum-times}
use Rattle.vc_model.specs.Sums.{sum_over}
use Rattle.vc_model.specs.WeightSet.{Absorbs, InRange, RangeLaws, WeightSet, SemiringLaws}
use Rattle.vc_model.specs.Words.{is_empty}

module _ {V : Type 0} {R : WeightSet V} (L : SemiringLaws R) where
  -- what adds nothing to what adds nothing adds nothing
  chain : (x y z : V) → R.plus y x ≡ y → R.plus z y ≡ z → R.plus z x ≡ z
  chain x y z h k = ap (λ w. R.plus w x) (sym k) ∙ L.plus_assoc z y x ∙ ap (R.plus z) h ∙ k

  both : (x y z : V) → R.plus z x ≡ z → R.plus z y ≡ z → R.plus z (R.plus x y) ≡ z
  both x y z h k = sym (L.plus_assoc z x y) ∙ ap (λ w. R.plus w y) h ∙ k

  module _ {S : Type 0} (moves : List (Vec (Entry S V))) (s : ℕ) where
    -- one at s
    pub from_one : Absorbs R → (before after : ℕ → V) → ((q : ℕ) → before q ≡ R.zero) → ((q : ℕ) → after q ≡ R.plus (before q) (cond (eqb s q) R.one R.zero)) → AreFrom R moves s after
    from_one absorbing before after clear added x takes q = go (eqb s q) refl (added q ∙ ap (λ y. R.plus y (cond (eqb s q) R.one R.zero)) (clear q) ∙ zero_plus L (cond (eqb s q) R.one R.zero))
      where
        go : (b : Bool) → eqb s q ≡ b → after q ≡ cond b R.one R.zero → R.plus (x s) (R.times (after q) (x q)) ≡ x s
        go true e h = ap (λ y. R.plus (x s) (R.times y (x q))) h ∙ ap (R.plus (x s)) (one_times L (x q) ∙ ap x (sym (eqb-true s q e))) ∙ twice L absorbing (x s)
        go false e h = ap (λ y. R.plus (x s) (R.times y (x q))) h ∙ ap (R.plus (x s)) (zero_times L (x q)) ∙ L.plus_zero (x s)

    -- what the weight of p brings along a move
    pub from_more : (first before after : ℕ → V) (p : ℕ) (e : Entry S V) → AreFrom R moves s first → AreFrom R moves s before → In e (entries_at moves p)
        → ((q : ℕ) → after q ≡ R.plus (before q) (cond (eqb e.state q) (R.times (first p) e.weight) R.zero)) → AreFrom R moves s after
    from_more first before after p e f b i added x takes q = go (eqb e.state q) refl (added q)
      where
        brought : R.plus (x s) (R.times (R.times (first p) e.weight) (x e.state)) ≡ x s
        brought =
            chain (R.times (R.times (first p) e.weight) (x e.state)) (R.times (first p) (x p)) (x s)
            (ap (R.plus (R.times (first p) (x p))) (L.times_assoc (first p) e.weight (x e.state)) ∙ sym (L.times_plus (first p) (x p) (R.times e.weight (x e.state))) ∙ ap (R.times (first p)) (takes p e i)) (f x takes p)

        go : (c : Bool) → eqb e.state q ≡ c → after q ≡ R.plus (before q) (cond c (R.times (first p) e.weight) R.zero) → R.plus (x s) (R.times (after q) (x q)) ≡ x s
        go true h a =
            ap (λ y. R.plus (x s) (R.times y (x q))) a ∙ ap (R.plus (x s)) (plus_times L (before q) (R.times (first p) e.weight) (x q))
            ∙ both (R.times (before q) (x q)) (R.times (R.times (first p) e.weight) (x q)) (x s) (b x takes q)
            (subst (λ k. R.plus (x s) (R.times (R.times (first p) e.weight) (x k)) ≡ x s) (eqb-true e.state q h) brought)
        go false h a = ap (λ y. R.plus (x s) (R.times y (x q))) (a ∙ L.plus_zero (before q)) ∙ b x takes q

    -- what was seen at the states that were touched is so at all, and of a row with the same weights
    pub settled_all : (same : V → V → Bool) → ((a b : V) → (same a b ≡ true) ↔ (a ≡ b)) → (n : ℕ) (sums : List V) (touched : List ℕ) (row : ℕ → V) → AreSums R n sums touched → AreFrom R moves s (sum_at R sums) → sum_at R sums s ≡ R.one
        → ((p : ℕ) → In p touched → AddsNothing R (sum_at R sums) (sum_at R sums p) (entries_at moves p)) → ((t : ℕ) → row t ≡ sum_at R sums t) → IsSettled R moves s row
    settled_all same test n sums touched row h f one seen is =
        record {
          from = λ x takes q. ap (λ y. R.plus (x s) (R.times y (x q))) (is q) ∙ f x takes q;
          one = is s ∙ one;
          settled = λ p e i. ap₂ R.plus (is e.state) (ap (λ y. R.times y e.weight) (is p)) ∙ go p e i (same (sum_at R sums p) R.zero) refl ∙ sym (is e.state);
        }
      where
        go : (p : ℕ) (e : Entry S V) → In e (entries_at moves p) → (b : Bool) → same (sum_at R sums p) R.zero ≡ b → R.plus (sum_at R sums e.state) (R.times (sum_at R sums p) e.weight) ≡ sum_at R sums e.state
        go p e i true k = ap (R.plus (sum_at R sums e.state)) (ap (λ y. R.times y e.weight) ((test (sum_at R sums p) R.zero).0 k) ∙ zero_times L e.weight) ∙ L.plus_zero (sum_at R sums e.state)
        go p e i false k = seen p (h.held p (λ z. false≢true (sym k ∙ (test (sum_at R sums p) R.zero).1 z))) e i

  module _ (absorbing : Absorbs R) where
    -- a member of a sum adds nothing to it
    member_below : {X : Type 0} (f : X → V) (x : X) (xs : List X) → In x xs → R.plus (sum_over R f xs) (f x) ≡ sum_over R f xs
    member_below f x [] i = absurd i
    member_below {X} f x (y ∷ ys) (inl e) = subst (λ (z : X). R.plus (R.plus (f y) (sum_over R f ys)) (f z) ≡ R.plus (f y) (sum_over R f ys)) (sym e) (below_part L absorbing (f y) (sum_over R f ys) (R.plus (f y) (sum_over R f ys)) refl)
    member_below f x (y ∷ ys) (inr i) = below_more L absorbing (f y) (f x) (sum_over R f ys) (member_below f x ys i)

  -- a sum of what adds nothing adds nothing
  all_below : {X : Type 0} (f : X → V) (z : V) (xs : List X) → ((x : X) → In x xs → R.plus z (f x) ≡ z) → R.plus z (sum_over R f xs) ≡ z
  all_below f z [] h = L.plus_zero z
  all_below f z (x ∷ xs) h = both (f x) (sum_over R f xs) z (h x (inl refl)) (all_below f z xs (λ y i. h y (inr i)))

-- a move from p, and the empty transition that it is
pub record IsMoveOf {S V : Type 0} (A : Automaton V) (p : ℕ) (e : Entry S V) : Type 0 where
  pub transition : Transition V
  pub member : In transition A.transitions
  pub begins : transition.from ≡ p
  pub empty : is_empty transition.label ≡ true
  pub is : e ≡ move_of transition
  pub inside : p < A.states

module _ {S V : Type 0} {R : WeightSet V} (L : SemiringLaws R) (absorbing : Absorbs R) (tapes : ℕ) (A : Automaton V) (G : IsAutomaton R tapes A) (moves : List (Vec (Entry S V))) (count : length moves ≡ A.states) (of : AreMovesOf A moves) where
  move_was : (p : ℕ) (e : Entry S V) → In e (entries_at moves p) → IsMoveOf A p e
  move_was p e i = go (split p)
    where
      split : (q : ℕ) → (q < A.states) ⊎ (A.states ≤ q)
      split q = search arith

      go : (p < A.states) ⊎ (A.states ≤ p) → IsMoveOf A p e
      go (inl l) =
          let m = In-map_from (move_of {S = S}) e _ (subst (λ (row : List (Entry S V)). In e row) (of p l) i) in
          let f = In-filter_from (λ (t : Transition V). is_empty t.label) m.0 (moves_from A p) m.1 in
          let t = moves_member A p m.0 f.0 in
          record { transition = m.0; member = t.0; begins = t.1; empty = f.1; is = m.2; inside = l }
      go (inr k) = absurd (subst (λ (row : List (Entry S V)). In e row) (past_rows moves p (subst (λ n. n ≤ p) (sym count) k)) i)

  move_there : (p : ℕ) (t : Transition V) → In t A.transitions → t.from ≡ p → is_empty t.label ≡ true → In (move_of {S = S} t) (entries_at moves p)
  move_there p t i e h =
      subst (λ (row : List (Entry S V)). In (move_of t) row) (sym (of p (subst (λ q. q < A.states) e (G.from t i))))
      (In-map (move_of {S = S}) t _ (In-filter (λ (u : Transition V). is_empty u.label) t (moves_from A p) (In-filter (λ (u : Transition V). eqb u.from p) t A.transitions i (eq-eqb t.from p e)) h))

  abbrev K : ℕ → ℕ → V
  K = closure R A

  closed : (i t : ℕ) → i < A.states → t < A.states → K i t ≡ R.plus (unit_entry R i t) (sum_over R (λ (u : Transition V). cond (eqb u.from i) (cond (is_empty u.label) (R.times u.weight (K u.to t)) R.zero) R.zero) A.transitions)
  closed i t l m = last_closed L tapes A G (inl absorbing) i t l m ∙ ap (R.plus (unit_entry R i t)) (silent L A G.to i (λ j. K j t))

  takes_in : (t : ℕ) → t < A.states → TakesIn R moves (λ i. K i t)
  takes_in t l p e i =
      let m = move_was p e i in
      let u = m.transition in
      let f = λ (u : Transition V). cond (eqb u.from p) (cond (is_empty u.label) (R.times u.weight (K u.to t)) R.zero) R.zero in
      let here : f u ≡ R.times u.weight (K u.to t) = ap (λ b. cond b (cond (is_empty u.label) (R.times u.weight (K u.to t)) R.zero) R.zero) (eq-eqb u.from p m.begins) ∙ ap (λ b. cond b (R.times u.weight (K u.to t)) R.zero) m.empty in
      let total : R.plus (R.plus (unit_entry R p t) (sum_over R f A.transitions)) (f u) ≡ R.plus (unit_entry R p t) (sum_over R f A.transitions) =
      below_more L absorbing (unit_entry R p t) (f u) (sum_over R f A.transitions) (member_below L absorbing f u A.transitions m.member) in
      let whole : R.plus (K p t) (f u) ≡ K p t = subst (λ y. R.plus y (f u) ≡ y) (sym (closed p t m.inside l)) total in
      subst (λ (x : Entry S V). R.plus (K p t) (R.times x.weight (K x.state t)) ≡ K p t) (sym m.is) (ap (R.plus (K p t)) (sym here) ∙ whole)

  own : (t : ℕ) → t < A.states → R.plus (K t t) R.one ≡ K t t
  own t l = below_part L absorbing R.one _ (K t t) (closed t t l l ∙ ap (λ b. R.plus (cond b R.one R.zero) (sum_over R (λ (u : Transition V). cond (eqb u.from t) (cond (is_empty u.label) (R.times u.weight (K u.to t)) R.zero) R.zero) A.transitions)) (eq-eqb t t refl))

  module _ (s : ℕ) (weights : ℕ → V) (D : IsSettled R moves s weights) where
    not_above : (t : ℕ) → t < A.states → R.plus (K s t) (weights t) ≡ K s t
    not_above t l =
        chain L (weights t) (R.times (weights t) (K t t)) (K s t)
        (subst (λ y. R.plus (R.times (weights t) (K t t)) y ≡ R.times (weights t) (K t t)) (L.times_one (weights t)) (below_times L absorbing (weights t) R.one (K t t) (own t l)))
        (D.from (λ i. K i t) (takes_in t l) t)

    none : (i t : ℕ) → R.plus (weights t) (R.times (weights i) R.zero) ≡ weights t
    none i t = ap (R.plus (weights t)) (L.times_zero (weights i)) ∙ L.plus_zero (weights t)

    unit_below : (i t : ℕ) → R.plus (weights t) (R.times (weights i) (unit_entry R i t)) ≡ weights t
    unit_below i t = go (eqb t i) refl
      where
        go : (b : Bool) → eqb t i ≡ b → R.plus (weights t) (R.times (weights i) (cond b R.one R.zero)) ≡ weights t
        go true e = ap (R.plus (weights t)) (L.times_one (weights i) ∙ ap weights (sym (eqb-true t i e))) ∙ twice L absorbing (weights t)
        go false e = none i t

    matrix_below : (m i t : ℕ) → i < A.states → t < A.states → R.plus (weights t) (R.times (weights i) (matrix R A m i t)) ≡ weights t
    matrix_below zero i t l k = unit_below i t
    matrix_below (suc m) i t l k =
        ap (R.plus (weights t)) (ap (λ y. R.times (weights i) (R.plus (unit_entry R i t) y)) (silent L A G.to i (λ j. matrix R A m j t))
        ∙ L.times_plus (weights i) (unit_entry R i t) (sum_over R f A.transitions) ∙ ap (R.plus (R.times (weights i) (unit_entry R i t))) (sym (sum-times L (weights i) f A.transitions)))
        ∙ both L (R.times (weights i) (unit_entry R i t)) (sum_over R (λ u. R.times (weights i) (f u)) A.transitions) (weights t) (unit_below i t)
        (all_below L (λ u. R.times (weights i) (f u)) (weights t) A.transitions (λ u j. each u j (matrix_below m u.to t (G.to u j) k) (eqb u.from i) refl (is_empty u.label) refl))
      where
        f : Transition V → V
        f u = cond (eqb u.from i) (cond (is_empty u.label) (R.times u.weight (matrix R A m u.to t)) R.zero) R.zero

        each : (u : Transition V) → In u A.transitions → R.plus (weights t) (R.times (weights u.to) (matrix R A m u.to t)) ≡ weights t → (b : Bool) → eqb u.from i ≡ b → (c : Bool) → is_empty u.label ≡ c
            → R.plus (weights t) (R.times (weights i) (cond b (cond c (R.times u.weight (matrix R A m u.to t)) R.zero) R.zero)) ≡ weights t
        each u j ih true e true h =
            let y = matrix R A m u.to t in
            let step : R.plus (R.times y (weights u.to)) (R.times y (R.times (weights i) u.weight)) ≡ R.times y (weights u.to) =
            below_times L absorbing y (R.times (weights i) u.weight) (weights u.to) (D.settled i (move_of u) (move_there i u j (eqb-true u.from i e) h)) in
            ap (R.plus (weights t)) (sym (L.times_assoc (weights i) u.weight y) ∙ L.times_comm (R.times (weights i) u.weight) y)
            ∙ chain L (R.times y (R.times (weights i) u.weight)) (R.times y (weights u.to)) (weights t) step (ap (R.plus (weights t)) (L.times_comm y (weights u.to)) ∙ ih)
        each u j ih true e false h = none i t
        each u j ih false e c h = none i t

    -- a settled row is the row of the closure
    pub row_is : (t : ℕ) → s < A.states → t < A.states → weights t ≡ K s t
    row_is t l k =
        let under : R.plus (weights t) (K s t) ≡ weights t = ap (R.plus (weights t)) (sym (ap (λ y. R.times y (K s t)) D.one ∙ one_times L (K s t))) ∙ matrix_below (A.states - 1) s t l k in
        sym under ∙ L.plus_comm (weights t) (K s t) ∙ not_above t k

-- a sum that was read
pub sum_read : {V : Type 0} (R : WeightSet V) (sums : List V) (q : ℕ) (v : V) → q < length sums → v ≡ get_or sums q v → v ≡ sum_at R sums q
sum_read R sums q v l is = is ∙ get_or_default sums q v R.zero l

pub sum_in_range : {V : Type 0} {R : WeightSet V} → RangeLaws R → (sums : List V) (q : ℕ) (v : V) → InRange R sums → v ≡ sum_at R sums q → IsTrue (R.in_range v)
sum_in_range {V} {R} Z sums q v h e = subst (λ x. IsTrue (R.in_range x)) (sym e) (all_read (λ x. IsTrue (R.in_range x)) sums q R.zero h Z.zero_in)

-- what is not told to be unequal is equal
pub unequal : (b c : Bool) → c ≡ false → c ≡ not b → b ≡ true
unequal true c e f = refl
unequal false c e f = absurd (cc)

-- a state more waits
pub one_more_waits : (before after : List ℕ) (marks : List Bool) (s : ℕ) (b : Bool) → after ≡ before ++ s ∷ [] → s < length marks → AreWaiting (length marks) before marks → AreWaiting (length marks) after (set marks s b)
one_more_waits before after marks s b is l h =
    record {
      count = length-set marks s b;
      inside = λ q i. elim (In-append_cases q before (s ∷ []) (subst (λ (qs : List ℕ). In q qs) is i)) [
        | inl k ↦ h.inside q k
        | inr (inl e) ↦ subst (λ k. k < length marks) (sym e) l
        | inr (inr k) ↦ absurd k
      ];
    }

-- the first one waits no more
pub one_waits_less : (before after : List ℕ) (marks : List Bool) (s : ℕ) (b : Bool) → before ≡ s ∷ after → AreWaiting (length marks) before marks → AreWaiting (length marks) after (set marks s b)
one_waits_less before after marks s b is h =
    record {
      count = length-set marks s b;
      inside = λ q i. h.inside q (subst (λ (qs : List ℕ). In q qs) (sym is) (inr i));
    }
