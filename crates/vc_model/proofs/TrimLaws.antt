-- An automaton trimmed to its useful states keeps the series.
use Rattle.std.proofs.Common.{◌≡◌, ◌≢◌, ℕ, List, [], ◌∷◌, ◌++◌, map, cond, Bool, true, false, ◌&&◌, eqb, get_or, refl, sym, ap, ap₂, ◌∙◌, inl, inr, ◌⊎◌, subst, zero, suc, ◌<◌, ◌+◌, ◌*◌, arith, length, replicate, Option, Some, None}
use Rattle.std.specs.List.{filter}
use Rattle.std.proofs.lemmas.Bool.{eqb-true, eq-eqb, false≢true}
use Rattle.vc_model.specs.WeightSet.{WeightSet, SemiringLaws}
use Rattle.vc_model.specs.Lists.{In, NoRepeat, IsEqualityTest, IsIncreasing, below, up_from}
use Rattle.vc_model.specs.Sums.{sum_over}
use Rattle.vc_model.specs.Words.{Word, is_empty, size, cut, same_word, join, on}
use Rattle.vc_model.specs.Automata.{Transition, Automaton, IsAutomaton, IsPath, IsSound, end_of, path_label, path_value, paths, initial_weight, final_weight, future_within, future, coefficient, at_rest, NoEmptyCircuit}
use Rattle.vc_model.specs.Moves.{moves_sum}
use Rattle.vc_model.specs.Numbering.{is_among}
use Rattle.vc_model.specs.Machines.{place_in}
use Rattle.vc_model.specs.Trims.{is_between, placed, IsTrim}
use Rattle.vc_model.specs.Rearranged.{zero_times}
use Rattle.vc_model.specs.SumLaws.{sum-map, sum-filter, sum_same, sum_zero}
use Rattle.vc_model.specs.SameSums.{same_sums}
use Rattle.vc_model.specs.Members.{In-map_from, In-filter_from, up_from-In, NoRepeat-up_from, below-In}
use Rattle.vc_model.specs.WordLaws.{bool_same, and_parts, join-cut}
use Rattle.vc_model.specs.PathLaws.{paths-In, IsPath-append, end_of-append}
use Rattle.vc_model.specs.Rests.{at_rest_same}
use Rattle.vc_model.specs.FirstSteps.{future_within-suc, future_within-zero}
use Rattle.vc_model.specs.Bounds.{future_within-bounds}
use Rattle.vc_model.specs.NumberingLaws.{is_among-In, In-is_among}
use Rattle.vc_model.proofs.MachineLaws.{place_at, at_place, at-In}

number_test : IsEqualityTest eqb
number_test a b = (eqb-true a b, eq-eqb a b)

increasing_once : (xs : List ℕ) → IsIncreasing xs → NoRepeat xs
increasing_once [] h = tt
increasing_once (x ∷ xs) h = ((λ i. let l = h.0 x i in omega arith), increasing_once xs h.1)

-- the test of membership by its two answers
among : (p : ℕ) (kept : List ℕ) → ((is_among eqb p kept ≡ true) × In p kept) ⊎ ((is_among eqb p kept ≡ false) × (In p kept → ⊥))
among p kept = go (is_among eqb p kept) refl
  where
    go : (b : Bool) → is_among eqb p kept ≡ b → ((b ≡ true) × In p kept) ⊎ ((b ≡ false) × (In p kept → ⊥))
    go true e = inl (refl, is_among-In eqb eqb-true (λ a. eq-eqb a a refl) p kept e)
    go false e = inr (refl, λ i. false≢true (sym e ∙ In-is_among eqb eqb-true (λ a. eq-eqb a a refl) p kept i))

module _ {V : Type 0} {R : WeightSet V} (L : SemiringLaws R) where
  -- a sum over a list by its places
  sum-up_from : (g : ℕ → V) (s n : ℕ) → sum_over R g (up_from (suc s) n) ≡ sum_over R (λ i. g (suc i)) (up_from s n)
  sum-up_from g s zero = refl
  sum-up_from g s (suc n) = ap (R.plus (g (suc s))) (sum-up_from g (suc s) n)

  pub sum-places : {X : Type 0} (f : X → V) (d : X) (xs : List X) → sum_over R (λ i. f (get_or xs i d)) (below (length xs)) ≡ sum_over R f xs
  sum-places f d [] = refl
  sum-places f d (x ∷ xs) = ap (R.plus (f x)) (sum-up_from (λ i. f (get_or (x ∷ xs) i d)) 0 (length xs) ∙ sum-places f d xs)

  nothing : (r : Option Word) → at_rest R.zero (λ v. R.zero) r ≡ R.zero
  nothing None = refl
  nothing (Some v) = refl

  module _ (same : V → V → Bool) (Z : IsEqualityTest same) (tapes : ℕ) (A T : Automaton V) (a : IsAutomaton R tapes A) (t : IsAutomaton R tapes T) (kept : List ℕ) (M : IsTrim R A T kept) where
    -- the state that a state of T is
    abbrev pub old : ℕ → ℕ
    old i = get_or kept i 0

    once : NoRepeat kept
    once = increasing_once kept M.order

    old-In : (i : ℕ) → i < length kept → In (old i) kept
    old-In i l = at-In eqb number_test 0 kept i l

    zero_or_not : (x : V) → (x ≡ R.zero) ⊎ (x ≢ R.zero)
    zero_or_not x = go (same x R.zero) refl
      where
        go : (b : Bool) → same x R.zero ≡ b → (x ≡ R.zero) ⊎ (x ≢ R.zero)
        go true e = inl ((Z x R.zero).0 e)
        go false e = inr (λ q. false≢true (sym e ∙ (Z x R.zero).1 q))

    -- what the transitions of T bring
    trim_steps : (i : ℕ) (h : Word → ℕ → V) → i < length kept → moves_sum R T i (λ b q. h b (old q)) ≡ sum_over R (λ u. cond (eqb u.from (old i)) (cond (is_among eqb u.to kept) (R.times u.weight (h u.label u.to)) R.zero) R.zero) A.transitions
    trim_steps i h l =
        ap (sum_over R (λ u. cond (eqb u.from i) (R.times u.weight (h u.label (old u.to))) R.zero)) M.transitions
        ∙ sum-map L _ (placed kept) (filter (is_between kept) A.transitions)
        ∙ sum-filter L (λ u. cond (eqb (place_in eqb u.from kept) i) (R.times u.weight (h u.label (old (place_in eqb u.to kept)))) R.zero) (is_between kept) A.transitions
        ∙ sum_same L _ _ A.transitions (λ u m. each u (is_among eqb u.from kept) (is_among eqb u.to kept) (among u.from kept) (among u.to kept))
      where
        both : (b : Bool) (x : V) → cond b R.zero R.zero ≡ R.zero
        both true x = refl
        both false x = refl

        each : (u : Transition V) (b c : Bool) → ((b ≡ true) × In u.from kept) ⊎ ((b ≡ false) × (In u.from kept → ⊥)) → ((c ≡ true) × In u.to kept) ⊎ ((c ≡ false) × (In u.to kept → ⊥))
            → cond (b && c) (cond (eqb (place_in eqb u.from kept) i) (R.times u.weight (h u.label (old (place_in eqb u.to kept)))) R.zero) R.zero
            ≡ cond (eqb u.from (old i)) (cond c (R.times u.weight (h u.label u.to)) R.zero) R.zero
        each u true true (inl f) (inl g) =
            ap₂ (λ z q. cond z (R.times u.weight (h u.label q)) R.zero)
            (bool_same (eqb (place_in eqb u.from kept) i) (eqb u.from (old i))
            (λ e. eq-eqb u.from (old i) (sym (at_place eqb number_test 0 u.from kept f.1) ∙ ap old (eqb-true (place_in eqb u.from kept) i e)))
            (λ e. eq-eqb (place_in eqb u.from kept) i (ap (λ q. place_in eqb q kept) (eqb-true u.from (old i) e) ∙ place_at eqb number_test 0 kept i once l)))
            (at_place eqb number_test 0 u.to kept g.1)
        each u true false f g = sym (both (eqb u.from (old i)) R.zero)
        each u false c (inr f) g = sym (apart (eqb u.from (old i)) refl)
          where
            apart : (z : Bool) → eqb u.from (old i) ≡ z → cond z (cond c (R.times u.weight (h u.label u.to)) R.zero) R.zero ≡ R.zero
            apart true e = absurd (f.1 (subst (λ q. In q kept) (sym (eqb-true u.from (old i) e)) (old-In i l)))
            apart false e = refl
        each u true true (inr f) g = absurd (false≢true (sym f.0))
        each u true true (inl f) (inr g) = absurd (false≢true (sym g.0))
        each u false c (inl f) g = absurd (false≢true f.0)

    -- a state that is reached from an initial weight
    record Reached (p : ℕ) : Type 0 where
      start : ℕ
      path : List (Transition V)
      begins : initial_weight R A start ≢ R.zero
      is_path : IsPath A start path
      arrives : end_of start path ≡ p

    reached_next : (u : Transition V) → In u A.transitions → Reached u.from → Reached u.to
    reached_next u i r = record {
      start = r.start;
      path = r.path ++ (u ∷ []);
      begins = r.begins;
      is_path = IsPath-append A r.start r.path (u ∷ []) r.is_path (i, sym r.arrives, tt);
      arrives = end_of-append r.start r.path (u ∷ []);
    }

    reached_old : (i : ℕ) → i < length kept → Reached (old i)
    reached_old i l = let u = ((M.useful (old i)).0 (old-In i l)).1 in record { start = u.start; path = u.before; begins = u.begins; is_path = u.leads; arrives = u.arrives }

    -- from a reached state that is not kept the future is zero
    no_future : (k p : ℕ) (w : Word) → p < A.states → (In p kept → ⊥) → Reached p → future_within R A k p w ≡ R.zero
    no_future k p w l e r =
        sum_zero L (path_value R A p) _ (λ ts i.
        let g = (paths-In A k p ts (In-filter_from (λ us. same_word (path_label (length w) us) w) ts (paths A k p) i).0).0 in
        elim (zero_or_not (final_weight R A (end_of p ts))) [
          | inl z ↦ ap (R.times _) z ∙ L.times_zero _
          | inr z ↦ absurd (e ((M.useful p).1 (l, record { start = r.start; before = r.path; after = ts; begins = r.begins; leads = r.is_path; arrives = r.arrives; goes_on = g; ends = z })))
        ])

    pub trim_within : (k i : ℕ) (w : Word) → i < length kept → length w ≡ tapes → future_within R T k i w ≡ future_within R A k (old i) w
    trim_within zero i w l e =
        future_within-zero L T tapes t.label i w e ∙ ap (λ x. cond (is_empty w) x R.zero) (M.final i l) ∙ sym (future_within-zero L A tapes a.label (old i) w e)
    trim_within (suc k) i w l e =
        future_within-suc L T tapes t.label k i w e
        ∙ ap₂ R.plus (ap (λ x. cond (is_empty w) x R.zero) (M.final i l))
        (sum_same L _ _ T.transitions (λ u m. ap (λ x. cond (eqb u.from i) (R.times u.weight x) R.zero)
        (at_rest_same R.zero _ (future_within R A k (old u.to)) (cut u.label w) (λ v c. trim_within k u.to v (subst (λ n. u.to < n) M.states (t.to u m)) ((join-cut u.label w v c).1 ∙ e))))
        ∙ trim_steps i (λ b q. at_rest R.zero (future_within R A k q) (cut b w)) l
        ∙ sum_same L _ _ A.transitions (λ u m. each u m (eqb u.from (old i)) refl (among u.to kept)))
        ∙ sym (future_within-suc L A tapes a.label k (old i) w e)
      where
        each : (u : Transition V) → In u A.transitions → (b : Bool) → eqb u.from (old i) ≡ b → ((is_among eqb u.to kept ≡ true) × In u.to kept) ⊎ ((is_among eqb u.to kept ≡ false) × (In u.to kept → ⊥))
            → cond b (cond (is_among eqb u.to kept) (R.times u.weight (at_rest R.zero (future_within R A k u.to) (cut u.label w))) R.zero) R.zero ≡ cond b (R.times u.weight (at_rest R.zero (future_within R A k u.to) (cut u.label w))) R.zero
        each u m false q c = refl
        each u m true q (inl c) = ap (λ z. cond z (R.times u.weight (at_rest R.zero (future_within R A k u.to) (cut u.label w))) R.zero) c.0
        each u m true q (inr c) =
            ap (λ z. cond z (R.times u.weight (at_rest R.zero (future_within R A k u.to) (cut u.label w))) R.zero) c.0
            ∙ sym (ap (R.times u.weight) (at_rest_same R.zero _ (λ v. R.zero) (cut u.label w) (λ v d. no_future k u.to v (a.to u m) c.1 (reached_next u m (subst Reached (sym (eqb-true u.from (old i) q)) (reached_old i l)))) ∙ nothing (cut u.label w)) ∙ L.times_zero u.weight)

    -- paths of T as paths of A
    abbrev lifted : Transition V → Transition V
    lifted u = record { from = old u.from; label = u.label; to = old u.to; weight = u.weight }

    lifted-In : (u : Transition V) → In u T.transitions → In (lifted u) A.transitions
    lifted-In u i =
        let r = In-map_from (placed kept) u (filter (is_between kept) A.transitions) (subst (λ us. In u us) M.transitions i) in
        let f = In-filter_from (is_between kept) r.0 A.transitions r.1 in
        let b = and_parts (is_among eqb r.0.from kept) (is_among eqb r.0.to kept) f.1 in
        let p = at_place eqb number_test 0 r.0.from kept (is_among-In eqb eqb-true (λ a. eq-eqb a a refl) r.0.from kept b.0) in
        let q = at_place eqb number_test 0 r.0.to kept (is_among-In eqb eqb-true (λ a. eq-eqb a a refl) r.0.to kept b.1) in
        subst (λ v. In v A.transitions) (sym (ap lifted r.2 ∙ ap₂ (λ (m n : ℕ). record { from = m; label = r.0.label; to = n; weight = r.0.weight }) p q)) f.0

    lifted_path : (p : ℕ) (ts : List (Transition V)) → IsPath T p ts → IsPath A (old p) (map lifted ts)
    lifted_path p [] h = tt
    lifted_path p (u ∷ ts) h = (lifted-In u h.0, ap old h.1, lifted_path u.to ts h.2)

    lifted_end : (p : ℕ) (ts : List (Transition V)) → end_of (old p) (map lifted ts) ≡ old (end_of p ts)
    lifted_end p [] = refl
    lifted_end p (u ∷ ts) = lifted_end u.to ts

    lifted_label : (ts : List (Transition V)) → path_label tapes (map lifted ts) ≡ path_label tapes ts
    lifted_label [] = refl
    lifted_label (u ∷ ts) = ap (join u.label) (lifted_label ts)

    pub trim_free : NoEmptyCircuit tapes A → NoEmptyCircuit tapes T
    trim_free N p u us h b z =
        N (old p) (lifted u) (map lifted us) (lifted_path p (u ∷ us) h) (lifted_end p (u ∷ us) ∙ ap old b) (ap (λ w. size (on (replicate tapes true) w)) (lifted_label (u ∷ us)) ∙ z)

    trim_sound : IsSound R tapes A → IsSound R tapes T
    trim_sound (inl B) = inl B
    trim_sound (inr N) = inr (trim_free N)

    pub trim_future : IsSound R tapes A → (i : ℕ) (w : Word) → i < length kept → length w ≡ tapes → future R T i w ≡ future R A (old i) w
    trim_future s i w l e =
        let m = (size w + 1) * T.states in
        let n = (size w + 1) * A.states in
        future_within-bounds L tapes T t m (m + n) i w e (subst (λ n. i < n) (sym M.states) l) (trim_sound s) (omega arith) (omega arith)
        ∙ trim_within (m + n) i w l e
        ∙ future_within-bounds L tapes A a (m + n) n (old i) w e ((M.useful (old i)).0 (old-In i l)).0 s (omega arith) (omega arith)

    pub trim_coefficient : IsSound R tapes A → (w : Word) → length w ≡ tapes → coefficient R T w ≡ coefficient R A w
    trim_coefficient s w e =
        ap (λ n. sum_over R (λ i. R.times (initial_weight R T i) (future R T i w)) (below n)) M.states
        ∙ sum_same L _ (λ i. value (old i)) (below (length kept)) (λ i m. let l = below-In (length kept) i m in ap₂ R.times (M.initial i l) (trim_future s i w l e))
        ∙ sum-places value 0 kept
        ∙ same_sums L value kept (below A.states) once (NoRepeat-up_from 0 A.states)
        (λ p m. let l = ((M.useful p).0 m).0 in inr (up_from-In p 0 A.states (omega arith) (omega arith)))
        (λ p m. other p (below-In A.states p m) (among p kept) (zero_or_not (initial_weight R A p)))
      where
        value : ℕ → V
        value p = R.times (initial_weight R A p) (future R A p w)

        other : (p : ℕ) → p < A.states → ((is_among eqb p kept ≡ true) × In p kept) ⊎ ((is_among eqb p kept ≡ false) × (In p kept → ⊥)) → (initial_weight R A p ≡ R.zero) ⊎ (initial_weight R A p ≢ R.zero) → (value p ≡ R.zero) ⊎ In p kept
        other p l (inl h) z = inr h.1
        other p l (inr h) (inl z) = inl (ap (λ x. R.times x (future R A p w)) z ∙ zero_times L _)
        other p l (inr h) (inr z) = inl (ap (R.times (initial_weight R A p)) (no_future _ p w l h.1 (record { start = p; path = []; begins = z; is_path = tt; arrives = refl })) ∙ L.times_zero _)
