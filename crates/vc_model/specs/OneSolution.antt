-- Without an empty circuit the equations of futures have one solution.
use Rattle.std.proofs.Common.{◌≡◌, ℕ, List, [], ◌∷◌, ◌++◌, cond, Bool, true, false, eqb, refl, sym, ap, ◌∙◌, subst, zero, suc, ◌<◌, ◌≤◌, ◌+◌, ◌*◌, arith, length, Option, Some, None, replicate}
use Rattle.std.proofs.lemmas.Bool.{eqb-true}
use Rattle.std.proofs.Math.Nat.{mul-le-mul_right}
use Rattle.vc_model.specs.WeightSet.{WeightSet, SemiringLaws}
use Rattle.vc_model.specs.Lists.{In}
use Rattle.vc_model.specs.Sums.{sum_over}
use Rattle.vc_model.specs.Words.{Word, size, join, cut, on, is_empty}
use Rattle.vc_model.specs.Automata.{Transition, Automaton, IsAutomaton, IsPath, end_of, path_label, final_weight, future_within, future, at_rest, first_step, NoEmptyCircuit, IsSolution}
use Rattle.vc_model.specs.SumLaws.{sum_same, sum_zero, sum-plus}
use Rattle.vc_model.specs.WordLaws.{join-cut, size-join, join_assoc, join-empty_left}
use Rattle.vc_model.specs.PathLaws.{length-path_label, IsPath-split}
use Rattle.vc_model.specs.FirstSteps.{future_within-suc, future_within-zero}
use Rattle.vc_model.specs.Circuits.{circuit_of}
use Rattle.vc_model.specs.Rests.{at_rest_same, at_rest-plus}
use Rattle.vc_model.specs.Choices.{cond-plus}
use Rattle.vc_model.specs.TapeSets.{on_all, size-on_empty}

module _ {V : Type 0} {R : WeightSet V} (L : SemiringLaws R) (tapes : ℕ) (A : Automaton V) (G : IsAutomaton R tapes A) where
  -- what the equations leave open after k steps
  abbrev pub left_open : (ℕ → Word → V) → ℕ → ℕ → Word → V
  left_open X zero p w = X p w
  left_open X (suc k) p w = sum_over R (λ t. cond (eqb t.from p) (R.times t.weight (at_rest R.zero (left_open X k t.to) (cut t.label w))) R.zero) A.transitions

  pub unfolded : (X : ℕ → Word → V) → IsSolution R tapes A X → (k p : ℕ) (w : Word) → p < A.states → length w ≡ tapes → X p w ≡ R.plus (future_within R A k p w) (left_open X (suc k) p w)
  unfolded X h zero p w l e = h p w l e ∙ ap (λ x. R.plus x (left_open X 1 p w)) (sym (future_within-zero L A tapes G.label p w e))
  unfolded X h (suc k) p w l e =
      h p w l e
      ∙ ap (R.plus (cond (is_empty w) (final_weight R A p) R.zero))
      (sum_same L _ (λ t. R.plus (first_step R A k p w t) (cond (eqb t.from p) (R.times t.weight (at_rest R.zero (left_open X (suc k) t.to) (cut t.label w))) R.zero)) A.transitions (λ t i.
      ap (λ x. cond (eqb t.from p) x R.zero)
      (ap (R.times t.weight)
      (at_rest_same R.zero _ (λ v. R.plus (future_within R A k t.to v) (left_open X (suc k) t.to v)) (cut t.label w) (λ v c. unfolded X h k t.to v (G.to t i) ((join-cut t.label w v c).1 ∙ e))
      ∙ at_rest-plus L (future_within R A k t.to) (left_open X (suc k) t.to) (cut t.label w))
      ∙ L.times_plus t.weight _ _)
      ∙ cond-plus L (eqb t.from p) _ _)
      ∙ sum-plus L (first_step R A k p w) (λ t. cond (eqb t.from p) (R.times t.weight (at_rest R.zero (left_open X (suc k) t.to) (cut t.label w))) R.zero) A.transitions)
      ∙ sym (L.plus_assoc _ _ _)
      ∙ ap (λ x. R.plus x (left_open X (suc (suc k)) p w)) (sym (future_within-suc L A tapes G.label k p w e))

  -- nothing is left open where no path of k transitions reads a front of the word
  closed : (X : ℕ → Word → V) (k p : ℕ) (w : Word) → length w ≡ tapes → ((ts : List (Transition V)) (v : Word) → IsPath A p ts → length ts ≡ k → length v ≡ tapes → join (path_label tapes ts) v ≡ w → ⊥) → left_open X k p w ≡ R.zero
  closed X zero p w e h = absurd (h [] w tt refl e (join-empty_left tapes w e))
  closed X (suc k) p w e h = sum_zero L _ A.transitions (λ t i. at (eqb t.from p) t i refl (λ q v m g. closed X k q v m g))
    where
      rest : (t : Transition V) (r : Option Word) → cut t.label w ≡ r → ((v : Word) → cut t.label w ≡ Some v → left_open X k t.to v ≡ R.zero) → R.times t.weight (at_rest R.zero (left_open X k t.to) r) ≡ R.zero
      rest t None q g = L.times_zero t.weight
      rest t (Some v) q g = ap (R.times t.weight) (g v q) ∙ L.times_zero t.weight

      at : (b : Bool) (t : Transition V) → In t A.transitions → eqb t.from p ≡ b → ((q : ℕ) (v : Word) → length v ≡ tapes → ((ts : List (Transition V)) (z : Word) → IsPath A q ts → length ts ≡ k → length z ≡ tapes → join (path_label tapes ts) z ≡ v → ⊥) → left_open X k q v ≡ R.zero) → cond b (R.times t.weight (at_rest R.zero (left_open X k t.to) (cut t.label w))) R.zero ≡ R.zero
      at false t i q ih = refl
      at true t i q ih = rest t (cut t.label w) refl (λ v c.
          let j = join-cut t.label w v c in
          ih t.to v (j.1 ∙ e) (λ ts z g n m y.
          h (t ∷ ts) z (i, eqb-true t.from p q, g) (ap suc n) m (join_assoc t.label (path_label tapes ts) z ∙ ap (join t.label) y ∙ j.0)))

  pub solution_is_future : NoEmptyCircuit tapes A → (X : ℕ → Word → V) → IsSolution R tapes A X → (p : ℕ) (w : Word) → p < A.states → length w ≡ tapes → X p w ≡ future R A p w
  solution_is_future N X h p w l e =
      let k = (size w + 1) * A.states in
      unfolded X h k p w l e
      ∙ ap (R.plus (future_within R A k p w)) (closed X (suc k) p w e (λ ts v g n m y.
      let all = replicate tapes true in
      let q : size (join (path_label tapes ts) v) ≡ size (path_label tapes ts) + size v = size-join (path_label tapes ts) v (length-path_label A tapes G.label p ts g ∙ sym m) in
      let q' : size (join (path_label tapes ts) v) ≡ size w = ap (λ z. size z) y in
      let o : size (on all (path_label tapes ts)) ≡ size (path_label tapes ts) = ap (λ z. size z) (on_all tapes (path_label tapes ts) (length-path_label A tapes G.label p ts g)) in
      let c = circuit_of A tapes all G.label G.to p (size (path_label tapes ts)) ts (size-on_empty all tapes) g l o (fewer (size (path_label tapes ts)) (size w) A.states (length ts) (omega arith) n) in
      let s = IsPath-split A p c.before ((c.first ∷ c.more) ++ c.after) (subst (IsPath A p) {y = c.before ++ ((c.first ∷ c.more) ++ c.after)} c.is g) in
      let s' = IsPath-split A (end_of p c.before) (c.first ∷ c.more) c.after s.1 in
      N (end_of p c.before) c.first c.more s'.0 c.back c.nothing))
      ∙ L.plus_zero (future_within R A k p w)
    where
      fewer : (a b n m : ℕ) → a ≤ b → m ≡ suc ((b + 1) * n) → (a + 1) * n ≤ m
      fewer a b n m h e = omega (arith, mul-le-mul_right n h)
