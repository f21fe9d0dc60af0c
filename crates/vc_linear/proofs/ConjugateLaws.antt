-- An automaton whose states are combinations of the states of another has the combinations of its futures.
use Rattle.std.proofs.Common.{◌≡◌, ℕ, [], ◌∷◌, cond, Bool, true, false, eqb, refl, sym, ap, ◌∙◌, ap₂, zero, suc, ◌<◌, ◌+◌, ◌*◌, arith, length, Option, Some, None}
use Rattle.vc_model.specs.WeightSet.{WeightSet, SemiringLaws}
use Rattle.vc_model.specs.Lists.{In, below}
use Rattle.vc_model.specs.Sums.{sum_over}
use Rattle.vc_model.specs.Words.{Tape, Word, is_empty, cut, size}
use Rattle.vc_model.specs.Automata.{Transition, Automaton, IsAutomaton, IsSound, initial_weight, final_weight, future, future_within, coefficient, coefficient_within, first_step, at_rest}
use Rattle.vc_model.specs.Letters.{HasLetters, step_sum}
use Rattle.vc_linear.specs.Conjugates.{combined, IsConjugate, letter_entry, IsLetterConjugate}
use Rattle.vc_model.specs.Rearranged.{one_times}
use Rattle.vc_model.specs.SumLaws.{sum_same, sum_zero, sum-plus, sum-times, sum-times_right, sum_swap}
use Rattle.vc_model.specs.Members.{below-In, NoRepeat-up_from, up_from-In}
use Rattle.vc_model.specs.WordLaws.{join-cut}
use Rattle.vc_model.specs.Keys.{sum_pick}
use Rattle.vc_model.specs.Choices.{cond-times}
use Rattle.vc_model.specs.Rests.{at_rest_same}
use Rattle.vc_model.specs.FirstSteps.{future_within-suc, future_within-zero}
use Rattle.vc_model.specs.Bounds.{future_within-bounds}
use Rattle.vc_model.specs.FutureLaws.{coefficient_stable}
use Rattle.vc_model.specs.LetterSteps.{future_empty, future_letter, step_sum_same, step_sum-times_right, step_sum-sum}

module _ {V : Type 0} {R : WeightSet V} (L : SemiringLaws R) where
  pub combined_same : (n : ℕ) (x f g : ℕ → V) → ((i : ℕ) → i < n → f i ≡ g i) → combined R n x f ≡ combined R n x g
  combined_same n x f g h = sum_same L _ _ (below n) (λ i m. ap (R.times (x i)) (h i (below-In n i m)))

  pub combined-cond : (n : ℕ) (x f : ℕ → V) (b : Bool) → cond b (combined R n x f) R.zero ≡ combined R n x (λ i. cond b (f i) R.zero)
  combined-cond n x f true = refl
  combined-cond n x f false = sym (sum_zero L _ (below n) (λ i m. L.times_zero (x i)))

  pub combined-plus : (n : ℕ) (x f g : ℕ → V) → R.plus (combined R n x f) (combined R n x g) ≡ combined R n x (λ i. R.plus (f i) (g i))
  combined-plus n x f g = sym (sum-plus L (λ i. R.times (x i) (f i)) (λ i. R.times (x i) (g i)) (below n)) ∙ sum_same L _ _ (below n) (λ i m. sym (L.times_plus (x i) (f i) (g i)))

  pub combined-rest : (n : ℕ) (x : ℕ → V) (f : ℕ → Word → V) (r : Option Word) → at_rest R.zero (λ v. combined R n x (λ i. f i v)) r ≡ combined R n x (λ i. at_rest R.zero (f i) r)
  combined-rest n x f None = sym (sum_zero L _ (below n) (λ i m. L.times_zero (x i)))
  combined-rest n x f (Some v) = refl

  -- a combination of combinations
  pub combined-combined : (n m : ℕ) (x : ℕ → V) (y : ℕ → ℕ → V) (f : ℕ → V) → combined R n x (λ i. combined R m (y i) f) ≡ combined R m (λ j. combined R n x (λ i. y i j)) f
  combined-combined n m x y f =
      sum_same L _ _ (below n) (λ i _. sym (sum-times L (x i) (λ j. R.times (y i j) (f j)) (below m)))
      ∙ sum_swap L (λ i j. R.times (x i) (R.times (y i j) (f j))) (below n) (below m)
      ∙ sum_same L _ _ (below m) (λ j _. sum_same L _ _ (below n) (λ i _. sym (L.times_assoc (x i) (y i j) (f j))) ∙ sum-times_right L (f j) (λ i. R.times (x i) (y i j)) (below n))

  module _ (tapes : ℕ) (A B : Automaton V) (a : IsAutomaton R tapes A) (b : IsAutomaton R tapes B) (X : ℕ → ℕ → V) (C : IsConjugate R A B X) where
    pub conjugate_within : (k p : ℕ) (w : Word) → p < A.states → length w ≡ tapes → future_within R A k p w ≡ combined R B.states (X p) (λ q. future_within R B k q w)
    conjugate_within zero p w l e =
        future_within-zero L A tapes a.label p w e
        ∙ ap (λ x. cond (is_empty w) x R.zero) (C.final p l)
        ∙ combined-cond B.states (X p) (final_weight R B) (is_empty w)
        ∙ combined_same B.states (X p) _ _ (λ q m. sym (future_within-zero L B tapes b.label q w e))
    conjugate_within (suc k) p w l e =
        future_within-suc L A tapes a.label k p w e
        ∙ ap₂ R.plus
        (ap (λ x. cond (is_empty w) x R.zero) (C.final p l) ∙ combined-cond B.states (X p) (final_weight R B) (is_empty w))
        (sum_same L _ _ A.transitions (λ t i. ap (λ x. cond (eqb t.from p) (R.times t.weight x) R.zero)
        (at_rest_same R.zero _ _ (cut t.label w) (λ v c. conjugate_within k t.to v (a.to t i) ((join-cut t.label w v c).1 ∙ e))
        ∙ combined-rest B.states (X t.to) (λ q v. future_within R B k q v) (cut t.label w)))
        ∙ C.steps p (λ l q. at_rest R.zero (λ v. future_within R B k q v) (cut l w)) l)
        ∙ combined-plus B.states (X p) (λ q. cond (is_empty w) (final_weight R B q) R.zero) (λ q. sum_over R (first_step R B k q w) B.transitions)
        ∙ combined_same B.states (X p) _ _ (λ q m. sym (future_within-suc L B tapes b.label k q w e))

    pub conjugate_coefficient_within : (k : ℕ) (w : Word) → length w ≡ tapes → coefficient_within R A k w ≡ coefficient_within R B k w
    conjugate_coefficient_within k w e =
        combined_same A.states (initial_weight R A) _ _ (λ p m. conjugate_within k p w m e)
        ∙ combined-combined A.states B.states (initial_weight R A) X (λ q. future_within R B k q w)
        ∙ sum_same L _ _ (below B.states) (λ q m. ap (λ y. R.times y (future_within R B k q w)) (C.initial q (below-In B.states q m)))

    -- at the bounds of the two
    pub conjugate_future : IsSound R tapes A → IsSound R tapes B → (p : ℕ) (w : Word) → p < A.states → length w ≡ tapes → future R A p w ≡ combined R B.states (X p) (λ q. future R B q w)
    conjugate_future s t p w l e =
        let i = (size w + 1) * A.states in
        let j = (size w + 1) * B.states in
        future_within-bounds L tapes A a i (i + j) p w e l s (omega arith) (omega arith)
        ∙ conjugate_within (i + j) p w l e
        ∙ combined_same B.states (X p) _ _ (λ q m. future_within-bounds L tapes B b (i + j) j q w e m t (omega arith) (omega arith))

    pub conjugate_coefficient : IsSound R tapes A → IsSound R tapes B → (w : Word) → length w ≡ tapes → coefficient R A w ≡ coefficient R B w
    conjugate_coefficient s t w e =
        let i = (size w + 1) * A.states in
        let j = (size w + 1) * B.states in
        sym (coefficient_stable L tapes A a s w e (i + j) (omega arith))
        ∙ conjugate_coefficient_within (i + j) w e
        ∙ coefficient_stable L tapes B b t w e (i + j) (omega arith)

  -- a step by its entries
  pub step_by_entries : (B : Automaton V) → ((t : Transition V) → In t B.transitions → t.to < B.states) → (i x : ℕ) (g : ℕ → V) → step_sum R B i x g ≡ combined R B.states (λ j. letter_entry R B x i j) g
  step_by_entries B to i x g =
      step_sum_same L B i x g (λ q. sum_over R (λ j. R.times (cond (eqb j q) R.one R.zero) (g j)) (below B.states)) (λ t m.
      sym (picked t.to (to t m))
      ∙ sum_same L _ _ (below B.states) (λ j _. ap (λ y. cond (eqb j t.to) y R.zero) (sym (one_times L (g j))) ∙ sym (cond-times L (eqb j t.to) R.one (g j))))
      ∙ step_sum-sum L B i x (λ j q. R.times (cond (eqb j q) R.one R.zero) (g j)) (below B.states)
      ∙ sum_same L _ _ (below B.states) (λ j _. step_sum-times_right L B i x (g j) (λ q. cond (eqb j q) R.one R.zero))
    where
      picked : (a : ℕ) → a < B.states → sum_over R (λ j. cond (eqb j a) (g j) R.zero) (below B.states) ≡ g a
      picked a h = sum_pick L g a (below B.states) (NoRepeat-up_from 0 B.states) (up_from-In a 0 B.states (omega arith) (omega arith))

  module _ (A B : Automaton V) (a : IsAutomaton R 1 A) (b : IsAutomaton R 1 B) (hA : HasLetters A) (hB : HasLetters B) (X : ℕ → ℕ → V) (C : IsLetterConjugate R A B X) where
    letter_steps : (p x : ℕ) (g : ℕ → V) → p < A.states → step_sum R A p x (λ s. combined R B.states (X s) g) ≡ combined R B.states (X p) (λ r. step_sum R B r x g)
    letter_steps p x g l =
        step_sum-sum L A p x (λ q s. R.times (X s q) (g q)) (below B.states)
        ∙ sum_same L _ _ (below B.states) (λ q m. step_sum-times_right L A p x (g q) (λ s. X s q) ∙ ap (λ y. R.times y (g q)) (C.entries p x q l (below-In B.states q m)))
        ∙ sym (combined-combined B.states B.states (X p) (λ r q. letter_entry R B x r q) g)
        ∙ combined_same B.states (X p) _ _ (λ r m. sym (step_by_entries B b.to r x g))

    pub letter_future : (u : Tape) (p : ℕ) → p < A.states → future R A p (u ∷ []) ≡ combined R B.states (X p) (λ q. future R B q (u ∷ []))
    letter_future [] p l =
        future_empty L A a hA p l ∙ C.final p l ∙ combined_same B.states (X p) _ _ (λ q m. sym (future_empty L B b hB q m))
    letter_future (x ∷ u) p l =
        future_letter L A a hA p x u l
        ∙ step_sum_same L A p x _ _ (λ t m. letter_future u t.to (a.to t m))
        ∙ letter_steps p x (λ q. future R B q (u ∷ [])) l
        ∙ combined_same B.states (X p) _ _ (λ q m. sym (future_letter L B b hB q x u m))

    pub letter_coefficient : (u : Tape) → coefficient R A (u ∷ []) ≡ coefficient R B (u ∷ [])
    letter_coefficient u =
        combined_same A.states (initial_weight R A) _ _ (λ p m. letter_future u p m)
        ∙ combined-combined A.states B.states (initial_weight R A) X (λ q. future R B q (u ∷ []))
        ∙ sum_same L _ _ (below B.states) (λ q m. ap (λ y. R.times y (future R B q (u ∷ []))) (C.initial q (below-In B.states q m)))
