-- Rows and futures of the two parts of a word, where labels have one letter.
use Rattle.std.proofs.Common.{◌≡◌, ℕ, [], ◌∷◌, ◌++◌, cond, eqb, refl, sym, ap, ◌∙◌, ◌<◌, arith, append_assoc}
use Rattle.std.proofs.lemmas.List.{append-nil}
use Rattle.vc_model.specs.WeightSet.{WeightSet, SemiringLaws}
use Rattle.vc_model.specs.Lists.{In, below}
use Rattle.vc_model.specs.Sums.{sum_over}
use Rattle.vc_model.specs.Words.{Tape}
use Rattle.vc_model.specs.Automata.{Transition, Automaton, IsAutomaton, future, coefficient, row}
use Rattle.vc_model.specs.Letters.{letter_of, HasLetters, step_sum, arrival_sum}
use Rattle.vc_model.specs.SumLaws.{sum_same, sum_swap, sum-times, sum-times_right}
use Rattle.vc_model.specs.Members.{In-up_from}
use Rattle.vc_model.specs.Choices.{cond-times, times-cond}
use Rattle.vc_model.specs.LastSteps.{sum_pick_state, eqb_comm}
use Rattle.vc_model.specs.ProperRows.{coefficient-row}
use Rattle.vc_model.specs.LetterSteps.{future_empty, future_letter}
use Rattle.vc_model.specs.LetterRows.{HasLetters-IsProper, row_letter}

module _ {V : Type 0} {R : WeightSet V} (L : SemiringLaws R) (A : Automaton V) (G : IsAutomaton R 1 A) (H : HasLetters A) where
  -- a letter goes from the futures to the row
  pub row_crosses : (u : Tape) (x : ℕ) (g : ℕ → V)
      → sum_over R (λ p. R.times (row R A (u ∷ []) p) (step_sum R A p x g)) (below A.states) ≡ sum_over R (λ t. R.times (arrival_sum R A t x (row R A (u ∷ []))) (g t)) (below A.states)
  row_crosses u x g =
      sum_same L _ (λ p. sum_over R (λ t. cond (eqb t.from p) (through t p) R.zero) A.transitions) (below A.states) (λ p i.
      sym (sum-times L (r p) _ A.transitions)
      ∙ sum_same L _ _ A.transitions (λ t j. times-cond L (r p) (eqb t.from p) _ ∙ ap (λ y. cond (eqb t.from p) y R.zero) (times-cond L (r p) (eqb (letter_of t) x) _)))
      ∙ sum_swap L (λ p t. cond (eqb t.from p) (through t p) R.zero) (below A.states) A.transitions
      ∙ sum_same L _ (λ t. sum_over R (λ q. cond (eqb t.to q) (arrives t q) R.zero) (below A.states)) A.transitions (λ t j.
      picked (through t) t.from (G.from t j)
      ∙ ap (λ y. cond (eqb (letter_of t) x) y R.zero) (sym (L.times_assoc (r t.from) t.weight (g t.to)))
      ∙ sym (picked (arrives t) t.to (G.to t j)))
      ∙ sum_swap L (λ t q. cond (eqb t.to q) (arrives t q) R.zero) A.transitions (below A.states)
      ∙ sum_same L _ _ (below A.states) (λ q i.
      sum_same L _ (λ t. R.times (cond (eqb t.to q) (cond (eqb (letter_of t) x) (R.times (r t.from) t.weight) R.zero) R.zero) (g q)) A.transitions (λ t j.
      sym (cond-times L (eqb t.to q) _ (g q) ∙ ap (λ y. cond (eqb t.to q) y R.zero) (cond-times L (eqb (letter_of t) x) _ (g q))))
      ∙ sum-times_right L (g q) _ A.transitions)
    where
      r : ℕ → V
      r p = row R A (u ∷ []) p

      through : Transition V → ℕ → V
      through t p = cond (eqb (letter_of t) x) (R.times (r p) (R.times t.weight (g t.to))) R.zero

      arrives : Transition V → ℕ → V
      arrives t q = cond (eqb (letter_of t) x) (R.times (R.times (r t.from) t.weight) (g q)) R.zero

      picked : (f : ℕ → V) (a : ℕ) → a < A.states → sum_over R (λ p. cond (eqb a p) (f p) R.zero) (below A.states) ≡ f a
      picked f a l = sum_same L _ _ (below A.states) (λ p i. ap (λ b. cond b (f p) R.zero) (eqb_comm a p)) ∙ sum_pick_state L A 1 G.label f a l

  -- the coefficient of a word in two parts: the row of the first and the futures at the second
  pub coefficient_split : (u v : Tape) → sum_over R (λ t. R.times (row R A (u ∷ []) t) (future R A t (v ∷ []))) (below A.states) ≡ coefficient R A ((u ++ v) ∷ [])
  coefficient_split u [] =
      sum_same L _ _ (below A.states) (λ t i. ap (R.times (row R A (u ∷ []) t)) (future_empty L A G H t (state t i)))
      ∙ sym (coefficient-row L 1 A G (HasLetters-IsProper A H) (u ∷ []) refl)
      ∙ ap (λ w. coefficient R A (w ∷ [])) (sym (append-nil u))
    where
      state : (t : ℕ) → In t (below A.states) → t < A.states
      state t i = omega (arith, (In-up_from t 0 A.states i).1)
  coefficient_split u (x ∷ v) =
      sum_same L _ _ (below A.states) (λ t i. ap (R.times (row R A (u ∷ []) t)) (future_letter L A G H t x v (state t i)))
      ∙ row_crosses u x (λ t. future R A t (v ∷ []))
      ∙ sum_same L _ _ (below A.states) (λ t i. ap (λ y. R.times y (future R A t (v ∷ []))) (sym (row_letter L A G H u x t (state t i))))
      ∙ coefficient_split (u ++ x ∷ []) v
      ∙ ap (λ w. coefficient R A (w ∷ [])) (append_assoc u (x ∷ []) v)
    where
      state : (t : ℕ) → In t (below A.states) → t < A.states
      state t i = omega (arith, (In-up_from t 0 A.states i).1)
