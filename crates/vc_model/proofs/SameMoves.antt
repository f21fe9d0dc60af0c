-- Automata with the same states, weights and moves have the same futures, at each bound.
use Rattle.std.proofs.Common.{◌≡◌, ℕ, cond, eqb, sym, ap, ap₂, ◌∙◌, zero, suc, ◌<◌, ◌+◌, ◌*◌, arith, length}
use Rattle.vc_model.specs.WeightSet.{WeightSet, SemiringLaws}
use Rattle.vc_model.specs.Lists.{In, below}
use Rattle.vc_model.specs.Sums.{sum_over}
use Rattle.vc_model.specs.Words.{Word, is_empty, cut, size}
use Rattle.vc_model.specs.Automata.{Transition, Automaton, initial_weight, final_weight, future_within, coefficient, at_rest}
use Rattle.vc_model.specs.Moves.{moves_sum}
use Rattle.vc_model.specs.SumLaws.{sum_same}
use Rattle.vc_model.specs.Members.{In-up_from}
use Rattle.vc_model.specs.WordLaws.{join-cut}
use Rattle.vc_model.specs.FirstSteps.{future_within-suc, future_within-zero}
use Rattle.vc_model.specs.Rests.{at_rest_same}

module _ {V : Type 0} {R : WeightSet V} (L : SemiringLaws R) (tapes : ℕ) (A B : Automaton V) (labels : (t : Transition V) → In t A.transitions → length t.label ≡ tapes) (to : (t : Transition V) → In t A.transitions → t.to < A.states)
    (labels' : (t : Transition V) → In t B.transitions → length t.label ≡ tapes) (final : (p : ℕ) → p < A.states → final_weight R B p ≡ final_weight R A p)
    (steps : (p : ℕ) (h : Word → ℕ → V) → p < A.states → moves_sum R B p h ≡ moves_sum R A p h) where
  pub future_within-same : (k p : ℕ) (w : Word) → p < A.states → length w ≡ tapes → future_within R B k p w ≡ future_within R A k p w
  future_within-same zero p w l e =
      future_within-zero L B tapes labels' p w e ∙ ap (λ x. cond (is_empty w) x R.zero) (final p l) ∙ sym (future_within-zero L A tapes labels p w e)
  future_within-same (suc k) p w l e =
      future_within-suc L B tapes labels' k p w e
      ∙ ap₂ R.plus (ap (λ x. cond (is_empty w) x R.zero) (final p l))
      (steps p (λ a q. at_rest R.zero (future_within R B k q) (cut a w)) l
      ∙ sum_same L _ _ A.transitions (λ t i. ap (λ x. cond (eqb t.from p) (R.times t.weight x) R.zero)
      (at_rest_same R.zero _ _ (cut t.label w) (λ v c. future_within-same k t.to v (to t i) ((join-cut t.label w v c).1 ∙ e)))))
      ∙ sym (future_within-suc L A tapes labels k p w e)

  pub coefficient-same : B.states ≡ A.states → ((p : ℕ) → p < A.states → initial_weight R B p ≡ initial_weight R A p) → (w : Word) → length w ≡ tapes → coefficient R B w ≡ coefficient R A w
  coefficient-same states initial w e =
      ap (λ n. sum_over R (λ p. R.times (initial_weight R B p) (future_within R B ((size w + 1) * n) p w)) (below n)) states
      ∙ sum_same L _ _ (below A.states) (λ p i. let l : p < A.states = omega (arith, (In-up_from p 0 A.states i).1) in ap₂ R.times (initial p l) (future_within-same ((size w + 1) * A.states) p w l e))
