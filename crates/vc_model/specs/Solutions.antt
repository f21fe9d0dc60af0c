-- The futures, at their own bounds, solve the equations of futures.
use Rattle.std.proofs.Common.{◌≡◌, ℕ, cond, eqb, sym, ap, ◌∙◌, ◌⊎◌, suc, ◌≤◌, ◌+◌, ◌*◌, arith}
use Rattle.std.proofs.Math.Nat.{mul-le-mul_right}
use Rattle.vc_model.specs.WeightSet.{WeightSet, SemiringLaws, Absorbs}
use Rattle.vc_model.specs.Words.{size, join, cut, is_empty}
use Rattle.vc_model.specs.Automata.{Automaton, IsAutomaton, final_weight, future, NoEmptyCircuit, IsSolution}
use Rattle.vc_model.specs.SumLaws.{sum_same}
use Rattle.vc_model.specs.WordLaws.{join-cut, size-join}
use Rattle.vc_model.specs.FirstSteps.{future_within-suc}
use Rattle.vc_model.specs.Bounds.{future_within-bounds}
use Rattle.vc_model.specs.Rests.{at_rest_same}

module _ {V : Type 0} {R : WeightSet V} (L : SemiringLaws R) (tapes : ℕ) (A : Automaton V) (G : IsAutomaton R tapes A) where
  pub future_solves : Absorbs R ⊎ NoEmptyCircuit tapes A → IsSolution R tapes A (future R A)
  future_solves s p w l e =
      let k = (size w + 1) * A.states in
      future_within-bounds L tapes A G k (suc k) p w e l s (omega arith) (omega arith)
      ∙ future_within-suc L A tapes G.label k p w e
      ∙ ap (R.plus (cond (is_empty w) (final_weight R A p) R.zero))
      (sum_same L _ _ A.transitions (λ t i. ap (λ x. cond (eqb t.from p) (R.times t.weight x) R.zero)
      (at_rest_same R.zero _ _ (cut t.label w) (λ v c.
      (let j = join-cut t.label w v c in
      let z : size (join t.label v) ≡ size t.label + size v = size-join t.label v (j.2 ∙ sym j.1) in
      let z' : size (join t.label v) ≡ size w = ap (λ y. size y) j.0 in
      future_within-bounds L tapes A G k ((size v + 1) * A.states) t.to v (j.1 ∙ e) (G.to t i) s (fewer (size v) (size w) A.states (omega arith)) (omega arith))))))
    where
      fewer : (a b n : ℕ) → a ≤ b → (a + 1) * n ≤ (b + 1) * n
      fewer a b n h = mul-le-mul_right n (omega arith)
