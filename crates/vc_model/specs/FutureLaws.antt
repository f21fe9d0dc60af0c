-- Coefficients at every greater bound, and states that are not useful.
use Rattle.std.proofs.Common.{◌≡◌, ℕ, List, sym, ap, ◌∙◌, suc, ◌≤◌, ◌+◌, ◌*◌, ◌&&◌, eqb, arith, length}
use Rattle.std.proofs.lemmas.Bool.{eqb-true}
use Rattle.vc_model.specs.WeightSet.{WeightSet, SemiringLaws}
use Rattle.vc_model.specs.Lists.{below}
use Rattle.vc_model.specs.Words.{Word, size, same_word}
use Rattle.vc_model.specs.Automata.{Transition, Automaton, IsAutomaton, IsPath, IsSound, end_of, path_label, path_weight, paths, initial_weight, final_weight, future_within, coefficient, coefficient_within, row_within}
use Rattle.vc_model.specs.Rearranged.{zero_times}
use Rattle.vc_model.specs.SumLaws.{sum_same, sum_zero, sum-times}
use Rattle.vc_model.specs.Members.{In-up_from, In-filter_from}
use Rattle.vc_model.specs.WordLaws.{and_parts}
use Rattle.vc_model.specs.PathLaws.{paths-In}
use Rattle.vc_model.specs.Bounds.{future_within-sharp}

module _ {V : Type 0} {R : WeightSet V} (L : SemiringLaws R) where
  pub coefficient_stable : (tapes : ℕ) (A : Automaton V) → IsAutomaton R tapes A → IsSound R tapes A → (w : Word) → length w ≡ tapes → (k : ℕ) → (size w + 1) * A.states ≤ suc k → coefficient_within R A k w ≡ coefficient R A w
  coefficient_stable tapes A G s w e k h =
      sum_same L _ _ (below A.states) (λ p i. ap (R.times (initial_weight R A p)) (future_within-sharp L tapes A G k ((size w + 1) * A.states) p w e (omega (arith, (In-up_from p 0 A.states i).1)) s h (omega arith)))

  -- no path leads to a final weight other than zero
  pub future_within-dead : (A : Automaton V) (p : ℕ) → ((ts : List (Transition V)) → IsPath A p ts → final_weight R A (end_of p ts) ≡ R.zero) → (k : ℕ) (w : Word) → future_within R A k p w ≡ R.zero
  future_within-dead A p dead k w =
      sum_zero L _ _ (λ ts i. ap (R.times (path_weight R ts)) (dead ts (paths-In A k p ts (In-filter_from (λ ts. same_word (path_label (length w) ts) w) ts (paths A k p) i).0).0) ∙ L.times_zero _)

  -- no path leads here from an initial weight other than zero
  pub row_within-unreached : (A : Automaton V) (t : ℕ) → ((s : ℕ) (ts : List (Transition V)) → IsPath A s ts → end_of s ts ≡ t → initial_weight R A s ≡ R.zero) → (k : ℕ) (w : Word) → row_within R A k w t ≡ R.zero
  row_within-unreached A t unreached k w =
      sum_zero L _ (below A.states) (λ p i.
      sym (sum-times L (initial_weight R A p) (path_weight R) _)
      ∙ sum_zero L _ _ (λ ts j.
      let f = In-filter_from (λ ts. same_word (path_label (length w) ts) w && eqb (end_of p ts) t) ts (paths A k p) j in
      let ends = (and_parts (same_word (path_label (length w) ts) w) (eqb (end_of p ts) t) f.1).1 in
      ap (λ x. R.times x (path_weight R ts)) (unreached p ts (paths-In A k p ts f.0).0 (eqb-true (end_of p ts) t ends)) ∙ zero_times L _))
