-- The series of a join, and of a composition: the join without its middle tape.
use Rattle.std.proofs.Common.{◌≡◌, ℕ, List, [], ◌∷◌, Bool, true, false, refl, sym, ap, ◌∙◌, inl, inr, ◌⊎◌, ◌<◌, ◌≤◌, ◌+◌, ◌*◌, arith}
use Rattle.vc_model.specs.WeightSet.{WeightSet, SemiringLaws, Absorbs}
use Rattle.vc_model.specs.Lists.{NoRepeat, below}
use Rattle.vc_model.specs.Words.{Tape, size, tapes_within}
use Rattle.vc_products.specs.Compositions.{IsComposition, composition_within}
use Rattle.vc_model.specs.Automata.{Automaton, IsAutomaton, IsSound, NoCircuitOn, initial_weight, future, coefficient}
use Rattle.vc_products.specs.Joins.{HasPairs, IsJoin}
use Rattle.vc_products.specs.Projections.{outer_tapes, HasMiddles, IsProjection}
use Rattle.vc_model.specs.Rearranged.{zero_times, times-times}
use Rattle.vc_model.specs.SumLaws.{sum_same, sum-times-sum}
use Rattle.vc_model.specs.Members.{In-up_from}
use Rattle.vc_model.specs.CircuitLaws.{NoCircuitOn-NoEmptyCircuit}
use Rattle.vc_products.proofs.JoinLaws.{join_future}
use Rattle.vc_products.proofs.JoinCircuits.{join_future_absorbing}
use Rattle.vc_products.proofs.ProjectionLaws.{projection_coefficient}

module _ {V : Type 0} {R : WeightSet V} (L : SemiringLaws R) (A B J : Automaton V) (a : IsAutomaton R 2 A) (b : IsAutomaton R 2 B) (j : IsAutomaton R 3 J) (hA : HasPairs 1 A) (hB : HasPairs 0 B) (nA : IsSound R 2 A) (nB : IsSound R 2 B)
    (left right : ℕ → ℕ) (flag : ℕ → Bool) (M : IsJoin R A B J left right flag) where
  -- from a state with flag 0 each pair of paths counts once
  pub joined_future : IsSound R 3 J → (i : ℕ) (u m v : Tape) → i < J.states → flag i ≡ false → future R J i (u ∷ m ∷ v ∷ []) ≡ R.times (future R A (left i) (u ∷ m ∷ [])) (future R B (right i) (m ∷ v ∷ []))
  joined_future (inl absorbing) i u m v l e = join_future_absorbing L absorbing A B J a b j (λ t k. (hA t k).0) (λ t k. (hB t k).0) (λ t k. (hA t k).1) (λ t k. (hB t k).1) left right flag M i u m v l e
  joined_future (inr N) i u m v l e = join_future L A B J a b j (λ t k. (hA t k).0) (λ t k. (hB t k).0) (λ t k. (hA t k).1) (λ t k. (hB t k).1) nA nB left right flag M N i u m v l e

  pub joined : IsSound R 3 J → (u m v : Tape) → coefficient R J (u ∷ m ∷ v ∷ []) ≡ R.times (coefficient R A (u ∷ m ∷ [])) (coefficient R B (m ∷ v ∷ []))
  joined s u m v =
      sum_same L _ _ (below J.states) (λ i k. begun i (omega (arith, (In-up_from i 0 J.states k).1)) (flag i) refl)
      ∙ M.initial (λ p q f. pair p q)
      ∙ sum_same L _ _ (below A.states) (λ p k. sum_same L _ _ (below B.states) (λ q n. times-times L (initial_weight R A p) (initial_weight R B q) (future R A p (u ∷ m ∷ [])) (future R B q (m ∷ v ∷ []))))
      ∙ sum-times-sum L (λ p. R.times (initial_weight R A p) (future R A p (u ∷ m ∷ []))) (λ q. R.times (initial_weight R B q) (future R B q (m ∷ v ∷ []))) (below A.states) (below B.states)
    where
      pair : ℕ → ℕ → V
      pair p q = R.times (future R A p (u ∷ m ∷ [])) (future R B q (m ∷ v ∷ []))

      begun : (i : ℕ) → i < J.states → (c : Bool) → flag i ≡ c → R.times (initial_weight R J i) (future R J i (u ∷ m ∷ v ∷ [])) ≡ R.times (initial_weight R J i) (pair (left i) (right i))
      begun i l false e = ap (R.times (initial_weight R J i)) (joined_future s i u m v l e)
      begun i l true e = ap (λ x. R.times x (future R J i (u ∷ m ∷ v ∷ []))) (M.starts i l e) ∙ zero_times L _ ∙ sym (ap (λ x. R.times x (pair (left i) (right i))) (M.starts i l e) ∙ zero_times L _)

  -- where no circuit of the join is empty on the outer tapes, or one absorbs each element
  pub composed_within : (F : Automaton V) → IsAutomaton R 2 F → IsProjection R J F → (alphabet : List ℕ) → NoRepeat alphabet → (W : ℕ) → HasMiddles alphabet W J → Absorbs R ⊎ NoCircuitOn 3 outer_tapes J
      → (u v : Tape) (n : ℕ) → (size (u ∷ v ∷ []) + 1) * J.states * W ≤ n → composition_within R alphabet (coefficient R A) (coefficient R B) n u v ≡ coefficient R F (u ∷ v ∷ [])
  composed_within F f P alphabet once W middles s u v n h =
      sum_same L _ _ (tapes_within alphabet n) (λ m i. sym (joined (sound s) u m v))
      ∙ sym (projection_coefficient L alphabet once J F j f P W middles s u v n h)
    where
      sound : Absorbs R ⊎ NoCircuitOn 3 outer_tapes J → IsSound R 3 J
      sound (inl absorbing) = inl absorbing
      sound (inr N) = inr (NoCircuitOn-NoEmptyCircuit 3 J j.label outer_tapes N)

  pub composed : (F : Automaton V) → IsAutomaton R 2 F → IsProjection R J F → (alphabet : List ℕ) → NoRepeat alphabet → (W : ℕ) → HasMiddles alphabet W J → Absorbs R ⊎ NoCircuitOn 3 outer_tapes J
      → (u v : Tape) → IsComposition R alphabet (coefficient R A) (coefficient R B) u v (coefficient R F (u ∷ v ∷ []))
  composed F f P alphabet once W middles s u v = record {
    bound = (size (u ∷ v ∷ []) + 1) * J.states * W;
    stays = composed_within F f P alphabet once W middles s u v;
  }
