-- An automaton without empty labels is its own.
use Rattle.std.proofs.Common.{◌≡◌, ℕ, ◌<◌, List, [], ◌∷◌, Bool, true, false, not, ◌&&◌, cond, eqb, length, get_or, refl, sym, ap, ap₂, ◌∙◌, subst, arith, zero, suc, ◌-◌}
use Rattle.vc_aut.specs.Order.{AreInOrder}
use Rattle.vc_closure.specs.Closing.{IsClosing, all_brought, brought, closure, matrix, silent_weight, unit_entry}
use Rattle.std.specs.List.{flat_map}
use Rattle.vc_closure.proofs.Bringing.{brought_weight, here, share}
use Rattle.vc_closure.proofs.Closings.{less, pick, unit_acts}
use Rattle.vc_closure.proofs.EntrySteps.{turned}
use Rattle.vc_closure.proofs.TripleOrder.{before, before_once, ordered_ascends}
use Rattle.vc_model.specs.Automata.{Automaton, IsAutomaton, IsProper, Transition, final_weight}
use Rattle.vc_model.specs.Choices.{cond_zero}
use Rattle.vc_model.specs.Gathered.{IsGathered, same_triple, weight_at}
use Rattle.vc_model.specs.GatheredLaws.{gathered_alike}
use Rattle.vc_model.specs.Lists.{In, below}
use Rattle.vc_model.specs.Rearranged.{zero_times}
use Rattle.vc_model.specs.SumLaws.{sum-flat_map, sum_same, sum_swap, sum_zero}
use Rattle.vc_model.specs.Sums.{sum_over}
use Rattle.vc_model.specs.WeightSet.{WeightSet, SemiringLaws}
use Rattle.vc_model.specs.WordLaws.{size-is_empty}
use Rattle.vc_model.specs.Words.{Word, is_empty}

same_by_places : {X : Type 0} (xs ys : List X) (d : X) → length xs ≡ length ys → ((i : ℕ) → i < length xs → get_or xs i d ≡ get_or ys i d) → xs ≡ ys
same_by_places [] [] d e h = refl
same_by_places [] (y ∷ ys) d e h = absurd (omega (arith, e))
same_by_places (x ∷ xs) [] d e h = absurd (omega (arith, e))
same_by_places (x ∷ xs) (y ∷ ys) d e h = ap₂ (λ z zs. z ∷ zs) (h 0 (omega arith)) (same_by_places xs ys d (omega (arith, e)) (λ i l. h (suc i) (omega arith)))

module _ {V : Type 0} {R : WeightSet V} (L : SemiringLaws R) (tapes : ℕ) (A : Automaton V) (G : IsAutomaton R tapes A) (N : IsProper A) where
  full : (t : Transition V) → In t A.transitions → is_empty t.label ≡ false
  full t i = go (is_empty t.label) refl
    where
      go : (b : Bool) → is_empty t.label ≡ b → b ≡ false
      go true e = absurd (N t i (size-is_empty t.label e))
      go false e = refl

  silent_zero : (i j : ℕ) → silent_weight R A i j ≡ R.zero
  silent_zero i j = sum_zero L _ A.transitions (λ t m. ap (λ b. cond (eqb t.from i) (cond b (cond (eqb j t.to) t.weight R.zero) R.zero) R.zero) (full t m) ∙ cond_zero R.zero (eqb t.from i) R.zero refl)

  -- each matrix is the unit matrix
  unit_matrix : (m i t : ℕ) → matrix R A m i t ≡ unit_entry R i t
  unit_matrix zero i t = refl
  unit_matrix (suc m) i t = ap (R.plus (unit_entry R i t)) (sum_zero L _ (below A.states) (λ j k. ap (λ x. R.times x (matrix R A m j t)) (silent_zero i j) ∙ zero_times L (matrix R A m j t))) ∙ L.plus_zero (unit_entry R i t)

  acts_as_one : (i : ℕ) (g : ℕ → V) → i < A.states → sum_over R (λ j. R.times (closure R A i j) (g j)) (below A.states) ≡ g i
  acts_as_one i g l = sum_same L _ _ (below A.states) (λ j m. ap (λ x. R.times x (g j)) (unit_matrix (A.states - 1) i j)) ∙ unit_acts L A.states i g l

  own_weight : (d : ℕ × Word × ℕ) → weight_at R (all_brought R A (closure R A)) d ≡ weight_at R A.transitions d
  own_weight d =
      sum-flat_map L (here L A d) (λ i. flat_map (brought R A (closure R A) i) (below A.states)) (below A.states)
      ∙ sum_same L _ (λ i. share L A d i i) (below A.states) (λ i m.
      sum-flat_map L (here L A d) (brought R A (closure R A) i) (below A.states)
      ∙ sum_same L _ _ (below A.states) (λ j k. brought_weight L A d (closure R A) i j)
      ∙ acts_as_one i (share L A d i) (less i A.states m))
      ∙ sum_swap L (λ i (t : Transition V). cond (eqb t.from i && not (is_empty t.label)) (cond (same_triple (i, t.label, t.to) d) t.weight R.zero) R.zero) (below A.states) A.transitions
      ∙ sum_same L _ _ A.transitions (λ t m.
      sum_same L _ (λ i. cond (eqb i t.from) (cond (same_triple (i, t.label, t.to) d) t.weight R.zero) R.zero) (below A.states) (λ i k. ap (λ b. cond (eqb t.from i && not b) (cond (same_triple (i, t.label, t.to) d) t.weight R.zero) R.zero) (full t m) ∙ plain i (eqb t.from i) t (turned t.from i))
      ∙ pick L A.states t.from (λ i. cond (same_triple (i, t.label, t.to) d) t.weight R.zero) (G.from t m))
    where
      plain : (i : ℕ) (b : Bool) (t : Transition V) → b ≡ eqb i t.from → cond (b && true) (cond (same_triple (i, t.label, t.to) d) t.weight R.zero) R.zero ≡ cond (eqb i t.from) (cond (same_triple (i, t.label, t.to) d) t.weight R.zero) R.zero
      plain i true t e = ap (λ b. cond b (cond (same_triple (i, t.label, t.to) d) t.weight R.zero) R.zero) e
      plain i false t e = ap (λ b. cond b (cond (same_triple (i, t.label, t.to) d) t.weight R.zero) R.zero) e

  pub own_closing : IsClosing R A A (closure R A)
  own_closing =
      record {
        states = refl;
        initial = refl;
        final = λ i l. sym (acts_as_one i (final_weight R A) l);
        transitions = record { triples = G.triples; weight = G.weight; sums = λ d. sym (own_weight d) };
      }

  pub unchanged : (P : Automaton V) → IsAutomaton R tapes P → AreInOrder A.transitions → AreInOrder P.transitions → IsClosing R A P (closure R A) → P ≡ A
  unchanged P H a p C =
      let own : IsGathered R A.transitions A.transitions = record { triples = G.triples; weight = G.weight; sums = λ d. refl } in
      let moves : P.transitions ≡ A.transitions = gathered_alike L before before_once (all_brought R A (closure R A)) A.transitions P.transitions A.transitions C.transitions own own_weight (ordered_ascends P.transitions p) (ordered_ascends A.transitions a) in
      let finals : P.final ≡ A.final = same_by_places P.final A.final R.zero (H.final ∙ C.states ∙ sym G.final) (λ i l.
      let k : i < A.states = subst (λ n. i < n) (H.final ∙ C.states) l in
      C.final i k ∙ acts_as_one i (final_weight R A) k) in
      let first : P ≡ record { states = A.states; initial = A.initial; final = P.final; transitions = P.transitions } = ap₂ (λ (n : ℕ) (ws : List V). record P { states = n; initial = ws }) C.states C.initial in
      first ∙ ap₂ (λ (ws : List V) (ts : List (Transition V)). record A { final = ws; transitions = ts }) finals moves
