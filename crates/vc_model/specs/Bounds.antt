-- Every greater bound on the number of transitions gives the same future, and so does the bound that is one less.
use Rattle.std.proofs.Common.{◌≡◌, ℕ, Bool, true, List, sym, ap, ◌∙◌, ◌⊎◌, subst, suc, ◌<◌, ◌≤◌, ◌+◌, ◌*◌, arith, length, replicate}
use Rattle.std.specs.List.{filter}
use Rattle.vc_model.specs.WeightSet.{WeightSet, SemiringLaws, Absorbs}
use Rattle.vc_model.specs.Words.{Word, size, on, same_word}
use Rattle.vc_model.specs.Automata.{Transition, Automaton, IsAutomaton, triple, path_label, paths, future_within, NoEmptyCircuit, ArePaths}
use Rattle.vc_model.specs.Members.{In-filter, In-filter_from, NoRepeat-filter, NoRepeat-from_map}
use Rattle.vc_model.specs.WordLaws.{same_word-true, same_word_is}
use Rattle.vc_model.specs.PathLaws.{paths-In, In-paths, paths-NoRepeat, length-path_label}
use Rattle.vc_model.specs.PathLists.{sum-path_lists}
use Rattle.vc_model.specs.TapeSets.{on_all}

module _ {V : Type 0} {R : WeightSet V} (L : SemiringLaws R) (tapes : ℕ) (A : Automaton V) (G : IsAutomaton R tapes A) where
  paths_are : (k p : ℕ) (w : Word) → length w ≡ tapes → ArePaths A (replicate tapes true) w p k (filter (λ ts. same_word (path_label (length w) ts) w) (paths A k p))
  paths_are k p w e =
      let test : List (Transition V) → Bool = λ ts. same_word (path_label (length w) ts) w in
      record {
        once = NoRepeat-filter test (paths A k p) (paths-NoRepeat A (NoRepeat-from_map triple A.transitions G.triples) k p);
        path = λ ts i. (paths-In A k p ts (In-filter_from test ts (paths A k p) i).0).0;
        agrees = λ ts i. ap (on (replicate tapes true)) (same_word-true (path_label (length w) ts) w (In-filter_from test ts (paths A k p) i).1);
        all = λ ts h a l.
            let n : length (path_label (length w) ts) ≡ tapes = ap (λ m. length (path_label m ts)) e ∙ length-path_label A tapes G.label p ts h in
            In-filter test ts (paths A k p) (In-paths A k p ts h l) (same_word_is (path_label (length w) ts) w (sym (on_all tapes (path_label (length w) ts) n) ∙ a ∙ on_all tapes w e));
      }

  -- from one below the stated bound on
  pub future_within-sharp : (j k p : ℕ) (w : Word) → length w ≡ tapes → p < A.states → Absorbs R ⊎ NoEmptyCircuit tapes A → (size w + 1) * A.states ≤ suc j → (size w + 1) * A.states ≤ suc k → future_within R A j p w ≡ future_within R A k p w
  future_within-sharp j k p w e l s h g =
      sum-path_lists L A tapes (replicate tapes true) G.label G.to w e p l s j k (whole j h) (whole k g) _ _ (paths_are j p w e) (paths_are k p w e)
    where
      whole : (k : ℕ) → (size w + 1) * A.states ≤ suc k → (size (on (replicate tapes true) w) + 1) * A.states ≤ suc k
      whole k b = subst (λ v. (size v + 1) * A.states ≤ suc k) (sym (on_all tapes w e)) b

  pub future_within-bounds : (j k p : ℕ) (w : Word) → length w ≡ tapes → p < A.states → Absorbs R ⊎ NoEmptyCircuit tapes A → (size w + 1) * A.states ≤ j → (size w + 1) * A.states ≤ k → future_within R A j p w ≡ future_within R A k p w
  future_within-bounds j k p w e l s h g = future_within-sharp j k p w e l s (omega arith) (omega arith)
