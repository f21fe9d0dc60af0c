-- The futures of a conjunction and of a shuffle.
use Rattle.std.proofs.Common.{◌≡◌, ℕ, [], ◌∷◌, map, true, false, sym, ap, ◌∙◌, ap₂, ◌<◌, length, List, Bool, arith}
use Rattle.vc_model.specs.WeightSet.{WeightSet, SemiringLaws}
use Rattle.vc_model.specs.Sums.{sum_over}
use Rattle.vc_model.specs.Words.{Tape, position_sets, letters_at, letters_off}
use Rattle.vc_model.specs.Automata.{Automaton, IsAutomaton, future, coefficient, initial_weight}
use Rattle.vc_model.specs.Letters.{HasLetters, step_sum}
use Rattle.vc_products.specs.LetterProducts.{IsConjunction, IsShuffle}
use Rattle.vc_model.specs.SumLaws.{sum-append, sum-map, sum_same, sum-times-sum, sum_swap, sum-times}
use Rattle.vc_model.specs.LetterSteps.{future_empty, future_letter, step_sum_same, step_sum-times, step_sum-times_right, step_sum-sum}
use Rattle.vc_model.specs.Lists.{below, In}
use Rattle.vc_model.specs.Members.{In-up_from}
use Rattle.vc_model.specs.Rearranged.{times-times}
use Rattle.vc_model.specs.Series.{both_series, shuffle_series}

module _ {V : Type 0} {R : WeightSet V} (L : SemiringLaws R) (A B P : Automaton V) (a : IsAutomaton R 1 A) (b : IsAutomaton R 1 B) (c : IsAutomaton R 1 P) (hA : HasLetters A) (hB : HasLetters B) (hP : HasLetters P) (left right : ℕ → ℕ) where
  pub conjunction_future : IsConjunction R A B P left right → (u : Tape) (i : ℕ) → i < P.states → future R P i (u ∷ []) ≡ R.times (future R A (left i) (u ∷ [])) (future R B (right i) (u ∷ []))
  conjunction_future C [] i l =
      future_empty L P c hP i l ∙ C.final i l ∙ ap₂ R.times (sym (future_empty L A a hA (left i) (C.left_below i l))) (sym (future_empty L B b hB (right i) (C.right_below i l)))
  conjunction_future C (x ∷ u) i l =
      future_letter L P c hP i x u l
      ∙ step_sum_same L P i x _ (λ j. R.times (future R A (left j) (u ∷ [])) (future R B (right j) (u ∷ []))) (λ t m. conjunction_future C u t.to (c.to t m))
      ∙ C.steps i x (λ p q. R.times (future R A p (u ∷ [])) (future R B q (u ∷ []))) l
      ∙ step_sum_same L A (left i) x _ _ (λ t m. step_sum-times L B (right i) x (future R A t.to (u ∷ [])) (λ q. future R B q (u ∷ [])))
      ∙ step_sum-times_right L A (left i) x (step_sum R B (right i) x (λ q. future R B q (u ∷ []))) (λ p. future R A p (u ∷ []))
      ∙ ap₂ R.times (sym (future_letter L A a hA (left i) x u (C.left_below i l))) (sym (future_letter L B b hB (right i) x u (C.right_below i l)))

  -- the sum over the position sets of a tape
  abbrev pub shuffled : Tape → ℕ → ℕ → V
  shuffled u p q = sum_over R (λ I. R.times (future R A p (letters_at I u ∷ [])) (future R B q (letters_off I u ∷ []))) (position_sets (length u))

  pub shuffle_future : IsShuffle R A B P left right → (u : Tape) (i : ℕ) → i < P.states → future R P i (u ∷ []) ≡ shuffled u (left i) (right i)
  shuffle_future C [] i l =
      future_empty L P c hP i l ∙ C.final i l ∙ ap₂ R.times (sym (future_empty L A a hA (left i) (C.left_below i l))) (sym (future_empty L B b hB (right i) (C.right_below i l)))
      ∙ sym (L.plus_zero _)
  shuffle_future C (x ∷ u) i l =
      let n = length u in
      future_letter L P c hP i x u l
      ∙ step_sum_same L P i x _ (λ j. shuffled u (left j) (right j)) (λ t m. shuffle_future C u t.to (c.to t m))
      ∙ C.steps i x (shuffled u) l
      ∙ ap₂ R.plus
      (step_sum-sum L A (left i) x (λ I p. R.times (future R A p (letters_at I u ∷ [])) (future R B (right i) (letters_off I u ∷ []))) (position_sets n)
      ∙ sum_same L _ _ (position_sets n) (λ I m.
      step_sum-times_right L A (left i) x (future R B (right i) (letters_off I u ∷ [])) (λ p. future R A p (letters_at I u ∷ []))
      ∙ ap (λ y. R.times y (future R B (right i) (letters_off I u ∷ []))) (sym (future_letter L A a hA (left i) x (letters_at I u) (C.left_below i l))))
      ∙ sym (sum-map L (λ I. R.times (future R A (left i) (letters_at I (x ∷ u) ∷ [])) (future R B (right i) (letters_off I (x ∷ u) ∷ []))) (λ I. true ∷ I) (position_sets n)))
      (step_sum-sum L B (right i) x (λ I q. R.times (future R A (left i) (letters_at I u ∷ [])) (future R B q (letters_off I u ∷ []))) (position_sets n)
      ∙ sum_same L _ _ (position_sets n) (λ I m.
      step_sum-times L B (right i) x (future R A (left i) (letters_at I u ∷ [])) (λ q. future R B q (letters_off I u ∷ []))
      ∙ ap (R.times (future R A (left i) (letters_at I u ∷ []))) (sym (future_letter L B b hB (right i) x (letters_off I u) (C.right_below i l))))
      ∙ sym (sum-map L (λ I. R.times (future R A (left i) (letters_at I (x ∷ u) ∷ [])) (future R B (right i) (letters_off I (x ∷ u) ∷ []))) (λ I. false ∷ I) (position_sets n)))
      ∙ sym (sum-append L (λ I. R.times (future R A (left i) (letters_at I (x ∷ u) ∷ [])) (future R B (right i) (letters_off I (x ∷ u) ∷ []))) (map (λ I. true ∷ I) (position_sets n)) (map (λ I. false ∷ I) (position_sets n)))

  state : (Q : Automaton V) (i : ℕ) → In i (below Q.states) → i < Q.states
  state Q i j = omega (arith, (In-up_from i 0 Q.states j).1)

  pub conjunction_coefficient : IsConjunction R A B P left right → (u : Tape) → coefficient R P (u ∷ []) ≡ both_series R (coefficient R A) (coefficient R B) (u ∷ [])
  conjunction_coefficient C u =
      sum_same L _ _ (below P.states) (λ i j. ap (R.times (initial_weight R P i)) (conjunction_future C u i (state P i j)))
      ∙ C.initial (λ p q. R.times (future R A p (u ∷ [])) (future R B q (u ∷ [])))
      ∙ sum_same L _ _ (below A.states) (λ p j. sum_same L _ _ (below B.states) (λ q k. times-times L (initial_weight R A p) (initial_weight R B q) (future R A p (u ∷ [])) (future R B q (u ∷ []))))
      ∙ sum-times-sum L (λ p. R.times (initial_weight R A p) (future R A p (u ∷ []))) (λ q. R.times (initial_weight R B q) (future R B q (u ∷ []))) (below A.states) (below B.states)

  pub shuffle_coefficient : IsShuffle R A B P left right → (u : Tape) → coefficient R P (u ∷ []) ≡ shuffle_series R (coefficient R A) (coefficient R B) (u ∷ [])
  shuffle_coefficient C u =
      sum_same L _ _ (below P.states) (λ i j. ap (R.times (initial_weight R P i)) (shuffle_future C u i (state P i j)))
      ∙ C.initial (shuffled u)
      ∙ sum_same L _ (λ p. sum_over R (λ I. sum_over R (λ q. R.times (first p I) (second q I)) (below B.states)) (position_sets (length u))) (below A.states) (λ p j.
      sum_same L _ (λ q. sum_over R (λ I. R.times (first p I) (second q I)) (position_sets (length u))) (below B.states) (λ q k.
      sym (sum-times L (R.times (initial_weight R A p) (initial_weight R B q)) _ (position_sets (length u)))
      ∙ sum_same L _ _ (position_sets (length u)) (λ I m. times-times L (initial_weight R A p) (initial_weight R B q) (future R A p (letters_at I u ∷ [])) (future R B q (letters_off I u ∷ []))))
      ∙ sum_swap L (λ q I. R.times (first p I) (second q I)) (below B.states) (position_sets (length u)))
      ∙ sum_swap L (λ p I. sum_over R (λ q. R.times (first p I) (second q I)) (below B.states)) (below A.states) (position_sets (length u))
      ∙ sum_same L _ _ (position_sets (length u)) (λ I m. sum-times-sum L (λ p. first p I) (λ q. second q I) (below A.states) (below B.states))
    where
      first : ℕ → List Bool → V
      first p I = R.times (initial_weight R A p) (future R A p (letters_at I u ∷ []))

      second : ℕ → List Bool → V
      second q I = R.times (initial_weight R B q) (future R B q (letters_off I u ∷ []))
