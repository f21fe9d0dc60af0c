-- What the lines of the canonical text give adds up to the automaton.
use Rattle.std.proofs.Common.{◌≡◌, ◌<◌, ◌+◌, ℕ, suc, Bool, true, false, cond, eqb, List, [], ◌∷◌, ◌++◌, map, filter, length, refl, ap, ap₂, sym, ◌∙◌, arith}
use Rattle.std.specs.Prelude.{◌==◌, if◌then◌else◌, slice_index_or}
use Rattle.std.specs.Fmt.{decimal}
use Rattle.std.specs.List.{flat_map}
use Rattle.std.proofs.lemmas.Bool.{eqb-true, eq-eqb}
use Rattle.vc_model.specs.Automata.{Automaton, Transition, initial_weight, final_weight}
use Rattle.vc_model.specs.Lists.{In, below, up_from, IsEqualityTest}
use Rattle.vc_model.specs.Sums.{sum_over}
use Rattle.vc_model.specs.WeightSet.{WeightSet, SemiringLaws}
use Rattle.vc_model.specs.Choices.{cond_zero}
use Rattle.vc_model.specs.Keys.{sum_pick, sum_by_key}
use Rattle.vc_model.specs.Members.{In-up_from, up_from-In, NoRepeat-up_from}
use Rattle.vc_model.specs.Rearranged.{zero_plus}
use Rattle.vc_model.specs.SumLaws.{sum-append, sum-map, sum-flat_map, sum-filter, sum_same, sum_zero}
use Rattle.vc_daut.specs.Canonical.{TextLine, begins_line, moves_line, ends_line, to_state, initial_line, final_line, transition_lines, lone_line, state_lines, automaton_lines}
use Rattle.vc_reader.specs.Meaning.{Given, moves_by, beginning, ending}
use Rattle.vc_daut.proofs.CanonicalLines.{from_state, initial_only, final_only, lone_only, moves_only}
use Rattle.vc_daut.proofs.ReadBack.{text_given}

-- ---- lists and sums by numbers

-- a list is what stands at its places
listed_from : {X : Type 0} (f : ℕ → X) (xs : List X) (d : X) (s : ℕ) → ((k : ℕ) → k < length xs → f (s + k) ≡ slice_index_or xs k d) → xs ≡ map f (up_from s (length xs))
listed_from f [] d s h = refl
listed_from f (x ∷ xs) d s h =
    ap₂ ◌∷◌ (sym (ap f {x = s} {y = s + 0} (omega arith) ∙ h 0 (omega arith)))
    (listed_from f xs d (suc s) (λ k l. ap f {x = suc s + k} {y = s + suc k} (omega arith) ∙ h (suc k) (omega arith)))

pub listed_at : {X : Type 0} (f : ℕ → X) (xs : List X) (d : X) (n : ℕ) → length xs ≡ n → ((k : ℕ) → k < n → f k ≡ slice_index_or xs k d) → xs ≡ map f (below n)
listed_at f xs d n e h =
    listed_from f xs d 0 (λ k l. ap f {x = 0 + k} {y = k} (omega arith) ∙ h k (omega (arith, e))) ∙ ap (λ m. map f (below m)) e

-- the sum over what a line gives
abbrev pub line_sum : {V : Type 0} → WeightSet V → (List ℕ → ℕ) → (Given V → V) → TextLine V → V
line_sum R number f l = sum_over R f (text_given number l)

module _ {V : Type 0} {R : WeightSet V} (L : SemiringLaws R) where
  -- a sum in groups by numbers below n
  pub grouped : {X : Type 0} (key : X → ℕ) (f : X → V) (xs : List X) (n : ℕ) → ((x : X) → In x xs → key x < n) → sum_over R (λ q. sum_over R f (filter (λ x. key x == q) xs)) (below n) ≡ sum_over R f xs
  grouped key f xs n h =
      sum_same L _ _ (below n) (λ q i. sum-filter L f (λ x. key x == q) xs)
      ∙ sym (sum_by_key L eqb eqb-true (λ k. eq-eqb k k refl) key f xs (below n) (NoRepeat-up_from 0 n) (λ x i. let b = h x i in up_from-In (key x) 0 n (omega arith) (omega arith)))

  -- the sum of zeros but for one number
  one_number : (f g : ℕ → V) (p n : ℕ) → p < n → ((q : ℕ) → q < n → f q ≡ cond (eqb q p) (g q) R.zero) → sum_over R f (below n) ≡ g p
  one_number f g p n h e =
      sum_same L f (λ q. cond (eqb q p) (g q) R.zero) (below n) (λ q i. let b = In-up_from q 0 n i in e q (omega (arith, b.1)))
      ∙ sum_pick L g p (below n) (NoRepeat-up_from 0 n) (up_from-In p 0 n (omega arith) (omega arith))

  -- a line that is written where its weight is not zero
  written : {X : Type 0} (F : X → V) (b c : Bool) (l : X) (w : V) → (b ≡ true → w ≡ R.zero) → F l ≡ cond c w R.zero → sum_over R F (if b then [] else l ∷ []) ≡ cond c w R.zero
  written F true c l w z e = sym (cond_zero R.zero c w (z refl))
  written F false c l w z e = L.plus_zero (F l) ∙ e

  module _ (same : V → V → Bool) (T : IsEqualityTest same) (a : Automaton V) (number : List ℕ → ℕ) where
    lone_nothing : (f : Given V → V) (p : ℕ) → sum_over R (line_sum R number f) (lone_line R same a p) ≡ R.zero
    lone_nothing f p = sum_zero L (line_sum R number f) (lone_line R same a p) (λ l i. ap (line_sum R number f) (lone_only R same a p l i))

    -- the sum over what all lines give
    pub all_sums : (f : Given V → V) → sum_over R f (flat_map (text_given number) (automaton_lines R same a))
        ≡ R.plus (sum_over R (λ p. sum_over R (line_sum R number f) (initial_line R same a p)) (below a.states)) (sum_over R (λ p. R.plus (sum_over R (line_sum R number f) (transition_lines R same a p)) (sum_over R (line_sum R number f) (final_line R same a p))) (below a.states))
    all_sums f =
        sum-flat_map L f (text_given number) (automaton_lines R same a)
        ∙ sum-append L (line_sum R number f) (flat_map (initial_line R same a) (below a.states)) (flat_map (state_lines R same a) (below a.states))
        ∙ ap₂ R.plus (sum-flat_map L (line_sum R number f) (initial_line R same a) (below a.states))
        (sum-flat_map L (line_sum R number f) (state_lines R same a) (below a.states)
        ∙ sum_same L _ _ (below a.states) (λ p i.
        sum-append L (line_sum R number f) (transition_lines R same a p) (final_line R same a p ++ lone_line R same a p)
        ∙ ap (R.plus (sum_over R (line_sum R number f) (transition_lines R same a p)))
        (sum-append L (line_sum R number f) (final_line R same a p) (lone_line R same a p) ∙ ap (R.plus (sum_over R (line_sum R number f) (final_line R same a p))) (lone_nothing f p) ∙ L.plus_zero (sum_over R (line_sum R number f) (final_line R same a p)))))

    -- ---- initial and final weights

    moves_begin : (p q r : ℕ) (ts : List (Transition V)) → line_sum R number (beginning R p) (moves_line q r ts) ≡ R.zero
    moves_begin p q r ts =
        sum-map L (beginning R p) (λ t. moves_by (record t { from = number (decimal q); to = number (decimal r) })) ts ∙ sum_zero L _ ts (λ t i. refl)

    moves_end : (p q r : ℕ) (ts : List (Transition V)) → line_sum R number (ending R p) (moves_line q r ts) ≡ R.zero
    moves_end p q r ts =
        sum-map L (ending R p) (λ t. moves_by (record t { from = number (decimal q); to = number (decimal r) })) ts ∙ sum_zero L _ ts (λ t i. refl)

    begins_once : (p q : ℕ) (w : V) → number (decimal q) ≡ q → line_sum R number (beginning R p) (begins_line q w) ≡ cond (eqb q p) w R.zero
    begins_once p q w e = L.plus_zero _ ∙ ap (λ m. cond (eqb m p) w R.zero) e

    ends_once : (p q : ℕ) (w : V) → number (decimal q) ≡ q → line_sum R number (ending R p) (ends_line q w) ≡ cond (eqb q p) w R.zero
    ends_once p q w e = L.plus_zero _ ∙ ap (λ m. cond (eqb m p) w R.zero) e

    module _ (numbers : (p : ℕ) → p < a.states → number (decimal p) ≡ p) where
      pub initial_sum : (p : ℕ) → p < a.states → sum_over R (beginning R p) (flat_map (text_given number) (automaton_lines R same a)) ≡ initial_weight R a p
      initial_sum p h =
          all_sums (beginning R p)
          ∙ ap₂ R.plus
          (one_number (λ q. sum_over R (line_sum R number (beginning R p)) (initial_line R same a q)) (initial_weight R a) p a.states h (λ q l.
          written (line_sum R number (beginning R p)) (same (initial_weight R a q) R.zero) (eqb q p) (begins_line q (initial_weight R a q)) (initial_weight R a q) (λ e. (T (initial_weight R a q) R.zero).0 e) (begins_once p q (initial_weight R a q) (numbers q l))))
          (sum_zero L _ (below a.states) (λ q i.
          ap₂ R.plus
          (sum_zero L (line_sum R number (beginning R p)) (transition_lines R same a q) (λ l j. let m = moves_only a.states q (from_state a q) l j in ap (line_sum R number (beginning R p)) m.is ∙ moves_begin p q m.target (to_state m.target (from_state a q))))
          (sum_zero L (line_sum R number (beginning R p)) (final_line R same a q) (λ l j. ap (line_sum R number (beginning R p)) (final_only R same a q l j) ∙ L.plus_zero R.zero))
          ∙ L.plus_zero R.zero))
          ∙ L.plus_zero (initial_weight R a p)

      pub final_sum : (p : ℕ) → p < a.states → sum_over R (ending R p) (flat_map (text_given number) (automaton_lines R same a)) ≡ final_weight R a p
      final_sum p h =
          all_sums (ending R p)
          ∙ ap₂ R.plus
          (sum_zero L _ (below a.states) (λ q i.
          sum_zero L (line_sum R number (ending R p)) (initial_line R same a q) (λ l j. ap (line_sum R number (ending R p)) (initial_only R same a q l j) ∙ L.plus_zero R.zero)))
          (one_number (λ q. R.plus (sum_over R (line_sum R number (ending R p)) (transition_lines R same a q)) (sum_over R (line_sum R number (ending R p)) (final_line R same a q))) (final_weight R a) p a.states h (λ q l.
          ap₂ R.plus
          (sum_zero L (line_sum R number (ending R p)) (transition_lines R same a q) (λ k j. let m = moves_only a.states q (from_state a q) k j in ap (line_sum R number (ending R p)) m.is ∙ moves_end p q m.target (to_state m.target (from_state a q))))
          (written (line_sum R number (ending R p)) (same (final_weight R a q) R.zero) (eqb q p) (ends_line q (final_weight R a q)) (final_weight R a q) (λ e. (T (final_weight R a q) R.zero).0 e) (ends_once p q (final_weight R a q) (numbers q l)))
          ∙ zero_plus L _))
          ∙ zero_plus L (final_weight R a p)
