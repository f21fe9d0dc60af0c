-- What the transitions of a table bring.
use Rattle.std.proofs.Common.{◌≡◌, ℕ, List, map, cond, eqb, sym, ap, ◌∙◌, ◌<◌, arith}
use Rattle.std.specs.List.{flat_map}
use Rattle.vc_model.specs.WeightSet.{WeightSet, SemiringLaws}
use Rattle.vc_model.specs.Lists.{In, NoRepeat, below}
use Rattle.vc_model.specs.Sums.{sum_over}
use Rattle.vc_model.specs.Words.{Word}
use Rattle.vc_model.specs.Automata.{Transition, Automaton}
use Rattle.vc_model.specs.Moves.{moves_sum}
use Rattle.vc_model.specs.Letters.{letter_of, step_sum, letter_word, letter_in}
use Rattle.vc_linear.specs.Conjugates.{combined}
use Rattle.vc_model.specs.Gathered.{IsGathered}
use Rattle.vc_linear.specs.Tables.{table_transitions}
use Rattle.vc_model.specs.SumLaws.{sum-map, sum-flat_map, sum_same}
use Rattle.vc_model.specs.Members.{up_from-In, NoRepeat-up_from}
use Rattle.vc_model.specs.Choices.{cond-sum, times-cond}
use Rattle.vc_model.specs.Keys.{sum_pick}
use Rattle.vc_model.specs.Gathering.{gathered_steps}
use Rattle.vc_linear.proofs.ConjugateLaws.{combined-cond}

module _ {V : Type 0} {R : WeightSet V} (L : SemiringLaws R) where
  pub table_moves : (n : ℕ) (labels : List Word) (N : Word → ℕ → ℕ → V) (B : Automaton V) → IsGathered R (table_transitions n labels N) B.transitions → (i : ℕ) (h : Word → ℕ → V) → i < n
      → moves_sum R B i h ≡ sum_over R (λ a. combined R n (N a i) (h a)) labels
  table_moves n labels N B G i h l =
      gathered_steps L (table_transitions n labels N) B.transitions G.sums i h
      ∙ sum-flat_map L _ (λ k. all k) (below n)
      ∙ sum_same L _ (λ k. cond (eqb k i) (row k) R.zero) (below n) (λ k m.
      sum-flat_map L _ (λ a. each k a) labels
      ∙ sum_same L _ (λ a. cond (eqb k i) (combined R n (N a k) (h a)) R.zero) labels (λ a j. sum-map L _ _ (below n) ∙ cond-sum L (eqb k i) (λ q. R.times (N a k q) (h a q)) (below n))
      ∙ cond-sum L (eqb k i) (λ a. combined R n (N a k) (h a)) labels)
      ∙ sum_pick L row i (below n) (NoRepeat-up_from 0 n) (up_from-In i 0 n (omega arith) (omega arith))
    where
      each : ℕ → Word → List (Transition V)
      each k a = map (λ j. record { from = k; label = a; to = j; weight = N a k j }) (below n)

      all : ℕ → List (Transition V)
      all k = flat_map (λ a. map (λ j. record { from = k; label = a; to = j; weight = N a k j }) (below n)) labels

      row : ℕ → V
      row k = sum_over R (λ a. combined R n (N a k) (h a)) labels

  -- a step by a letter as a sum over moves
  pub step_by_moves : (A : Automaton V) (p x : ℕ) (g : ℕ → V) → step_sum R A p x g ≡ moves_sum R A p (λ a q. cond (eqb (letter_in a) x) (g q) R.zero)
  step_by_moves A p x g = sum_same L _ _ A.transitions (λ t i. ap (λ y. cond (eqb t.from p) y R.zero) (sym (times-cond L t.weight (eqb (letter_of t) x) (g t.to))))

  pub table_steps : (n : ℕ) (letters : List ℕ) (N : Word → ℕ → ℕ → V) (B : Automaton V) → NoRepeat letters → IsGathered R (table_transitions n (map letter_word letters) N) B.transitions → (i x : ℕ) (g : ℕ → V) → i < n → In x letters
      → step_sum R B i x g ≡ combined R n (N (letter_word x) i) g
  table_steps n letters N B once G i x g l m =
      step_by_moves B i x g
      ∙ table_moves n (map letter_word letters) N B G i (λ a q. cond (eqb (letter_in a) x) (g q) R.zero) l
      ∙ sum-map L (λ a. combined R n (N a i) (λ q. cond (eqb (letter_in a) x) (g q) R.zero)) letter_word letters
      ∙ sum_same L _ (λ y. cond (eqb y x) (combined R n (N (letter_word y) i) g) R.zero) letters (λ y j. sym (combined-cond L n (N (letter_word y) i) g (eqb y x)))
      ∙ sum_pick L (λ y. combined R n (N (letter_word y) i) g) x letters once m
