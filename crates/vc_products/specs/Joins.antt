-- The join of two automata of two tapes on a middle tape, with a flag that orders the moves of one side alone.
use Rattle.std.specs.Prelude.{◌≡◌, ℕ, [], ◌∷◌, slice_index_or, Bool, true, false, not, ◌&&◌, ◌==◌, if◌then◌else◌, ◌<◌}
use Rattle.vc_model.specs.WeightSet.{WeightSet}
use Rattle.vc_model.specs.Lists.{In}
use Rattle.vc_model.specs.Sums.{sum_over}
use Rattle.vc_model.specs.Words.{Tape, Word, same_tape}
use Rattle.vc_model.specs.Automata.{Transition, Automaton, initial_weight, final_weight}
use Rattle.vc_model.specs.Moves.{initial_sum}
use Rattle.vc_products.specs.LetterProducts.{initial_pairs_sum}

-- the tape has no letter
abbrev pub is_nil : Tape → Bool
is_nil [] = true
is_nil (x ∷ a) = false

-- the tape has no letter or one
abbrev pub IsShort : Tape → Type 0
IsShort [] = Unit {0}
IsShort (x ∷ []) = Unit {0}
IsShort (x ∷ y ∷ a) = ⊥

-- the part of a transition's label on a tape
abbrev pub part : {V : Type 0} → Transition V → ℕ → Tape
part t i = slice_index_or t.label i []

-- each label has two parts, of which the middle one is short
abbrev pub HasPairs : {V : Type 0} → ℕ → Automaton V → Type 0
HasPairs {V} middle A = (t : Transition V) → In t A.transitions → (t.label ≡ part t 0 ∷ part t 1 ∷ []) × IsShort (part t middle)

-- state i of J stands for left i, right i and a flag: both move by the same middle letter, to flag 0; the first alone, from flag 0 and to it; the second alone, to flag 1; it begins with flag 0
pub record IsJoin {V : Type 0} (R : WeightSet V) (A B J : Automaton V) (left right : ℕ → ℕ) (flag : ℕ → Bool) : Type 0 where
  pub initial : (g : ℕ → ℕ → Bool → V) → initial_sum R J (λ i. g (left i) (right i) (flag i)) ≡ initial_pairs_sum R A B (λ p q. g p q false)
  pub starts : (i : ℕ) → i < J.states → flag i ≡ true → initial_weight R J i ≡ R.zero
  pub final : (i : ℕ) → i < J.states → final_weight R J i ≡ R.times (final_weight R A (left i)) (final_weight R B (right i))
  pub left_below : (i : ℕ) → i < J.states → left i < A.states
  pub right_below : (i : ℕ) → i < J.states → right i < B.states
  pub steps : (i : ℕ) (h : Word → ℕ → ℕ → Bool → V) → i < J.states
      → sum_over R (λ t. if t.from == i then R.times t.weight (h t.label (left t.to) (right t.to) (flag t.to)) else R.zero) J.transitions
      ≡ R.plus
      (R.plus
      (sum_over R (λ a. sum_over R (λ b. if a.from == left i then (if b.from == right i then (if not (is_nil (part a 1)) && same_tape (part a 1) (part b 0)
      then R.times (R.times a.weight b.weight) (h (part a 0 ∷ part a 1 ∷ part b 1 ∷ []) a.to b.to false) else R.zero) else R.zero) else R.zero) B.transitions) A.transitions)
      (if flag i then R.zero else sum_over R (λ a. if a.from == left i then (if is_nil (part a 1) then R.times a.weight (h (part a 0 ∷ [] ∷ [] ∷ []) a.to (right i) false) else R.zero) else R.zero) A.transitions))
      (sum_over R (λ b. if b.from == right i then (if is_nil (part b 0) then R.times b.weight (h ([] ∷ [] ∷ part b 1 ∷ []) (left i) b.to true) else R.zero) else R.zero) B.transitions)
