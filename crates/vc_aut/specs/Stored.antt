-- What the fields of an automaton stand for.
use Rattle.std.specs.Prelude.{◌≡◌, ◌≢◌, nat_lt, ℕ, ◌<◌, ◌≤◌, ◌+◌, ◌-◌, All, List, length, filter, slice_index_or}
use Rattle.std.specs.declared.cmp.Ordering.TheVariants.{Less}
use Rattle.vc_aut.specs.declared.transition.Transition.{Transition as Stored}
use Rattle.vc_aut.specs.Order.{triple_order, AreInOrder}
use Rattle.vc_model.specs.Automata.{Automaton, Transition}
use Rattle.vc_model.specs.WeightSet.{WeightSet}
use Rattle.vc_model.specs.Words.{Word}

-- the transition that a stored one stands for, where the parts of a label are its word
abbrev pub transition_of : {L S B V : Type 0} → (B → Word) → Stored L S B V → Transition V
transition_of parts t = record { from = t.from; label = parts t.label; to = t.to; weight = t.weight }

-- the automaton with these weights of its states and these transitions
abbrev pub automaton_of : {V : Type 0} → List V → List V → List (Transition V) → Automaton V
automaton_of initial final ts = record { states = length initial; initial = initial; final = final; transitions = ts }

-- how many of the transitions come from states below s
abbrev pub count_below : {V : Type 0} → List (Transition V) → ℕ → ℕ
count_below ts s = length (filter (λ t. nat_lt t.from s) ts)

-- at each place s there stands how many transitions come from states below s, for n states in all
pub record AreStarts {V : Type 0} (ts : List (Transition V)) (n : ℕ) (starts : List ℕ) : Type 0 where
  pub length : length starts ≡ n + 1
  pub place : (s d : ℕ) → s ≤ n → slice_index_or starts s d ≡ count_below ts s

-- the transition that an entry of a map by source, label and target stands for
abbrev pub entry_transition : {B V : Type 0} → (B → Word) → (ℕ × B × ℕ) × V → Transition V
entry_transition parts e = record { from = e.0.0; label = parts e.0.1; to = e.0.2; weight = e.1 }

-- of some items that stand for transitions, the one at a place has another weight than zero, and comes after the one before it
pub record GoesOn {X V : Type 0} (R : WeightSet V) (of : X → Transition V) (items : List X) (at : ℕ) : Type 0 where
  pub weight : (d : X) → (of (slice_index_or items at d)).weight ≢ R.zero
  pub order : (d : X) → 0 < at → triple_order (of (slice_index_or items (at - 1) d)) (of (slice_index_or items at d)) ≡ Less

-- transitions that are the sum of themselves, with their starts for n states
pub record AreSummed {V : Type 0} (R : WeightSet V) (ts : List (Transition V)) (n : ℕ) (places : List ℕ) : Type 0 where
  pub order : AreInOrder ts
  pub weights : All (λ t. t.weight ≢ R.zero) ts
  pub few : length ts ≤ 4000000
  pub starts : AreStarts ts n places
