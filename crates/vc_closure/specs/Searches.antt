-- A search along the transitions whose labels are empty on some tapes.
use Rattle.std.specs.Prelude.{◌≡◌, ◌<◌, ◌==◌, ℕ, ◌+◌, List, [], ◌∷◌, length, map, Bool, true, false, slice_index_or, slice_get, Some, if◌then◌else◌}
use Rattle.std.specs.List.{filter}
use Rattle.vc_closure.specs.declared.search.Step.{Step}
use Rattle.vc_model.specs.Automata.{Transition, Automaton}
use Rattle.vc_model.specs.Lists.{In, NoRepeat}
use Rattle.vc_model.specs.Words.{is_empty, on}

-- the label of the transition is empty on the tapes of K
abbrev pub is_silent : {V : Type 0} → List Bool → Transition V → Bool
is_silent K t = is_empty (on K t.label)

-- the state is marked
abbrev pub is_marked : List Bool → ℕ → Bool
is_marked marks q = slice_index_or marks q false

-- how many states are not marked
abbrev pub unmarked : List Bool → ℕ
unmarked [] = 0
unmarked (b ∷ marks) = (if b then 0 else 1) + unmarked marks

-- the transitions from a state, in order
abbrev pub moves_from : {V : Type 0} → Automaton V → ℕ → List (Transition V)
moves_from A s = filter (λ t. t.from == s) A.transitions

-- each of the first n transitions that is silent leads to a marked state
abbrev pub ArePassed : {V : Type 0} → List Bool → List Bool → List (Transition V) → ℕ → Type 0
ArePassed {V} K done ts n = (k : ℕ) (t : Transition V) → k < n → slice_get ts k ≡ Some t → is_silent K t ≡ true → is_marked done t.to ≡ true

-- the transition at place i is silent, and leads to a state that is not marked
pub record IsOpen {V : Type 0} (K done : List Bool) (ts : List (Transition V)) (i : ℕ) (t : Transition V) : Type 0 where
  pub at : slice_get ts i ≡ Some t
  pub silent : is_silent K t ≡ true
  pub open_ : is_marked done t.to ≡ false

-- each silent transition from the state leads to a member
abbrev pub LeadsInto : {V : Type 0} → Automaton V → List Bool → List ℕ → ℕ → Type 0
LeadsInto {V} A K members s = (t : Transition V) → In t A.transitions → t.from ≡ s → is_silent K t ≡ true → In t.to members

-- each silent transition from a state of the list leads to a state before it in the list, or to one of the first members
abbrev pub LeadBack : {V : Type 0} → Automaton V → List Bool → List ℕ → List ℕ → Type 0
LeadBack A K members [] = Unit {0}
LeadBack A K members (s ∷ ss) = LeadsInto A K members s × LeadBack A K (s ∷ members) ss

-- the list has the states of A, and silent transitions lead back in it
pub record IsOrder {V : Type 0} (A : Automaton V) (K : List Bool) (order : List ℕ) : Type 0 where
  pub back : LeadBack A K [] order
  pub all : (p : ℕ) → p < A.states → In p order
  pub inside : (p : ℕ) → In p order → p < A.states
  pub once : NoRepeat order

-- the transition that is taken at a step
abbrev pub IsTaken : {V : Type 0} → Automaton V → Step → Transition V → Type 0
IsTaken A s t = slice_get (moves_from A s.state) s.at ≡ Some t

-- the steps lead from p to q by silent transitions
abbrev pub IsWalk : {V : Type 0} → Automaton V → List Bool → ℕ → List Step → ℕ → Type 0
IsWalk A K p [] q = p ≡ q
IsWalk {V} A K p (s ∷ ss) q = (s.state ≡ p) × (t : Transition V) × IsTaken A s t × (is_silent K t ≡ true) × IsWalk A K t.to ss q

-- the transitions that are taken at the steps
abbrev pub AreTaken : {V : Type 0} → Automaton V → List Step → List (Transition V) → Type 0
AreTaken A [] [] = Unit {0}
AreTaken A [] (t ∷ ts) = ⊥
AreTaken A (s ∷ ss) [] = ⊥
AreTaken A (s ∷ ss) (t ∷ ts) = IsTaken A s t × AreTaken A ss ts

-- the states of the steps
abbrev pub states_of : List Step → List ℕ
states_of steps = map (λ s. s.state) steps

-- the transitions before the step were passed
abbrev pub ArePassedAlong : {V : Type 0} → Automaton V → List Bool → List Bool → List Step → Type 0
ArePassedAlong A K done [] = Unit {0}
ArePassedAlong A K done (s ∷ ss) = ArePassed K done (moves_from A s.state) s.at × ArePassedAlong A K done ss

-- which states the search has seen and left: what was left is in the order, and silent transitions lead back in it
pub record IsSearched {V : Type 0} (A : Automaton V) (K seen done : List Bool) (order : List ℕ) : Type 0 where
  pub seen_all : length seen ≡ A.states
  pub done_all : length done ≡ A.states
  pub left : (q : ℕ) → is_marked done q ≡ true → In q order
  pub known : (q : ℕ) → In q order → is_marked done q ≡ true
  pub seen_first : (q : ℕ) → is_marked done q ≡ true → is_marked seen q ≡ true
  pub once : NoRepeat order
  pub inside : (q : ℕ) → In q order → q < A.states
  pub back : LeadBack A K [] order

-- what was seen was left
abbrev pub AreLeft : List Bool → List Bool → Type 0
AreLeft seen done = (q : ℕ) → is_marked seen q ≡ true → is_marked done q ≡ true
