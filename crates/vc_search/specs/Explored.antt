-- Automata whose states stand for the members that are found from first ones.
use Rattle.std.specs.Prelude.{◌≡◌, ◌<◌, ◌≤◌, ◌⊎◌, ℕ, Bool, List, map, length, false}
use Rattle.std.specs.List.{flat_map}
use Rattle.vc_model.specs.Automata.{Automaton}
use Rattle.vc_model.specs.Gathered.{IsGathered}
use Rattle.vc_model.specs.Items.{Item, item_key}
use Rattle.vc_model.specs.Lists.{In, NoRepeat, below}
use Rattle.vc_model.specs.Machines.{steps_of}
use Rattle.vc_model.specs.Numbering.{IsNumbering, IsAccessible}
use Rattle.vc_model.specs.WeightSet.{WeightSet}
use Rattle.vc_model.specs.Words.{Word}
use Rattle.vc_ring.specs.Steps.{fits}
use Rattle.vc_ring.specs.declared.faults.MakeFault.{MakeFault}
use Rattle.vc_ring.specs.declared.faults.MakeFault.TheVariants.{Overflow as Unfit, Limit as PastLimit, Memory}
use Rattle.vc_ring.specs.declared.faults.Measure.TheVariants.{States, Transitions}
use Rattle.vc_ring.specs.declared.faults.Overflow.{Overflow}
use Rattle.vc_search.specs.Courses.{targets}

-- the members that a member leads to
abbrev pub next_by : {V K : Type 0} → (K → List (Item V K)) → K → List K
next_by items k = targets (items k)

-- more than n members are accessible from the first ones
pub record HasMoreThan {K : Type 0} (next : K → List K) (first : List K) (n : ℕ) : Type 0 where
  pub members : List K
  pub once : NoRepeat members
  pub accessible : (k : K) → In k members → IsAccessible next first k
  pub more : n < length members

-- the items of accessible members name more than n triples of a member, a label and a member
pub record NamesMoreThan {V K : Type 0} (items : K → List (Item V K)) (first : List K) (n : ℕ) : Type 0 where
  pub triples : List (K × (Word × K))
  pub once : NoRepeat triples
  pub accessible : (d : K × (Word × K)) → In d triples → IsAccessible (next_by items) first d.0
  pub named : (d : K × (Word × K)) → In d triples → In d.1 (map item_key (items d.0))
  pub more : n < length triples

-- a step of an accessible member that does not fit
pub record IsRefusedStep {V K : Type 0} (R : WeightSet V) (next : K → List K) (first : List K) (is_step : K → Overflow V → Type 0) (o : Overflow V) : Type 0 where
  pub member : K
  pub accessible : IsAccessible next first member
  pub step : is_step member o
  pub fails : fits R o ≡ false

-- the members are numbered, at most so many, and they have the property
pub record AreNumbered {K : Type 0} (same : K → K → Bool) (next : K → List K) (first : List K) (most : ℕ) (P : List K → Type 0) : Type 0 where
  pub members : List K
  pub numbering : IsNumbering same next first members
  pub few : length members ≤ most
  pub holds : P members

-- each state stands for the member with its number: it begins and ends with the member's weights, and the transitions are the items of the members, gathered
pub record IsExplored {V K : Type 0} (R : WeightSet V) (same : K → K → Bool) (past : K) (items : K → List (Item V K)) (initial last : K → V) (members : List K) (A : Automaton V) : Type 0 where
  pub states : A.states ≡ length members
  pub begins : A.initial ≡ map initial members
  pub ends : A.final ≡ map last members
  pub transitions : IsGathered R (flat_map (λ i. steps_of same items past members i) (below (length members))) A.transitions

-- why no automaton is made: a step of an accessible member does not fit, more members are accessible than there may be, or their items name more than 4,000,000 triples; want of memory is free
abbrev pub IsUnexplored : {V K : Type 0} → WeightSet V → (K → List (Item V K)) → List K → (K → Overflow V → Type 0) → ℕ → MakeFault V → Type 0
IsUnexplored R items first is_step most (Unfit o) = IsRefusedStep R (next_by items) first is_step o
IsUnexplored R items first is_step most (PastLimit l) =
    ((l ≡ record { what = States; most = most }) × HasMoreThan (next_by items) first most)
    ⊎ ((l ≡ record { what = Transitions; most = 4000000 }) × NamesMoreThan items first 4000000)
IsUnexplored R items first is_step most (Memory e) = Unit {0}
