-- The numbers of the states that are kept.
use Rattle.std.specs.Prelude.{◌≡◌, ◌↔◌, ◌<◌, ◌≤◌, ◌==◌, ◌&&◌, ℕ, List, length, filter, Bool, slice_index_or, Option, Some, None, if◌then◌else◌}
use Rattle.vc_model.specs.Lists.{In, IsIncreasing, below}
use Rattle.vc_model.specs.Automata.{Automaton, IsUseful}
use Rattle.vc_model.specs.WeightSet.{WeightSet}
use Rattle.vc_model.specs.Numbering.{is_among}
use Rattle.vc_model.specs.Machines.{place_in}
use Rattle.vc_aut.specs.Marks.{is_marked}

-- the place of a state in a list, where it is in it
abbrev pub place_among : List ℕ → ℕ → Option ℕ
place_among kept p = if is_among (λ a b. a == b) p kept then Some (place_in (λ a b. a == b) p kept) else None

-- the states that are marked in both lists, and for each state its place among them
pub record AreKept (reached useful : List Bool) (n : ℕ) (kept : List ℕ) (places : List (Option ℕ)) : Type 0 where
  pub are : kept ≡ filter (λ p. is_marked reached p && is_marked useful p) (below n)
  pub count : length places ≡ n
  pub place : (p : ℕ) → p < n → slice_index_or places p None ≡ place_among kept p

-- the useful states in order, and for each state its place among them
pub record AreUseful {V : Type 0} (R : WeightSet V) (A : Automaton V) (kept : List ℕ) (places : List (Option ℕ)) : Type 0 where
  pub useful : (p : ℕ) → In p kept ↔ ((p < A.states) × IsUseful R A p)
  pub order : IsIncreasing kept
  pub few : length kept ≤ A.states
  pub count : length places ≡ A.states
  pub place : (p : ℕ) → p < A.states → slice_index_or places p None ≡ place_among kept p
