-- An automaton trimmed to its useful states.
use Rattle.std.specs.Prelude.{◌≡◌, ◌↔◌, ℕ, List, length, map, slice_index_or, Bool, ◌&&◌, ◌==◌, ◌<◌}
use Rattle.std.specs.List.{filter}
use Rattle.vc_model.specs.WeightSet.{WeightSet}
use Rattle.vc_model.specs.Lists.{In, IsIncreasing}
use Rattle.vc_model.specs.Automata.{Transition, Automaton, IsUseful, initial_weight, final_weight}
use Rattle.vc_model.specs.Numbering.{is_among}
use Rattle.vc_model.specs.Machines.{place_in}

-- both ends of the transition are in the list
abbrev pub is_between : {V : Type 0} → List ℕ → Transition V → Bool
is_between kept t = is_among (λ a b. a == b) t.from kept && is_among (λ a b. a == b) t.to kept

-- the transition between the places of its ends in the list
abbrev pub placed : {V : Type 0} → List ℕ → Transition V → Transition V
placed kept t = record { from = place_in (λ a b. a == b) t.from kept; label = t.label; to = place_in (λ a b. a == b) t.to kept; weight = t.weight }

-- the states of T are the useful states of A, in their order, with their weights and the transitions between them
pub record IsTrim {V : Type 0} (R : WeightSet V) (A T : Automaton V) (kept : List ℕ) : Type 0 where
  pub useful : (p : ℕ) → In p kept ↔ ((p < A.states) × IsUseful R A p)
  pub order : IsIncreasing kept
  pub states : T.states ≡ length kept
  pub initial : (i : ℕ) → i < length kept → initial_weight R T i ≡ initial_weight R A (slice_index_or kept i 0)
  pub final : (i : ℕ) → i < length kept → final_weight R T i ≡ final_weight R A (slice_index_or kept i 0)
  pub transitions : T.transitions ≡ map (placed kept) (filter (is_between kept) A.transitions)
