-- Automata that are being built.
use Rattle.std.specs.Prelude.{◌≤◌, ℕ, ◌+◌, Bool, not, List, [], ◌∷◌, ◌++◌, length, slice_set, refl}
use Rattle.std.specs.Coded.{Coded, code_by, coded×, coded_ℕ, coded_list}
use Rattle.std.specs.List.{filter}
use Rattle.vc_label.specs.declared.tape_set.TapeSet.{TapeSet}
use Rattle.vc_model.specs.Automata.{Automaton, Transition, initial_weight, final_weight}
use Rattle.vc_model.specs.Codes.{automaton_code}
use Rattle.vc_model.specs.WeightSet.{WeightSet}
use Rattle.vc_aut.specs.Labelled.{Labelled}
use Rattle.vc_aut.specs.Sums.{insert_transition}
use Rattle.vc_aut.specs.Validity.{IsDrawn}

-- how many states there may be, the sets of the labels, and the automaton so far, in which sums of weights may be zero
pub record Draft (V : Type 0) : Type 0 where
  pub most : ℕ
  pub sets : List TapeSet
  pub automaton : Automaton V

-- the code of a draft, from the codes of a set and of a weight
abbrev pub draft_code : {V : Type 0} → Coded TapeSet → Coded V → Coded (Draft V)
draft_code {V} t c =
    code_by (ℕ × (List TapeSet × Automaton V))
    (coded× coded_ℕ (coded× (coded_list t) (automaton_code c)))
    (λ d. (d.most, (d.sets, d.automaton)))
    (λ p. record { most = p.0; sets = p.1.0; automaton = p.1.1 })
    (λ _. refl)

-- all that is true of each draft of the code
pub record IsDraft {V : Type 0} (R : WeightSet V) (d : Draft V) : Type 0 where
  pub drawn : IsDrawn R d.sets d.automaton
  pub most : d.most ≤ 1000000
  pub states : d.automaton.states ≤ d.most
  pub transitions : length d.automaton.transitions ≤ 4000000

-- no state and no transition
abbrev pub empty_draft : {V : Type 0} → ℕ → List TapeSet → Draft V
empty_draft most sets = record { most = most; sets = sets; automaton = record { states = 0; initial = []; final = []; transitions = [] } }

-- one more state, whose weights are zero
abbrev pub with_state : {V : Type 0} → WeightSet V → Draft V → Draft V
with_state R d = record d { automaton = record d.automaton { states = d.automaton.states + 1; initial = d.automaton.initial ++ R.zero ∷ []; final = d.automaton.final ++ R.zero ∷ [] } }

-- w is added to the initial weight of state s
abbrev pub with_initial : {V : Type 0} → WeightSet V → Draft V → ℕ → V → Draft V
with_initial R d s w = record d { automaton = record d.automaton { initial = slice_set d.automaton.initial s (R.plus (initial_weight R d.automaton s) w) } }

-- w is added to the final weight of state s
abbrev pub with_final : {V : Type 0} → WeightSet V → Draft V → ℕ → V → Draft V
with_final R d s w = record d { automaton = record d.automaton { final = slice_set d.automaton.final s (R.plus (final_weight R d.automaton s) w) } }

-- the weight of t is added at its triple
abbrev pub with_transition : {V : Type 0} → WeightSet V → Draft V → Transition V → Draft V
with_transition R d t = record d { automaton = record d.automaton { transitions = insert_transition R d.automaton.transitions t } }

-- the transitions whose weight is not zero, by a test of equality of weights
abbrev pub without_zeros : {V : Type 0} → WeightSet V → (V → V → Bool) → List (Transition V) → List (Transition V)
without_zeros R same ts = filter (λ t. not (same t.weight R.zero)) ts

-- the automaton that the draft has become, without transitions of weight zero
abbrev pub finished : {V : Type 0} → WeightSet V → (V → V → Bool) → Draft V → Labelled V
finished R same d = record { sets = d.sets; automaton = record d.automaton { transitions = without_zeros R same d.automaton.transitions } }
