-- Automata whose states stand for things with items.
use Rattle.std.specs.Prelude.{◌≡◌, ℕ, suc, List, [], ◌∷◌, length, map, slice_index_or, Bool, if◌then◌else◌, ◌<◌}
use Rattle.std.specs.List.{flat_map}
use Rattle.vc_model.specs.WeightSet.{WeightSet}
use Rattle.vc_model.specs.Lists.{In, below}
use Rattle.vc_model.specs.Words.{Word}
use Rattle.vc_model.specs.Automata.{Transition, Automaton, final_weight}
use Rattle.vc_model.specs.Moves.{moves_sum}
use Rattle.vc_model.specs.Items.{Item, taken}

-- the first place of a thing in a list, its length where it is not in it
abbrev pub place_in : {T : Type 0} → (T → T → Bool) → T → List T → ℕ
place_in same t [] = 0
place_in same t (u ∷ us) = if same u t then 0 else suc (place_in same t us)

-- state i of A stands for the thing state i: its final weight is the thing's, and its transitions bring what the thing's items bring, for every value of label and target
pub record StandsFor {V T : Type 0} (R : WeightSet V) (A : Automaton V) (state : ℕ → T) (final : T → V) (items : T → List (Item V T)) : Type 0 where
  pub ends : (i : ℕ) → i < A.states → final_weight R A i ≡ final (state i)
  pub steps : (i : ℕ) (h : Word → T → V) → i < A.states → moves_sum R A i (λ a j. h a (state j)) ≡ taken R h (items (state i))

-- the items of the thing at place i as transitions to places; d stands past the end of the list
abbrev pub steps_of : {V T : Type 0} → (T → T → Bool) → (T → List (Item V T)) → T → List T → ℕ → List (Transition V)
steps_of same items d ts i = map (λ e. record { from = i; label = e.label; to = place_in same e.to ts; weight = e.weight }) (items (slice_index_or ts i d))

-- one for the first thing, and zero for the others
abbrev pub initials : {V T : Type 0} → WeightSet V → List T → List V
initials R [] = []
initials R (t ∷ ts) = R.one ∷ map (λ u. R.zero) ts

-- the automaton whose states are the things of a list, of which the first alone is initial
abbrev pub machine : {V T : Type 0} → WeightSet V → (T → T → Bool) → (T → V) → (T → List (Item V T)) → T → List T → Automaton V
machine R same final items d ts = record {
  states = length ts;
  initial = initials R ts;
  final = map final ts;
  transitions = flat_map (λ i. steps_of same items d ts i) (below (length ts));
}

-- the items of each thing of the list lead to things of the list
abbrev pub LeadsInto : {V T : Type 0} → (T → List (Item V T)) → List T → Type 0
LeadsInto {V} {T} items ts = (t : T) → In t ts → (e : Item V T) → In e (items t) → In e.to ts
