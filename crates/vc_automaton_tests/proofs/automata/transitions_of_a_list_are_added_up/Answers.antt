use Rattle.std.proofs.Common.{rules, ◌≡◌, ◌∷◌, [], refl, length, arith, true, false, Bool, List, All}
use Rattle.std.proofs.lemmas.List.Elements.{All-from_recursion, All-nil}
use Rattle.vc_label.specs.declared.tape_set.TapeSet.{TapeSet}
use Rattle.vc_label.specs.declared.tape_set.TapeKind.TheVariants.{Words}
use Rattle.vc_label.specs.Sets.{IsOverSets}
use Rattle.vc_model.specs.Automata.{Transition}
use Rattle.vc_model.specs.WeightSet.{WeightSet}
use Rattle.vc_aut.specs.Validity.{IsMove}
use Rattle.vc_automaton_tests.proofs.automata.transitions_of_a_list_are_added_up.Goals as goal

abbrev listed : List (Transition Bool)
listed = record { from = 1; label = [] ∷ []; to = 0; weight = true } ∷ record { from = 0; label = [] ∷ []; to = 1; weight = true } ∷ record { from = 0; label = [] ∷ []; to = 0; weight = false } ∷ record { from = 0; label = [] ∷ []; to = 1; weight = false } ∷ []

are_moves : (R : WeightSet Bool) → ((a : Bool) → R.in_range a ≡ true) → (s : TapeSet) → IsOverSets (s ∷ []) ([] ∷ []) → All (IsMove R (s ∷ []) 2) listed
are_moves R inside s label = All-from_recursion (IsMove R (s ∷ []) 2) listed (
  record { from = omega arith; to = omega arith; label = label; weight = inside true },
  (record { from = omega arith; to = omega arith; label = label; weight = inside true }, (record { from = omega arith; to = omega arith; label = label; weight = inside false }, (record { from = omega arith; to = omega arith; label = label; weight = inside false }, tt))),
)

pub from_transitions-requires-clause-moves : goal.from_transitions-requires-clause-moves
from_transitions-requires-clause-moves g c =
    let items : c.push-8.new.self.items ≡ record { from = 1; label = tt; to = 0; weight = true } ∷ record { from = 0; label = tt; to = 1; weight = true } ∷ record { from = 0; label = tt; to = 0; weight = false } ∷ record { from = 0; label = tt; to = 1; weight = false } ∷ [] = search rules in
    let two : length c.push-2.new.self.items ≡ 2 = search rules in
    rw (two, items) (are_moves _ (λ a. refl) (record { kind = Words; alphabet = c.new.result }) ((tt, All-nil _), tt))
