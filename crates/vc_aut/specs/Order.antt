-- The order of transitions.
use Rattle.std.specs.Prelude.{ℕ, List, filter, ◌==◌}
use Rattle.std.specs.Ordering.{nat_cmp, ordering_then}
use Rattle.std.specs.List.Sorted.{IsStrictlySortedBy}
use Rattle.std.specs.declared.cmp.Ordering.{Ordering}
use Rattle.vc_label.specs.Order.{word_order}
use Rattle.vc_model.specs.Automata.{Transition}

-- by source, then by label, and then by target
abbrev pub triple_order : {V : Type 0} → Transition V → Transition V → Ordering
triple_order t u = ordering_then (ordering_then (nat_cmp t.from u.from) (word_order t.label u.label)) (nat_cmp t.to u.to)

-- each transition comes before those after it, so that no triple occurs twice
abbrev pub AreInOrder : {V : Type 0} → List (Transition V) → Type 0
AreInOrder ts = IsStrictlySortedBy triple_order ts

-- by label, and then by target
abbrev pub move_order : {V : Type 0} → Transition V → Transition V → Ordering
move_order t u = ordering_then (word_order t.label u.label) (nat_cmp t.to u.to)

-- those of the transitions that come from state s
abbrev pub moves_from : {V : Type 0} → List (Transition V) → ℕ → List (Transition V)
moves_from ts s = filter (λ t. t.from == s) ts
