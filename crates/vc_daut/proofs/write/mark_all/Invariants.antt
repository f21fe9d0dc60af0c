use Rattle.std.proofs.Common.{◌≡◌, ◌<◌, ◌==◌, ℕ, length}
use Rattle.std.specs.Prelude.{filter, nat_lt, slice_index_or, false}
use Rattle.std.specs.List.{list_any}
use Rattle.vc_daut.proofs.write.mark_all.Given as goal

abbrev pub invariant-loop-state : goal.invariant-loop-state
invariant-loop-state g l = record {
  length : length l.marks ≡ l.aut.automaton.states;
  marks : (q : ℕ) → q < l.aut.automaton.states → slice_index_or l.marks q false ≡ list_any (λ t. t.to == q) (filter (λ t. nat_lt t.from l.state) l.aut.automaton.transitions);
}
