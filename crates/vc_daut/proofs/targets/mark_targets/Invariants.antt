use Rattle.std.proofs.Common.{◌≡◌, ◌<◌, ℕ, take, map, length}
use Rattle.std.specs.Prelude.{◌==◌, ◌||◌, slice_index_or, false}
use Rattle.std.specs.List.{list_any}
use Rattle.vc_aut.specs.Stored.{transition_of}
use Rattle.vc_daut.proofs.targets.mark_targets.Given as goal

abbrev pub invariant-loop-entry : goal.invariant-loop-entry
invariant-loop-entry g l = record {
  marks : (q : ℕ) → q < length l.initial.marks → slice_index_or l.marks q false ≡ slice_index_or l.initial.marks q false || list_any (λ t. t.to == q) (map (transition_of g.L.LabelSet.parts) (take l.entry-index l.moves));
}
