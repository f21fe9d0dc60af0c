use Rattle.std.proofs.Common.{◌≡◌, ◌<◌, ℕ, true}
use Rattle.std.specs.Prelude.{◌↔◌}
use Rattle.vc_aut.specs.Marks.{is_marked}
use Rattle.vc_model.specs.Lists.{In}
use Rattle.vc_aut.proofs.links.marked.Given as goal

-- the marked states before this one were taken
abbrev pub invariant-loop-state : goal.invariant-loop-state
invariant-loop-state l = (q : ℕ) → ((q < l.state) × (is_marked l.marks q ≡ true)) ↔ In q l.states.items
