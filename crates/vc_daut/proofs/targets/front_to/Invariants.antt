use Rattle.std.proofs.Common.{◌≡◌, ◌+◌, drop}
use Rattle.std.specs.Prelude.{◌==◌}
use Rattle.std.specs.List.{prefix_len}
use Rattle.vc_daut.proofs.targets.front_to.Given as goal

abbrev pub invariant-loop-place : goal.invariant-loop-place
invariant-loop-place g l = prefix_len (λ b. b.now.to == l.target) l.entries ≡ l.place + prefix_len (λ b. b.now.to == l.target) (drop l.place l.entries)
