use Rattle.std.proofs.Common.{◌≡◌, ◌∷◌, ◌++◌, map, drop}
use Rattle.vc_exprio.specs.Making.{more_parts}
use Rattle.vc_exprio.specs.Views.{step_seen}
use Rattle.vc_exprio.specs.WordParts.{tapes_of}
use Rattle.vc_lex.specs.Parts.{tape_of}
use Rattle.vc_lex.specs.Views.{seen}
use Rattle.vc_exprio.proofs.labels.collect_parts.Given as goal

-- the parts that are there, and then those with which the steps that are left begin
abbrev pub invariant-loop-step : goal.invariant-loop-step
invariant-loop-step l = tapes_of l.parts.items ++ map tape_of (more_parts (map step_seen (drop l.step-index l.after))) ≡ map tape_of (seen l.first ∷ more_parts (map step_seen l.after))
