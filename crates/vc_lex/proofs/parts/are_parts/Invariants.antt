use Rattle.std.proofs.Common.{◌≡◌, length, map}
use Rattle.vc_lex.specs.Parts.{are_parts}
use Rattle.vc_lex.specs.Views.{seen}
use Rattle.vc_lex.proofs.parts.are_parts.Given as goal

abbrev pub invariant-loop-rest : goal.invariant-loop-rest
invariant-loop-rest l = are_parts (map seen l.rest) ≡ are_parts (map seen l.label)

abbrev pub decreases-loop-rest : goal.decreases-loop-rest
decreases-loop-rest l = length l.rest
