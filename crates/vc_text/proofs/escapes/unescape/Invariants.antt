use Rattle.std.proofs.Common.{◌≡◌, ◌++◌, length}
use Rattle.vc_text.specs.Escapes.{unescaped}
use Rattle.vc_text.proofs.escapes.unescape.Given as goal

abbrev pub invariant-loop-rest : goal.invariant-loop-rest
invariant-loop-rest l = l.into.items ++ unescaped l.rest ≡ unescaped l.text

abbrev pub decreases-loop-rest : goal.decreases-loop-rest
decreases-loop-rest l = length l.rest
