use Rattle.std.proofs.Common.{length}
use Rattle.vc_exprio.specs.WordParts.{tapes_of, LeavesRest}
use Rattle.vc_exprio.proofs.parts.parts_of.Given as goal

abbrev pub invariant-loop-part : goal.invariant-loop-part
invariant-loop-part l = LeavesRest l.text (tapes_of l.parts.items) l.rest

abbrev pub decreases-loop-part : goal.decreases-loop-part
decreases-loop-part l = length l.rest
