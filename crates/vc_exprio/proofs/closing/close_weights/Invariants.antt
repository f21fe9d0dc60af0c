use Rattle.std.proofs.Common.{◌≡◌, length}
use Rattle.vc_exprio.specs.Flat.{weights_closed}
use Rattle.vc_exprio.specs.Flat.{parser_seen}
use Rattle.vc_exprio.proofs.closing.close_weights.Given as goal

-- what is left to close makes what all makes
abbrev pub invariant-loop-parser : goal.invariant-loop-parser
invariant-loop-parser l = weights_closed (parser_seen l.parser) ≡ weights_closed (parser_seen l.fn.parser)

abbrev pub decreases-loop-parser : goal.decreases-loop-parser
decreases-loop-parser l = length l.parser.pending.items
