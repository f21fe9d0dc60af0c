use Rattle.std.proofs.Common.{◌+◌, length}
use Rattle.vc_aut.specs.Links.{linked}
use Rattle.vc_aut.specs.Marks.{unmarked}
use Rattle.vc_aut.proofs.Reached.{IsReaching}
use Rattle.vc_aut.proofs.links.reach.Given as goal

abbrev pub invariant-states : goal.invariant-states
invariant-states g l = IsReaching (linked l.back l.aut.automaton.transitions) l.fn.marks l.marks l.waiting.items

-- each turn follows a state, and what it adds was not marked
abbrev pub decreases-states : goal.decreases-states
decreases-states g l = unmarked l.marks + length l.waiting.items
