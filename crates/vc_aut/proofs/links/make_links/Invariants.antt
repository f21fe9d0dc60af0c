use Rattle.std.proofs.Common.{take}
use Rattle.vc_aut.specs.Links.{AreLinks}
use Rattle.vc_aut.proofs.links.make_links.Given as goal

-- the transitions so far are linked
abbrev pub invariant-loop-transition : goal.invariant-loop-transition
invariant-loop-transition g l = AreLinks (take l.transition-index l.aut.automaton.transitions) l.aut.automaton.states l.last.items l.before.items
