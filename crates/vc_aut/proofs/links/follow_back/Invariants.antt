use Rattle.vc_aut.proofs.Chained.{IsGoing}
use Rattle.vc_aut.proofs.links.follow_back.Given as goal

-- the transitions from the link on were followed
abbrev pub invariant-chain : goal.invariant-chain
invariant-chain g l = IsGoing l.aut.automaton.transitions l.state l.link l.fn.marks l.fn.waiting.items l.marks l.waiting.items

-- each link is before the last one
abbrev pub decreases-chain : goal.decreases-chain
decreases-chain g l = l.link
