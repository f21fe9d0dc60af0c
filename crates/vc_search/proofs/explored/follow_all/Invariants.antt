use Rattle.std.proofs.Common.{◌-◌}
use Rattle.vc_search.specs.Followed.{IsUnderway}
use Rattle.vc_search.proofs.explored.follow_all.Given as goal

abbrev pub invariant-loop-key : goal.invariant-loop-key
invariant-loop-key g l =
    let M = g.M.Moves in
    IsUnderway g.M.Key.PartialEq.eq M.past (M.first l.moves) (M.items l.moves) (M.is_member l.moves) l.most (g.L.LabelSet.sets l.fn.labels) l.exploration l.number

abbrev pub decreases-loop-key : goal.decreases-loop-key
decreases-loop-key g l = l.most - l.number
