use Rattle.std.proofs.Common.{◌≡◌, drop}
use Rattle.vc_search.specs.Courses.{begun_all}
use Rattle.vc_join.specs.Pairs.{same_states, pairs_of}
use Rattle.vc_join.proofs.pairs.begin_rows.Given as goal

-- what the rest makes from here is what all make
abbrev pub invariant-loop-left : goal.invariant-loop-left
invariant-loop-left g l = begun_all same_states l.into (pairs_of (drop l.left-index l.lefts) l.rights) ≡ begun_all same_states l.initial.into (pairs_of l.lefts l.rights)
