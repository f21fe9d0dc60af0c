use Rattle.std.proofs.Common.{◌≡◌, map, drop, ℕ}
use Rattle.vc_search.specs.Courses.{begun_all}
use Rattle.vc_join.specs.Pairs.{same_states}
use Rattle.vc_join.proofs.pairs.begin_row.Given as goal

-- what the rest makes from here is what all make
abbrev pub invariant-loop-right : goal.invariant-loop-right
invariant-loop-right g l =
    begun_all same_states l.into (map (λ (q : ℕ). (l.left, q)) (drop l.right-index l.rights)) ≡ begun_all same_states l.initial.into (map (λ (q : ℕ). (l.left, q)) l.rights)
