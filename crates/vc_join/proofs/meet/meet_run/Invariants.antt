use Rattle.std.proofs.Common.{◌≡◌, ◌<◌, map, drop, length}
use Rattle.vc_aut.specs.Stored.{transition_of}
use Rattle.vc_search.specs.Courses.{led_all}
use Rattle.vc_join.specs.Conjunctions.{both_item}
use Rattle.vc_join.specs.Pairs.{same_states}
use Rattle.vc_join.proofs.meet.meet_run.Given as goal

-- what the rest makes from here is what all make
abbrev pub invariant-loop-right : goal.invariant-loop-right
invariant-loop-right g l =
    let T = transition_of g.L.LabelSet.parts in
    let item = both_item g.S.Semiring.set (T l.left) in
    record {
      rest : led_all same_states l.from l.into (map item (map T (drop l.right-index l.run))) ≡ led_all same_states l.from l.initial.into (map item (map T l.run));
      sets : l.into.sets ≡ l.initial.into.sets;
      from : l.from < length l.into.members;
    }
