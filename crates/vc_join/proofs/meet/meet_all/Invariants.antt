use Rattle.std.proofs.Common.{◌≡◌, ◌<◌, map, drop, length}
use Rattle.vc_aut.specs.Stored.{transition_of}
use Rattle.vc_model.specs.Automata.{Transition}
use Rattle.vc_model.specs.Lists.{In}
use Rattle.vc_search.specs.Courses.{led_all}
use Rattle.vc_join.specs.Conjunctions.{both_items}
use Rattle.vc_join.specs.Pairs.{same_states}
use Rattle.vc_join.specs.Runs.{AreByLabel}
use Rattle.vc_join.proofs.meet.meet_all.Given as goal

-- what the rest makes from here is what all make
abbrev pub invariant-loop-left : goal.invariant-loop-left
invariant-loop-left g l =
    let R = g.S.Semiring.set in
    let T = transition_of g.L.LabelSet.parts in
    record {
      rest : led_all same_states l.from l.into (both_items R (map T (drop l.left-index l.lefts)) (map T l.rest)) ≡ led_all same_states l.from l.initial.into (both_items R (map T l.lefts) (map T l.fn.rights));
      by_label : AreByLabel (map T l.rest);
      among : (t : Transition g.row.S-Value.Denot) → In t (map T l.rest) → In t (map T l.fn.rights);
      sets : l.into.sets ≡ l.initial.into.sets;
      from : l.from < length l.into.members;
    }
