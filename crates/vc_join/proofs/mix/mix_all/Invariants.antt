use Rattle.std.proofs.Common.{◌≡◌, ◌<◌, ◌+◌, map, length}
use Rattle.vc_aut.specs.Stored.{transition_of}
use Rattle.vc_model.specs.Automata.{Transition}
use Rattle.vc_model.specs.Gathered.{IsAscending}
use Rattle.vc_model.specs.Lists.{In}
use Rattle.vc_search.specs.Courses.{led_all}
use Rattle.vc_join.specs.Orders.{item_before}
use Rattle.vc_join.specs.Pairs.{same_states}
use Rattle.vc_join.specs.Shuffles.{left_item, mixed_items, right_item}
use Rattle.vc_join.proofs.mix.mix_all.Given as goal

-- what is left makes from here is what all make
abbrev pub invariant-loop-left : goal.invariant-loop-left
invariant-loop-left g l =
    let R = g.S.Semiring.set in
    let T = transition_of g.L.LabelSet.parts in
    record {
      rest : led_all same_states l.from l.into (mixed_items R l.pair (map T l.left) (map T l.right)) ≡ led_all same_states l.from l.initial.into (mixed_items R l.pair (map T l.fn.lefts) (map T l.fn.rights));
      lefts : IsAscending item_before (map (left_item l.pair.1) (map T l.left));
      rights : IsAscending item_before (map (right_item l.pair.0) (map T l.right));
      among_lefts : (t : Transition g.row.S-Value.Denot) → In t (map T l.left) → In t (map T l.fn.lefts);
      among_rights : (t : Transition g.row.S-Value.Denot) → In t (map T l.right) → In t (map T l.fn.rights);
      sets : l.into.sets ≡ l.initial.into.sets;
      from : l.from < length l.into.members;
    }

abbrev pub decreases-loop-left : goal.decreases-loop-left
decreases-loop-left g l = length l.left + length l.right
