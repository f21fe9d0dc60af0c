use Rattle.std.proofs.Common.{◌≡◌, ◌-◌, ◌≤◌, length, map, take}
use Rattle.vc_model.specs.WeightSet.{InRange}
use Rattle.vc_search.proofs.weights.weights_of.Given as goal

abbrev pub invariant-loop-key : goal.invariant-loop-key
invariant-loop-key g l =
    let M = g.M.Moves in
    let R = g.S.Semiring.set in
    record {
      begins : l.begins.items ≡ map (M.initial l.moves) (take l.number l.search.members);
      ends : l.ends.items ≡ map (M.last l.moves) (take l.number l.search.members);
      begins_in : InRange R l.begins.items;
      ends_in : InRange R l.ends.items;
      within : l.number ≤ length l.search.members;
    }

abbrev pub decreases-loop-key : goal.decreases-loop-key
decreases-loop-key g l = length l.search.members - l.number
