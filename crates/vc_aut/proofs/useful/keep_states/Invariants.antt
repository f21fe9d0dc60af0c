use Rattle.std.proofs.Common.{◌≤◌, length}
use Rattle.vc_aut.specs.Kept.{AreKept}
use Rattle.vc_aut.proofs.useful.keep_states.Given as goal

abbrev pub invariant-loop-state : goal.invariant-loop-state
invariant-loop-state l =
    record {
      are : AreKept l.reached l.useful l.state l.states.items l.places.items;
      few : length l.states.items ≤ l.state;
    }
