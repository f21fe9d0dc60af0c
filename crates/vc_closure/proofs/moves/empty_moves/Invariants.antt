use Rattle.std.proofs.Common.{◌≡◌, ◌<◌, ℕ, length}
use Rattle.vc_closure.specs.Rows.{entries_at}
use Rattle.vc_closure.specs.Searches.{moves_from}
use Rattle.vc_closure.specs.Settled.{AreAmong, moves_of}
use Rattle.vc_closure.proofs.moves.empty_moves.Given as goal

abbrev pub invariant-loop-state : goal.invariant-loop-state
invariant-loop-state g l =
    let A = l.aut.automaton in
    record {
      count : length l.moves.items ≡ l.state;
      each : (p : ℕ) → p < l.state → AreAmong g.S.Semiring.set A.states (entries_at l.moves.items p);
      empty : (p : ℕ) → p < l.state → entries_at l.moves.items p ≡ moves_of (moves_from A p);
    }
