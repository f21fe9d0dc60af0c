use Rattle.std.proofs.Common.{◌≡◌, IsTrue, take}
use Rattle.vc_closure.specs.Brought.{row_final}
use Rattle.vc_closure.proofs.bring.final_of.Given as goal

abbrev pub invariant-loop-entry : goal.invariant-loop-entry
invariant-loop-entry g l =
    let R = g.S.Semiring.set in
    record {
      in_range : IsTrue (R.in_range l.sum);
      made : l.sum ≡ row_final R l.aut.automaton (take l.entry-index l.row);
    }
