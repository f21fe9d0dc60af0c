use Rattle.std.proofs.Common.{◌≡◌, ◌++◌, map, take, drop, int_div}
use Rattle.vc_basic.proofs.wholes.divide_each.Given as goal

abbrev pub invariant-loop-entry : goal.invariant-loop-entry
invariant-loop-entry l = l.row ≡ map (λ z. int_div z l.factor) (take l.entry-index l.fn.row) ++ drop l.entry-index l.fn.row
