use Rattle.std.proofs.Common.{◌≡◌, take}
use Rattle.vc_closure.proofs.bring.initial_weights.Given as goal

abbrev pub invariant-loop-state : goal.invariant-loop-state
invariant-loop-state g l = l.weights.items ≡ take l.state l.aut.automaton.initial
