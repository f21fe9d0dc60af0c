use Rattle.std.proofs.Common.{◌≡◌, ◌++◌, map}
use Rattle.std.specs.Prelude.{All, IsTrue}
use Rattle.vc_aut.specs.Stored.{transition_of}
use Rattle.vc_standard.specs.Automata.{leaving}
use Rattle.vc_standard.specs.Stored.{items_of}
use Rattle.vc_standard.proofs.states.add_state.Given as goal

abbrev pub invariant-loop-step : goal.invariant-loop-step
invariant-loop-step g l =
    let parts = g.L.LabelSet.parts in
    record {
      made : map (transition_of parts) l.transitions.items ≡ map (transition_of parts) l.fn.transitions.items ++ leaving l.from (items_of parts l.yielded);
      weights : All (λ t. IsTrue (g.S.Semiring.set.in_range t.weight)) l.transitions.items;
      split : l.yielded ++ l.step-iterator.rest.items ≡ l.fn.position.moves.items;
    }
