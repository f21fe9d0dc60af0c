use Rattle.std.proofs.Common.{◌≡◌, ◌++◌, map, length}
use Rattle.std.specs.Prelude.{All, IsTrue}
use Rattle.vc_aut.specs.Stored.{transition_of}
use Rattle.vc_model.specs.WeightSet.{InRange}
use Rattle.vc_standard.specs.Automata.{leaving_all}
use Rattle.vc_standard.specs.Stored.{position_of}
use Rattle.vc_standard.proofs.states.add_states.Given as goal

abbrev pub invariant-loop-position : goal.invariant-loop-position
invariant-loop-position g l =
    let parts = g.L.LabelSet.parts in
    let set = g.S.Semiring.set in
    record {
      number : l.number ≡ length l.yielded;
      finals : l.finals.items ≡ l.fn.finals.items ++ map (λ p. p.last) l.yielded;
      finals_in : InRange set l.finals.items;
      made : map (transition_of parts) l.transitions.items ≡ map (transition_of parts) l.fn.transitions.items ++ leaving_all 1 (map (position_of parts) l.yielded);
      weights : All (λ t. IsTrue (set.in_range t.weight)) l.transitions.items;
      split : l.yielded ++ l.position-iterator.rest.items ≡ l.fn.positions.items;
    }
