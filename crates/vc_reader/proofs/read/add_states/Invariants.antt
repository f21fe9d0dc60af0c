use Rattle.std.proofs.Common.{◌≡◌, ◌≤◌, ◌+◌, ◌-◌}
use Rattle.vc_reader.specs.Passes.{with_states}
use Rattle.vc_reader.proofs.read.add_states.Given as goal

-- the states that are added from here on make what all make
abbrev pub invariant-loop : goal.invariant-loop
invariant-loop g l =
    (l.counter ≤ l.count)
    × (with_states g.S.Semiring.set (l.count - l.counter) l.builder ≡ with_states g.S.Semiring.set l.count l.initial.builder)
    × (l.builder.automaton.states ≡ l.initial.builder.automaton.states + l.counter)
    × (l.builder.most ≡ l.initial.builder.most)
