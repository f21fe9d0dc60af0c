use Rattle.std.proofs.Common.{rules, ◌≡◌, map}
use Rattle.vc_aut.specs.Stored.{transition_of}
use Rattle.vc_aut.proofs.automaton.Automaton.copy.Goals as goal

pub invariant_of-result : goal.invariant_of-result
invariant_of-result g c =
    let of = transition_of {L = g.row.L.Denot} {S = g.row.S.Denot} {V = g.row.S-Value.Denot} g.L.LabelSet.parts in
    let moves : map of c.in_ok-transitions.transitions.items ≡ map of c.self.inside.transitions.items = search rules in
    let initial : c.in_ok-initial_weights.initial_weights.items ≡ c.self.inside.initial_weights.items = search rules in
    let final : c.in_ok-final_weights.final_weights.items ≡ c.self.inside.final_weights.items = search rules in
    let starts : c.in_ok-starts.starts.items ≡ c.self.inside.starts.items = search rules in
    (rw (moves, initial, final) c.self.invariant.0, rw (moves, initial, starts) c.self.invariant.1)

pub returns : goal.returns
returns g c =
    let of = transition_of {L = g.row.L.Denot} {S = g.row.S.Denot} {V = g.row.S-Value.Denot} g.L.LabelSet.parts in
    let moves : map of c.in_ok-transitions.transitions.items ≡ map of c.self.inside.transitions.items = search rules in
    let initial : c.in_ok-initial_weights.initial_weights.items ≡ c.self.inside.initial_weights.items = search rules in
    let final : c.in_ok-final_weights.final_weights.items ≡ c.self.inside.final_weights.items = search rules in
    rw (moves, initial, final) c.self.view_is
