use Rattle.std.proofs.Common.{rules, ◌≡◌, ap, sym, map, subst, All}
use Rattle.vc_label.specs.Sets.{IsOverSets}
use Rattle.vc_aut.specs.Labelled.{Labelled}
use Rattle.vc_aut.specs.Wider.{over_sets}
use Rattle.vc_aut.specs.Stored.{automaton_of, transition_of}
use Rattle.vc_aut.proofs.Relabelled.{labelled_over}
use Rattle.vc_aut.proofs.automaton.Automaton.with_labels.Goals as goal

pub invariant_of-result : goal.invariant_of-result
invariant_of-result g c =
    let old = transition_of {L = g.row.L.Denot} {S = g.row.S.Denot} {V = g.row.S-Value.Denot} g.L.LabelSet.parts in
    let new = transition_of {L = g.row.M.Denot} {S = g.row.S.Denot} {V = g.row.S-Value.Denot} g.M.LabelSet.parts in
    let moves : map new c.in_ok-transitions.transitions.items ≡ map old c.self.inside.transitions.items = search rules in
    let initial : c.in_ok-initial_weights.initial_weights.items ≡ c.self.inside.initial_weights.items = search rules in
    let final : c.in_ok-final_weights.final_weights.items ≡ c.self.inside.final_weights.items = search rules in
    let starts : c.in_ok-starts.starts.items ≡ c.self.inside.starts.items = search rules in (
      rw (moves, initial, final)
          (labelled_over g.S.Semiring.set (g.L.LabelSet.sets c.self.inside.labels) (g.M.LabelSet.sets c.args.labels)
          (automaton_of c.self.inside.initial_weights.items c.self.inside.final_weights.items (map old c.self.inside.transitions.items)) c.self.invariant.0
          (subst (λ (a : Labelled g.row.S-Value.Denot). All (λ t. IsOverSets (g.M.LabelSet.sets c.args.labels) t.label) a.automaton.transitions) (sym c.self.view_is) c.requires)),
      rw (moves, initial, starts) c.self.invariant.1,
    )

pub returns : goal.returns
returns g c =
    let old = transition_of {L = g.row.L.Denot} {S = g.row.S.Denot} {V = g.row.S-Value.Denot} g.L.LabelSet.parts in
    let new = transition_of {L = g.row.M.Denot} {S = g.row.S.Denot} {V = g.row.S-Value.Denot} g.M.LabelSet.parts in
    let moves : map new c.in_ok-transitions.transitions.items ≡ map old c.self.inside.transitions.items = search rules in
    let initial : c.in_ok-initial_weights.initial_weights.items ≡ c.self.inside.initial_weights.items = search rules in
    let final : c.in_ok-final_weights.final_weights.items ≡ c.self.inside.final_weights.items = search rules in
    rw (moves, initial, final) (ap (over_sets (g.M.LabelSet.sets c.args.labels)) c.self.view_is)
