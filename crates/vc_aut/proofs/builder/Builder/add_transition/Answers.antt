use Rattle.std.proofs.Common.{◌≡◌, sym, subst, ◌<◌, map}
use Rattle.vc_label.specs.Sets.{IsOverSets}
use Rattle.vc_model.specs.Automata.{Transition}
use Rattle.vc_aut.specs.Drafts.{Draft}
use Rattle.vc_aut.specs.Stored.{automaton_of, entry_transition}
use Rattle.vc_aut.specs.Validity.{IsMove}
use Rattle.vc_aut.proofs.Drafted.{with_transition_is_draft, weights-in_range}
use Rattle.vc_aut.proofs.Order.{triple_order_total}
use Rattle.vc_aut.proofs.builder.Builder.add_transition.Goals as goal

pub add-requires-clause-weights : goal.add-requires-clause-weights
add-requires-clause-weights g c =
    weights-in_range g.S.Semiring.set g.L.LabelSet.parts _ _ c.self.inside.transitions.entries c.self.invariant.drawn.moves

pub invariant_of-self-2 : goal.invariant_of-self-2
invariant_of-self-2 g c =
    let old : Draft g.row.S-Value.Denot = record {
      most = c.self.inside.most_states;
      sets = g.L.LabelSet.sets c.self.inside.labels;
      automaton = automaton_of c.self.inside.initial_weights.items c.self.inside.final_weights.items (map (entry_transition g.L.LabelSet.parts) c.self.inside.transitions.entries);
    } in
    let new : Transition g.row.S-Value.Denot = record { from = c.args.from; label = g.L.LabelSet.parts c.args.label; to = c.args.to; weight = c.args.weight } in
    let is : c.args.self.now ≡ old = sym c.self.view_is in
    let move : IsMove g.S.Semiring.set old.sets old.automaton.states new = record {
      from = subst (λ (d : Draft g.row.S-Value.Denot). c.args.from < d.automaton.states) is c.requires.from;
      to = subst (λ (d : Draft g.row.S-Value.Denot). c.args.to < d.automaton.states) is c.requires.to;
      label = subst (λ (d : Draft g.row.S-Value.Denot). IsOverSets d.sets (g.L.LabelSet.parts c.args.label)) is c.requires.label;
      weight = c.requires.weight;
    } in
    rw c.in_ok-add.ensures.ok
    (with_transition_is_draft g.S.Semiring.set (triple_order_total c.words_are_ordered.ensures.total c.words_are_ordered.ensures.equal) g.met.S.Semiring.ranges old new c.self.invariant move c.in_ok-add.ensures.answer)
