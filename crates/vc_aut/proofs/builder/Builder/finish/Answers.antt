use Rattle.std.proofs.Common.{map}
use Rattle.vc_aut.specs.Drafts.{Draft}
use Rattle.vc_aut.specs.Stored.{automaton_of, entry_transition}
use Rattle.vc_aut.proofs.Drafted.{finished_is_labelled}
use Rattle.vc_aut.proofs.builder.Builder.finish.Goals as goal

pub new-requires : goal.new-requires
new-requires g c =
    let old : Draft g.row.S-Value.Denot = record {
      most = c.self.inside.most_states;
      sets = g.L.LabelSet.sets c.self.inside.labels;
      automaton = automaton_of c.self.inside.initial_weights.items c.self.inside.final_weights.items (map (entry_transition g.L.LabelSet.parts) c.self.inside.transitions.entries);
    } in
    rw c.in_ok-transitions.ensures
    (finished_is_labelled g.S.Semiring.set g.S.Value.PartialEq.eq g.met.S.Semiring.same old c.self.invariant)
