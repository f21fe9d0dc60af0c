use Rattle.std.proofs.Common.{ap}
use Rattle.vc_label.specs.Sets.{IsOverSets}
use Rattle.vc_model.specs.Automata.{Transition}
use Rattle.vc_aut.specs.Stored.{transition_of}
use Rattle.vc_aut.proofs.Relabelled.{All-item, same-push}
use Rattle.vc_aut.proofs.with_labels.relabelled.Goals as goal

pub label_of-requires : goal.label_of-requires
label_of-requires g c =
    All-item (λ (t : Transition g.row.S-Value.Denot). IsOverSets (g.M.LabelSet.sets c.args.labels) t.label) (transition_of g.L.LabelSet.parts) c.args.transitions.now
    c.loop-transition.transition-index c.transition-item.result c.requires c.loop-transition-test.true c.transition-item.is

pub loop-transition-preserved : goal.loop-transition-preserved
loop-transition-preserved g c =
    same-push (transition_of g.L.LabelSet.parts) (transition_of g.M.LabelSet.parts) c.args.transitions.now c.loop-transition.transition-index c.transition-item.result _ c.loop-transition.same.items c.push.new.self.items
    c.loop-transition-test.true c.transition-item.is c.in_ok-push.ensures.items
    (ap (λ w. record { from = c.transition-item.result.from; label = w; to = c.transition-item.result.to; weight = c.transition-item.result.weight }) c.in_ok-label.ensures) c.loop-transition.invariant
