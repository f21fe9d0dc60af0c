use Rattle.std.proofs.Common.{ap}
use Rattle.vc_aut.specs.Stored.{transition_of}
use Rattle.vc_aut.proofs.Relabelled.{same-push}
use Rattle.vc_aut.proofs.copies.copied.Goals as goal

pub loop-transition-preserved : goal.loop-transition-preserved
loop-transition-preserved g c =
    same-push (transition_of g.L.LabelSet.parts) (transition_of g.L.LabelSet.parts) c.args.transitions.now c.loop-transition.transition-index c.transition-item.result _ c.loop-transition.same.items c.push.new.self.items
    c.loop-transition-test.true c.transition-item.is c.in_ok-push.ensures.items
    (ap (λ w. record { from = c.transition-item.result.from; label = w; to = c.transition-item.result.to; weight = c.transition-item.result.weight }) c.in_ok-label.ensures) c.loop-transition.invariant
