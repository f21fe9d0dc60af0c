use Rattle.std.proofs.Common.{◌≡◌, ◌<◌, ◌+◌, true, sym, subst}
use Rattle.std.specs.Prelude.{◌↔◌}
use Rattle.vc_aut.specs.Marks.{is_marked}
use Rattle.vc_model.specs.Lists.{In}
use Rattle.vc_aut.proofs.Reached.{marked_skip, marked_take}
use Rattle.vc_aut.proofs.links.marked.Goals as goal

pub loop-state-preserved-then-not-marks-state : goal.loop-state-preserved-then-not-marks-state
loop-state-preserved-then-not-marks-state c q = marked_skip c.args.marks.now c.loop-state.state c.loop-state.states.items c.loop-state.invariant c.if-not-marks-state.true q

pub loop-state-preserved : goal.loop-state-preserved
loop-state-preserved c q =
    subst (λ xs. ((q < c.loop-state.state + 1) × (is_marked c.args.marks.now q ≡ true)) ↔ In q xs) (sym c.in_ok-push.ensures.items)
    (marked_take c.args.marks.now c.loop-state.state c.loop-state.states.items c.loop-state.invariant c.if-not-marks-state.false q)
