use Rattle.std.proofs.Common.{arith, ◌≡◌, ◌≤◌, ◌+◌, map}
use Rattle.std.proofs.lemmas.List.Elements.{at_read}
use Rattle.vc_aut.specs.Stored.{count_below, transition_of}
use Rattle.vc_aut.proofs.Rows.{counted, starts-push}
use Rattle.vc_aut.proofs.starts.starts.Goals as goal
use Rattle.vc_aut.proofs.starts.starts.Goals.{then-loop-at-test+else-transitions-at, else-loop-at-test}

pub loop-state-preserved : goal.loop-state-preserved
loop-state-preserved g c =
    let found : count_below (map (transition_of {L = g.row.L.Denot} {S = g.row.S.Denot} {V = g.row.S-Value.Denot} g.L.LabelSet.parts) c.args.transitions.now) c.loop-state.state ≡ c.loop-at.at =
    counted (transition_of g.L.LabelSet.parts) c.loop-state.state c.loop-at.at c.args.transitions.now c.requires.order c.loop-at.invariant.0 c.loop-at.invariant.1 (λ h d. elim c.loop-at-test.branch [
      | then-loop-at-test+else-transitions-at w ↦ at_read c.args.transitions.now (λ t. c.loop-state.state ≤ t.from) c.loop-at.at w.index-transitions-at.result h w.index-transitions-at.is (rw w.index-transitions-at.is w.if-transitions-at.false) d
      | else-loop-at-test w ↦ absurd (omega arith)
    ]) in
    let pushed = starts-push (map (transition_of {L = g.row.L.Denot} {S = g.row.S.Denot} {V = g.row.S-Value.Denot} g.L.LabelSet.parts) c.args.transitions.now) c.loop-state.starts.items c.push.new.self.items c.loop-state.state c.loop-at.at c.in_ok-push.ensures.items c.loop-state.invariant.0 c.loop-state.invariant.1 found in
    (pushed.0, pushed.1, c.loop-at.invariant.0, λ k d h. omega (arith, c.loop-at.invariant.1 k d h))

pub returns : goal.returns
returns g c =
    let end : c.loop-state.state ≡ c.args.states + 1 = omega arith in
    record {
      length = omega (arith, c.loop-state.invariant.0, end);
      place = λ s d h. c.loop-state.invariant.1 s d (omega (arith, end));
    }
