use Rattle.std.proofs.Common.{rules, ◌≤◌}
use Rattle.vc_standard.specs.Stored.{item_of}
use Rattle.vc_standard.proofs.PutLaws.{up_to_next}
use Rattle.vc_standard.proofs.put.furthest.Goals as goal

pub loop-step-preserved : goal.loop-step-preserved
loop-step-preserved g c =
    let far : c.loop-step.most ≤ c.max-most.result = search rules in
    let place : c.step-item.result.to ≤ c.max-most.result = search rules in
    up_to_next (item_of g.L.LabelSet.parts) c.loop-step.most c.max-most.result c.args.steps.now c.loop-step.step-index c.step-item.result c.loop-step-test.true c.step-item.is far place c.loop-step.invariant
