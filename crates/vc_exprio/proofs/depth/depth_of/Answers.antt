use Rattle.std.proofs.Common.{rules, ◌≡◌, ◌<◌, ◌^◌, [], map, length, take, ap, ◌∙◌, sym}
use Rattle.std.specs.Prelude.{slice_index_or}
use Rattle.vc_exprio.specs.Depths.{depths_by, depths_after}
use Rattle.vc_exprio.specs.Steps.{Op}
use Rattle.vc_exprio.specs.Views.{step_seen}
use Rattle.vc_exprio.specs.declared.step.Step.TheVariants as code
use Rattle.vc_exprio.proofs.StepDepths.{small_enough, deep_last, depth_found}
use Rattle.vc_exprio.proofs.ParserStates.{next_taken, all_taken}
use Rattle.vc_exprio.proofs.depth.depth_of.Goals as goal

pub deepen_by-requires : goal.deepen_by-requires
deepen_by-requires c =
    let small : length c.args.steps.now < 2 ^ 64 = search rules in
    small_enough step_seen c.args.steps.now c.loop-step.step-index (2 ^ 64) c.loop-step.depths.items c.loop-step.invariant c.loop-step-test.true small

pub loop-step-preserved : goal.loop-step-preserved
loop-step-preserved c =
    let i = c.loop-step.step-index in
    let op : Op = step_seen (slice_index_or c.args.steps.now i code.Zero) in
    c.in_ok-deepen_by.ensures ∙ ap (λ ds. depths_after ds op) c.loop-step.invariant ∙ sym (deep_last (map step_seen (take i c.args.steps.now)) op)
    ∙ ap (depths_by []) (sym (next_taken step_seen c.args.steps.now i code.Zero c.loop-step-test.true))

pub returns : goal.returns
returns c t s =
    let all : take c.loop-step.step-index c.args.steps.now ≡ c.args.steps.now = all_taken c.args.steps.now c.loop-step.step-index c.loop-step-test.false in
    let d : c.loop-step.depths.items ≡ depths_by [] (map step_seen c.args.steps.now) = c.loop-step.invariant ∙ ap (λ xs. depths_by [] (map step_seen xs)) all in
    let v = c.deref.ensures.value in
    let e = c.greatest.ensures in
    depth_found (map step_seen c.args.steps.now) c.loop-step.depths.items c.greatest.result d (search rules) t s
