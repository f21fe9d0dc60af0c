use Rattle.std.proofs.Common.{rules, ◌≡◌, ◌∷◌, drop, map, sym, subst}
use Rattle.vc_exprio.specs.LabelAnswers.{IsOutsideAt, IsStepOutside}
use Rattle.vc_exprio.specs.Making.{occurrences_in}
use Rattle.vc_exprio.specs.Views.{step_seen}
use Rattle.std.specs.Prelude.{None}
use Rattle.vc_exprio.proofs.StepLists.{after_place}
use Rattle.vc_exprio.proofs.labels.first_outside.Goals as goal

pub loop-at-preserved : goal.loop-at-preserved
loop-at-preserved g c place h =
    let sets = g.L.LabelSet.sets c.args.labels.now in
    let ops = map step_seen c.args.steps.now in
    let here : drop c.loop-at.at ops ≡ step_seen c.step_at.result.0 ∷ map step_seen c.step_at.result.1.now = search rules in
    let none : IsStepOutside sets (step_seen c.step_at.result.0) (map step_seen c.step_at.result.1.now) None = search rules in
    c.loop-at.invariant place
    (subst (λ os. IsOutsideAt sets (occurrences_in os) place) (sym here)
    (none place (subst (λ os. IsOutsideAt sets (occurrences_in os) place) (after_place ops (map step_seen c.step_at.result.1.now) c.loop-at.at (step_seen c.step_at.result.0) here) h)))
