use Rattle.std.proofs.Common.{◌*ℤ◌, pos, ap, ◌∙◌, sym}
use Rattle.std.proofs.lemmas.Int.{to_z-of_z}
use mir.Syntax.{w128}
use Rattle.vc_rat.proofs.Steps.{step-ok, third-step}
use Rattle.vc_rat.proofs.sums.sum_of_products.Goals as goal

pub returns : goal.returns
returns c =
    let one = step-ok c.in_ok-first.first _ (c.args.a *ℤ pos c.args.d) (ap (λ k. k *ℤ pos c.args.d) (to_z-of_z w128 c.args.a c.ranges.a)) (sym c.scaled.ensures ∙ c.in_ok-first.was) in
    let two = step-ok c.in_ok-second.second _ (c.args.c *ℤ pos c.args.b) (ap (λ k. k *ℤ pos c.args.b) (to_z-of_z w128 c.args.c c.ranges.c)) (sym c.scaled-2.ensures ∙ c.in_ok-second.was) in
    third-step _ _ _ _ _ _ _ one.1 two.1 one.2 two.2 c.checked_add.ensures
