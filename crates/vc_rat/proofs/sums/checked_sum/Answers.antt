use Rattle.std.proofs.Common.{FitsSigned, rules, ◌∙◌}
use Rattle.std.proofs.lemmas.Int.{to_z-of_z}
use mir.Syntax.{w128}
use Rattle.vc_rat.proofs.Parted.{found-at, sum-positive, sum-some, sum-none}
use Rattle.vc_rat.proofs.sums.checked_sum.Goals as goal

pub reduced-requires-clause-positive : goal.reduced-requires-clause-positive
reduced-requires-clause-positive c =
    let one : FitsSigned w128 c.args.left.top = search rules in
    let two : FitsSigned w128 c.args.right.top = search rules in
    let found = found-at c.args.left c.args.right _ _ _ _ _ _ (to_z-of_z w128 c.args.left.top one) (to_z-of_z w128 c.args.right.top two) c.denominator-b.ensures c.denominator-d.ensures c.gcd-common.ensures.value c.sum_parts.ensures in
    sum-positive c.args.left c.args.right c.in-Some.top c.in-Some.bottom (found ∙ c.in-Some.is)

pub returns-in-Some : goal.returns-in-Some
returns-in-Some c =
    let one : FitsSigned w128 c.args.left.top = search rules in
    let two : FitsSigned w128 c.args.right.top = search rules in
    let top : FitsSigned w128 c.in-Some.top = search rules in
    let found = found-at c.args.left c.args.right _ _ _ _ _ _ (to_z-of_z w128 c.args.left.top one) (to_z-of_z w128 c.args.right.top two) c.denominator-b.ensures c.denominator-d.ensures c.gcd-common.ensures.value c.sum_parts.ensures in
    let made = rw (to_z-of_z w128 c.in-Some.top top) at c.reduced.ensures.same in
    sum-some c.args.left c.args.right c.reduced.result c.in-Some.top c.in-Some.bottom (found ∙ c.in-Some.is) made

pub returns-in-None : goal.returns-in-None
returns-in-None c =
    let one : FitsSigned w128 c.args.left.top = search rules in
    let two : FitsSigned w128 c.args.right.top = search rules in
    let found = found-at c.args.left c.args.right _ _ _ _ _ _ (to_z-of_z w128 c.args.left.top one) (to_z-of_z w128 c.args.right.top two) c.denominator-b.ensures c.denominator-d.ensures c.gcd-common.ensures.value c.sum_parts.ensures in
    sum-none c.args.left c.args.right (found ∙ c.in-None.is)
