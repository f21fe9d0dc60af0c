use Rattle.std.proofs.Common.{FitsSigned, rules, ◌∙◌}
use Rattle.std.proofs.lemmas.Int.{to_z-of_z}
use mir.Syntax.{w128}
use Rattle.vc_rat.proofs.Crossed.{found-at, product-lowest, product-some, product-none}
use Rattle.vc_rat.proofs.products.checked_product.Goals as goal

pub lowest-requires-clause-lowest : goal.lowest-requires-clause-lowest
lowest-requires-clause-lowest c =
    let one : FitsSigned w128 c.args.left.top = search rules in
    let two : FitsSigned w128 c.args.right.top = search rules in
    let top : FitsSigned w128 c.in-Some.top = search rules in
    let found = found-at _ c.args.left.top _ c.args.right.top _ _ _ _ _ (to_z-of_z w128 c.args.left.top one) c.denominator.ensures (to_z-of_z w128 c.args.right.top two) c.denominator-2.ensures c.product_parts.ensures in
    rw (to_z-of_z w128 c.in-Some.top top) (product-lowest c.args.left c.args.right c.in-Some.top c.in-Some.bottom (found ∙ c.in-Some.is))

pub returns-in-Some : goal.returns-in-Some
returns-in-Some c =
    let one : FitsSigned w128 c.args.left.top = search rules in
    let two : FitsSigned w128 c.args.right.top = search rules in
    let top : FitsSigned w128 c.in-Some.top = search rules in
    let found = found-at _ c.args.left.top _ c.args.right.top _ _ _ _ _ (to_z-of_z w128 c.args.left.top one) c.denominator.ensures (to_z-of_z w128 c.args.right.top two) c.denominator-2.ensures c.product_parts.ensures in
    product-some c.args.left c.args.right c.lowest.result c.in-Some.top c.in-Some.bottom (found ∙ c.in-Some.is) (c.lowest.ensures.top ∙ to_z-of_z w128 c.in-Some.top top) c.lowest.ensures.bottom

pub returns-in-None : goal.returns-in-None
returns-in-None c =
    let one : FitsSigned w128 c.args.left.top = search rules in
    let two : FitsSigned w128 c.args.right.top = search rules in
    let found = found-at _ c.args.left.top _ c.args.right.top _ _ _ _ _ (to_z-of_z w128 c.args.left.top one) c.denominator.ensures (to_z-of_z w128 c.args.right.top two) c.denominator-2.ensures c.product_parts.ensures in
    product-none c.args.left c.args.right (found ∙ c.in-None.is)
