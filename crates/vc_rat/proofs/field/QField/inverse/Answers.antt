use Rattle.std.proofs.Common.{unsigned_abs, ap, rules, FitsSigned, ◌∙◌}
use Rattle.std.proofs.lemmas.Int.{to_z-of_z}
use mir.Syntax.{w128}
use Rattle.vc_rat.proofs.Inverses.{inverse-lowest}
use Rattle.vc_rat.proofs.field.QField.inverse.Goals as goal

pub lowest-requires-clause-lowest : goal.lowest-requires-clause-lowest
lowest-requires-clause-lowest c =
    let top : FitsSigned w128 c.args.of.top = search rules in
    let bottom : FitsSigned w128 c.args.of.bottom = search rules in
    let made : FitsSigned w128 c.with_sign_of.result = record { sfits = c.with_sign_of.type_inv } in
    let sign = rw (to_z-of_z w128 c.args.of.top top, to_z-of_z w128 c.args.of.bottom bottom) at c.with_sign_of.ensures in
    inverse-lowest c.args.of _ _ c.requires.not_zero (to_z-of_z w128 c.with_sign_of.result made ∙ sign) (c.unsigned_abs.ensures.value ∙ ap unsigned_abs (to_z-of_z w128 c.args.of.top top))
