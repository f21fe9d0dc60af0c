use Rattle.std.proofs.Common.{◌-ℤ◌, unsigned_abs, ap, rules, refl, FitsSigned, ◌∙◌, sym}
use Rattle.std.proofs.lemmas.Int.{to_z-of_z}
use mir.Syntax.{w128}
use Rattle.vc_rat.proofs.Stars.{star-is, below-one}
use Rattle.vc_rat.proofs.Steps.{step-ok}
use Rattle.vc_rat.proofs.rationals.QSemiring.star.Goals as goal

pub returns-in-Some : goal.returns-in-Some
returns-in-Some c =
    let top : FitsSigned w128 c.args.of.top = search rules in
    let bottom : FitsSigned w128 c.args.of.bottom = search rules in
    let rest : FitsSigned w128 c.in-Some.bottom = search rules in
    let difference = rw (to_z-of_z w128 c.args.of.bottom bottom, to_z-of_z w128 c.args.of.top top) at c.checked_sub.ensures in
    let step = step-ok c.in-Some.bottom _ (c.args.of.bottom -ℤ c.args.of.top) refl (sym difference ∙ c.in-Some.is) in
    let same = rw (to_z-of_z w128 c.in-Some.bottom rest, to_z-of_z w128 c.args.of.bottom bottom) at c.new.ensures.same in
    let magnitude = c.unsigned_abs.ensures.value ∙ ap unsigned_abs (to_z-of_z w128 c.args.of.top top) in
    star-is c.args.of c.new.result c.in-Some.bottom (below-one c.args.of.top _ _ _ magnitude c.denominator.ensures c.if-unsigned_abs-denominator.false) step.0 step.1 same
