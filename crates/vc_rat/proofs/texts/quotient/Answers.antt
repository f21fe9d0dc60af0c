use Rattle.std.proofs.Common.{◌<◌, rules, FitsSigned}
use Rattle.std.proofs.lemmas.Int.{to_z-of_z}
use mir.Syntax.{w128}
use Rattle.vc_rat.proofs.Readings.{quotient-read-from}
use Rattle.vc_rat.proofs.texts.quotient.Goals as goal

pub returns-in-Ok-Ok : goal.returns-in-Ok-Ok
returns-in-Ok-Ok c =
    let fits : FitsSigned w128 c.in-Ok-Ok.top = search rules in
    let some : 0 < c.in-Ok-Ok.bottom = search rules in
    let same = rw (to_z-of_z w128 c.in-Ok-Ok.top fits) at c.reduced.ensures.same in
    let h = c.in-Ok-Ok in
    quotient-read-from c.reduced.result c.in-Ok-Ok.top c.in-Ok-Ok.bottom c.args.top c.args.bottom c.in-Ok-Ok.is-0 c.in-Ok-Ok.is-1 some same
