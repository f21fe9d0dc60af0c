use Rattle.vc_context.specs.Sets.{tapes_of}
use Rattle.vc_context.specs.declared.context.Weights.TheVariants.{B, F2, Z, Q, Nmin}
use Rattle.vc_top.specs.Views.{answer_of}
use Rattle.vc_top.proofs.Constructed.{standard_named, standard_nowhere}
use Rattle.vc_top.proofs.standard.standard.Goals as goal

pub returns-in_default : goal.returns-in_default
returns-in_default c = standard_nowhere c.args.context.now c.in_default.ensures.none c.args.text.now c.args.limit

pub returns-in-B : goal.returns-in-B
returns-in-B c =
    standard_named c.args.context.now (tapes_of c.in-Ok.context.labels) c.in-Ok.context.weights B (answer_of c.standard_any.result) c.in-B.is c.in-Ok.ensures.spelled c.args.text.now c.args.limit c.standard_any.ensures

pub returns-in-F2 : goal.returns-in-F2
returns-in-F2 c =
    standard_named c.args.context.now (tapes_of c.in-Ok.context.labels) c.in-Ok.context.weights F2 (answer_of c.standard_any-in-F2.result) c.in-F2.is c.in-Ok.ensures.spelled c.args.text.now c.args.limit c.standard_any-in-F2.ensures

pub returns-in-Z : goal.returns-in-Z
returns-in-Z c =
    standard_named c.args.context.now (tapes_of c.in-Ok.context.labels) c.in-Ok.context.weights Z (answer_of c.standard_any-in-Z.result) c.in-Z.is c.in-Ok.ensures.spelled c.args.text.now c.args.limit c.standard_any-in-Z.ensures

pub returns-in-Q : goal.returns-in-Q
returns-in-Q c =
    standard_named c.args.context.now (tapes_of c.in-Ok.context.labels) c.in-Ok.context.weights Q (answer_of c.standard_any-in-Q.result) c.in-Q.is c.in-Ok.ensures.spelled c.args.text.now c.args.limit c.standard_any-in-Q.ensures

pub returns-in-Nmin : goal.returns-in-Nmin
returns-in-Nmin c =
    standard_named c.args.context.now (tapes_of c.in-Ok.context.labels) c.in-Ok.context.weights Nmin (answer_of c.standard_any-in-Nmin.result) c.in-Nmin.is c.in-Ok.ensures.spelled c.args.text.now c.args.limit c.standard_any-in-Nmin.ensures
