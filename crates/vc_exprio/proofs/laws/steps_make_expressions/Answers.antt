use Rattle.std.proofs.Common.{[]}
use Rattle.vc_exprio.proofs.BuiltTrees.{building_built}
use Rattle.vc_exprio.proofs.MadeTrees.{steps_made}
use Rattle.vc_exprio.proofs.StepDepths.{whole}
use Rattle.vc_exprio.proofs.StepLabels.{found}
use Rattle.vc_exprio.proofs.laws.steps_make_expressions.Goals as goal

pub returns-clause-made : goal.returns-clause-made
returns-clause-made g c R same value class_letters t ts = steps_made R same value class_letters t ts

pub returns-clause-built : goal.returns-clause-built
returns-clause-built g c R same value class_letters t u e = building_built R same value class_letters t u e

pub returns-clause-labels : goal.returns-clause-labels
returns-clause-labels g c = found

pub returns-clause-depth : goal.returns-clause-depth
returns-clause-depth g c t = whole t []
