use Rattle.vc_exprio.specs.Views.{step_seen}
use Rattle.vc_exprio.proofs.StepLists.{at_place}
use Rattle.vc_exprio.proofs.labels.step_at.Goals as goal

pub returns : goal.returns
returns c = at_place step_seen c.args.steps.now c.args.at _ c.requires
