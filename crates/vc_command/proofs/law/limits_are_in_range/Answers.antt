use Rattle.vc_command.proofs.Ranges.{limited_requests}
use Rattle.vc_command.proofs.law.limits_are_in_range.Goals as goal

pub returns : goal.returns
returns c = limited_requests
