use Rattle.vc_command.proofs.Spelled.{read, spelled}
use Rattle.vc_command.proofs.law.lines_are_spelled.Goals as goal

pub returns-clause-sound : goal.returns-clause-sound
returns-clause-sound c = spelled

pub returns-clause-complete : goal.returns-clause-complete
returns-clause-complete c = read
