use Rattle.vc_files.proofs.Pieces.{front_in_turn}
use Rattle.vc_files.proofs.laws.writes_in_turn.Goals as goal

pub returns-clause-front : goal.returns-clause-front
returns-clause-front c = front_in_turn
