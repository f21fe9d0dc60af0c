use Rattle.vc_files.proofs.Growth.{grows_by_none, grows_in_turn, grows_among, grows_longer, grows_or_not}
use Rattle.vc_files.proofs.laws.faults_of_calls.Goals as goal

pub returns-clause-none : goal.returns-clause-none
returns-clause-none c = grows_by_none

pub returns-clause-more : goal.returns-clause-more
returns-clause-more c = grows_in_turn

pub returns-clause-among : goal.returns-clause-among
returns-clause-among c = grows_among

pub returns-clause-longer : goal.returns-clause-longer
returns-clause-longer c = grows_longer

pub returns-clause-added : goal.returns-clause-added
returns-clause-added c = grows_or_not
