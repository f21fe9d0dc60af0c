use Rattle.vc_files.proofs.OneFile.{one_file, held_or_not}
use Rattle.vc_files.proofs.laws.names_have_one_file.Goals as goal

pub returns-clause-one : goal.returns-clause-one
returns-clause-one c = one_file

pub returns-clause-found : goal.returns-clause-found
returns-clause-found c = held_or_not
