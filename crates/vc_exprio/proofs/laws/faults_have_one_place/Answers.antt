use Rattle.vc_exprio.proofs.FrontLaws.{fault_found, fault_only}
use Rattle.vc_exprio.proofs.laws.faults_have_one_place.Goals as goal

pub returns-clause-found : goal.returns-clause-found
returns-clause-found c = fault_found

pub returns-clause-only : goal.returns-clause-only
returns-clause-only c = fault_only
