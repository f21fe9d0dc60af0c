use Rattle.vc_model.proofs.EqualityTests.{pair_test, list_test}
use Rattle.vc_model.proofs.lists.equality_tests_combine.Goals as goal

pub returns-clause-pairs : goal.returns-clause-pairs
returns-clause-pairs g c same alike P Q = pair_test same alike P Q

pub returns-clause-lists : goal.returns-clause-lists
returns-clause-lists g c same P = list_test same P
