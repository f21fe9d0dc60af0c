use Rattle.vc_standard.specs.Automata.{states_of}
use Rattle.vc_standard.specs.Structures.{standard_of}
use Rattle.vc_standard.proofs.TripleLaws.{once-all, once-standard}
use Rattle.vc_standard.proofs.laws.structures_name_each_triple_once.Goals as goal

pub returns : goal.returns
returns g c R equal t = once-all 0 (states_of (standard_of R equal t)) (once-standard R equal t)
