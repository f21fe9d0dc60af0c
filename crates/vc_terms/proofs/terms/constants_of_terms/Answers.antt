use Rattle.vc_terms.proofs.TermLaws.{coefficient-empty}
use Rattle.vc_terms.proofs.terms.constants_of_terms.Goals as goal

pub returns : goal.returns
returns g c R L tapes t h = coefficient-empty L tapes t h
