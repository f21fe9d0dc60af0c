use Rattle.vc_terms.proofs.TapeTerms.{on_tapes, full_labels, has_tapes}
use Rattle.vc_terms.proofs.terms.tapes_of_terms.Goals as goal

pub returns : goal.returns
returns g c tapes t = (λ h. (on_tapes tapes t h, full_labels tapes t h), λ h. has_tapes tapes t h.0 h.1)
