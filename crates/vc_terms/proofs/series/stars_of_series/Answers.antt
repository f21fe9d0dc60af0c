use Rattle.vc_terms.proofs.StarLaws.{star_unfold, star_at_empty, star_same_on, star-zero}
use Rattle.vc_terms.proofs.series.stars_of_series.Goals as goal

pub returns-clause-unfolds : goal.returns-clause-unfolds
returns-clause-unfolds g c R L f = star_unfold L f

pub returns-clause-zero : goal.returns-clause-zero
returns-clause-zero g c R L = star-zero L

pub returns-clause-same : goal.returns-clause-same
returns-clause-same g c R L = star_same_on L

pub returns-clause-constant : goal.returns-clause-constant
returns-clause-constant g c R L f = star_at_empty L f
