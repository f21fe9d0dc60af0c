use Rattle.vc_products.proofs.Composed.{composed, composed_within}
use Rattle.vc_products.proofs.compositions.compositions_have_their_series.Goals as goal

pub returns-clause-series : goal.returns-clause-series
returns-clause-series g c R L = composed L

pub returns-clause-bound : goal.returns-clause-bound
returns-clause-bound g c R L = composed_within L
