use Rattle.vc_products.proofs.ProjectionLaws.{projection_coefficient}
use Rattle.vc_products.proofs.compositions.projections_have_their_series.Goals as goal

pub returns : goal.returns
returns g c R L alphabet once J F j f P W middles s u v n h = projection_coefficient L alphabet once J F j f P W middles s u v n h
