use Rattle.vc_exprio.proofs.ReadSeries.{read_series}
use Rattle.vc_exprio.proofs.text_laws.read_expressions_have_their_series.Goals as goal

pub returns : goal.returns
returns g c T L Q single sets one text t r = read_series T single sets one (λ n u i. c.raw_trees_are_built.ensures.series T.set L T.same Q n u i) text t r
