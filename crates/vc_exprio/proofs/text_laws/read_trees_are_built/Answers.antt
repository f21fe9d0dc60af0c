use Rattle.vc_exprio.proofs.ReadTrees.{read_built}
use Rattle.vc_exprio.proofs.text_laws.read_trees_are_built.Goals as goal

pub returns : goal.returns
returns g c T single sets text t h = read_built T single sets text t h
