use Rattle.vc_atoms.proofs.Joins.{join_nothing}
use Rattle.vc_atoms.proofs.nullable.NullableLabelSet.join.Goals as goal

pub returns-in-None-clause-ok : goal.returns-in-None-clause-ok
returns-in-None-clause-ok c = rw c.in-None.is (join_nothing c.args.onto.now c.requires)
