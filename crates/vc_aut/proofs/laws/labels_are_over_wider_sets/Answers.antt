use Rattle.vc_aut.proofs.WiderSets.{labels_over_wider}
use Rattle.vc_aut.proofs.laws.labels_are_over_wider_sets.Goals as goal

pub returns : goal.returns
returns g c ts h = labels_over_wider g.S.Semiring.set c.args.aut.now c.automata_are_valid.ensures.labelled ts h
