use Rattle.vc_reader.proofs.Sums.{built_spelled}
use Rattle.vc_reader.proofs.law.built_automata_are_spelled.Goals as goal

pub returns : goal.returns
returns g c T L e sets h a b = built_spelled T L sets h a (c.drafts_are_sums.ensures.gathered T.set L T.same e) (c.drafts_are_sums.ensures.order T.set) b
