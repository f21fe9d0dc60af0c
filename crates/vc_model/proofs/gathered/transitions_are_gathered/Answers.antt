use Rattle.vc_model.specs.GatheredLaws.{gathered_members, members_gathered, gathered_alike}
use Rattle.vc_model.specs.Gathering.{gathered_from, gather_is}
use Rattle.vc_model.proofs.gathered.transitions_are_gathered.Goals as goal

pub returns-clause-members : goal.returns-clause-members
returns-clause-members g c R L raw ts G t = (gathered_members L raw ts G t, λ h. members_gathered L raw ts G t h.0 h.1)

pub returns-clause-sources : goal.returns-clause-sources
returns-clause-sources g c R L raw ts G t i = gathered_from L raw ts G t i

pub returns-clause-made : goal.returns-clause-made
returns-clause-made g c R L same T raw = gather_is L same T raw

pub returns-clause-alike : goal.returns-clause-alike
returns-clause-alike g c R L before one raw other ts us G H e a b = gathered_alike L before one raw other ts us G H e a b
