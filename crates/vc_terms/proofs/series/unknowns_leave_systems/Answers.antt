use Rattle.vc_terms.proofs.Elimination.{HoldsAt-without}
use Rattle.vc_terms.proofs.series.unknowns_leave_systems.Goals as goal

pub returns : goal.returns
returns g c R L tapes before after k entry rest X N hk p hp = HoldsAt-without L tapes before after k entry rest X N hk p hp
