use Rattle.vc_model.specs.Gathering.{gathered_sum, gathered_steps}
use Rattle.vc_model.proofs.gathered.gathering_keeps_sums.Goals as goal

pub returns-clause-all : goal.returns-clause-all
returns-clause-all g c R L raw ts G h = gathered_sum L raw ts G.sums h

pub returns-clause-moves : goal.returns-clause-moves
returns-clause-moves g c R L A B G p h = gathered_steps L A.transitions B.transitions G.sums p h
