use Rattle.std.proofs.Common.{◌<◌, map}
use Rattle.vc_aut.specs.Stored.{transition_of}
use Rattle.vc_eval.proofs.Sources.{In_all}
use Rattle.vc_eval.proofs.marks.mark_targets.Goals as goal

pub returns-then-transitions-states-clause-targets : goal.returns-then-transitions-states-clause-targets
returns-then-transitions-states-clause-targets g c = λ u i. c.mark_row.ensures.row u.to (In_all (λ u. u.to < c.args.states) (map (transition_of g.L.LabelSet.parts) c.args.transitions.now) c.requires.targets u i)
