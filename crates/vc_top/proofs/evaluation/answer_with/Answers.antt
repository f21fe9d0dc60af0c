use Rattle.std.proofs.Common.{Err, Ok, subst, sym}
use Rattle.vc_ring.specs.Weighed.{weighed}
use Rattle.vc_top.specs.Evaluations.{AnswersSteps, IsCoefficient}
use Rattle.vc_top.specs.Outcomes.{OrMemory}
use Rattle.vc_top.specs.Refused.{UnlessCause}
use Rattle.vc_top.proofs.Evaluated.{coefficient_answered, coefficient_refused}
use Rattle.vc_top.proofs.evaluation.answer_with.Goals as goal

pub returns-in-Ok-line_of : goal.returns-in-Ok-line_of
returns-in-Ok-line_of g c cause automaton word p =
    let T = weighed g.S.Semiring g.S.Value.PartialEq in
    let q : IsCoefficient T.set cause automaton word (Ok c.in-Ok.weight) = subst (λ r. IsCoefficient T.set cause automaton word r) c.in-Ok.is p in
    coefficient_answered T cause automaton word c.in-Ok.weight c.in-Ok-line_of.text q c.in-Ok-line_of.ensures

pub returns-in-Err : goal.returns-in-Err
returns-in-Err g c cause automaton word p =
    let T = weighed g.S.Semiring g.S.Value.PartialEq in
    let q : IsCoefficient T.set cause automaton word (Err c.in-Err.fault) = subst (λ r. IsCoefficient T.set cause automaton word r) c.in-Err.is p in
    subst (λ r. OrMemory (UnlessCause cause (AnswersSteps T automaton word)) (Err r)) (sym c.made_not.ensures) (coefficient_refused T cause automaton word c.in-Err.fault q)
