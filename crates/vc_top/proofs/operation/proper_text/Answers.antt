use Rattle.std.proofs.Common.{subst}
use Rattle.vc_aut.specs.Labelled.{Labelled}
use Rattle.vc_ring.specs.Weighed.{weighed}
use Rattle.vc_top.specs.Automata.{Prints}
use Rattle.vc_top.specs.Outcomes.{OrMemory}
use Rattle.vc_top.specs.Reasons.{reason_of}
use Rattle.vc_top.specs.Views.{answer_of}
use Rattle.vc_top.proofs.Closed.{proper_given, proper_refused}
use Rattle.vc_top.proofs.operation.proper_text.Goals as goal

pub returns-in-Ok : goal.returns-in-Ok
returns-in-Ok g c =
    let T = weighed g.S.Semiring g.S.Value.PartialEq in
    let w = c.args.context.now.weights in
    let p = c.in-Ok.proper in
    let b = answer_of c.text_of.result in
    let printed : OrMemory (Prints T w p) b = subst (λ (x : Labelled g.row.S-Value.Denot). OrMemory (Prints T w x) b) c.automaton.ensures c.text_of.ensures in
    proper_given T g.S.Semiring.ABSORBS c.args.automaton.now (Prints T w) p b c.in-Ok.ensures.closed (λ s. printed)

pub returns-in-Err : goal.returns-in-Err
returns-in-Err g c =
    let T = weighed g.S.Semiring g.S.Value.PartialEq in
    proper_refused T g.S.Semiring.ABSORBS c.args.automaton.now (Prints T c.args.context.now.weights) (reason_of c.in-Err.refusal) c.in-Err.ensures.closed
