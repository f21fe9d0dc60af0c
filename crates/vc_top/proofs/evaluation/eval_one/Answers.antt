use Rattle.std.proofs.Common.{subst}
use Rattle.vc_model.specs.Words.{Word}
use Rattle.vc_ring.specs.Weighed.{weighed}
use Rattle.vc_top.specs.Evaluations.{AnswersWord}
use Rattle.vc_top.specs.Outcomes.{OrMemory}
use Rattle.vc_top.specs.Reasons.{reason_of}
use Rattle.vc_top.specs.Views.{answer_of}
use Rattle.vc_top.proofs.Closed.{pair_answered, pair_refused}
use Rattle.vc_top.proofs.evaluation.eval_one.Goals as goal

pub returns-in-Ok : goal.returns-in-Ok
returns-in-Ok g c =
    let T = weighed g.S.Semiring g.S.Value.PartialEq in
    let w = c.in-Ok.word in
    let p = c.in-Ok.proper in
    let b = answer_of c.value_one.result in
    let at : OrMemory (AnswersWord T p w) b = subst (λ (v : Word). OrMemory (AnswersWord T p v) b) c.word-in-Ok.ensures c.value_one.ensures in
    pair_answered T g.S.Semiring.ABSORBS c.args.automaton c.args.text.now w p b c.in-Ok.ensures.tapes c.in-Ok.ensures.read at

pub returns-in-Err : goal.returns-in-Err
returns-in-Err g c = pair_refused (weighed g.S.Semiring g.S.Value.PartialEq) g.S.Semiring.ABSORBS c.args.automaton c.args.text.now (reason_of c.in-Err.refusal) c.in-Err.ensures.read
