use Rattle.std.proofs.Common.{Ok, Err, subst}
use Rattle.vc_ring.specs.Weighed.{weighed}
use Rattle.vc_top.specs.Evaluations.{ReadsWord}
use Rattle.vc_top.specs.Outcomes.{OrMemory}
use Rattle.vc_top.specs.Reasons.{reason_of}
use Rattle.vc_top.proofs.Closed.{pair_no_word, pair_not, pair_read}
use Rattle.vc_top.proofs.evaluation.word_and_proper.Goals as goal

pub returns-in-Err-clause-read : goal.returns-in-Err-clause-read
returns-in-Err-clause-read g c =
    let a = c.args.automaton in
    let text = c.args.text.now in
    let reason = reason_of c.in-Err.refusal in
    pair_no_word (weighed g.S.Semiring g.S.Value.PartialEq) g.S.Semiring.ABSORBS a text reason (subst (λ s. OrMemory (ReadsWord s text) (Err reason)) c.labels.ensures c.in-Err.ensures.word)

pub returns-in-Ok-closed-clause-read : goal.returns-in-Ok-closed-clause-read
returns-in-Ok-closed-clause-read g c =
    let a = c.args.automaton in
    let text = c.args.text.now in
    let w = c.in-Ok.word in
    pair_read (weighed g.S.Semiring g.S.Value.PartialEq) g.S.Semiring.ABSORBS a text w c.in-Ok-closed.proper (subst (λ s. OrMemory (ReadsWord s text) (Ok w)) c.labels.ensures c.in-Ok.ensures.word) c.in-Ok-closed.ensures.closed

pub returns-in-Err-closed-clause-read : goal.returns-in-Err-closed-clause-read
returns-in-Err-closed-clause-read g c =
    let a = c.args.automaton in
    let text = c.args.text.now in
    let w = c.in-Ok.word in
    pair_not (weighed g.S.Semiring g.S.Value.PartialEq) g.S.Semiring.ABSORBS a text w (reason_of c.in-Err-closed.refusal) (subst (λ s. OrMemory (ReadsWord s text) (Ok w)) c.labels.ensures c.in-Ok.ensures.word) c.in-Err-closed.ensures.closed
