use Rattle.vc_ring.specs.Weighed.{weighed}
use Rattle.vc_top.specs.Reasons.{reason_of}
use Rattle.vc_top.specs.Views.{answer_of}
use Rattle.vc_top.proofs.Joined.{first_unclosed, product_answered, second_unclosed, within_second}
use Rattle.vc_top.proofs.product.product_in.Goals as goal

pub returns-in-Err : goal.returns-in-Err
returns-in-Err g c =
    first_unclosed (weighed g.S.Semiring g.S.Value.PartialEq) c.args.product c.args.limit g.S.Semiring.ABSORBS c.args.context.now.weights c.args.first.now c.args.second.now (g.L.LabelSet.sets c.args.labels) c.requires.joint
    (reason_of c.in-Err.refusal) c.in-Err.ensures.closed

pub widened-requires-2 : goal.widened-requires-2
widened-requires-2 g c = within_second c.args.first.now.sets c.args.second.now.sets (g.L.LabelSet.sets c.args.labels) c.requires.joint

pub returns-in-Err-widened : goal.returns-in-Err-widened
returns-in-Err-widened g c =
    second_unclosed (weighed g.S.Semiring g.S.Value.PartialEq) c.args.product c.args.limit g.S.Semiring.ABSORBS c.args.context.now.weights c.args.first.now c.args.second.now (g.L.LabelSet.sets c.args.labels) c.requires.joint
    c.in-Ok.proper.automaton (reason_of c.in-Err-widened.refusal) c.in-Ok.ensures.closed c.in-Err-widened.ensures.closed

pub returns : goal.returns
returns g c =
    product_answered (weighed g.S.Semiring g.S.Value.PartialEq) c.args.product c.args.limit g.S.Semiring.ABSORBS c.args.context.now.weights c.args.first.now c.args.second.now (g.L.LabelSet.sets c.args.labels) c.requires.joint
    c.in-Ok.proper.automaton c.in-Ok-widened.proper.automaton (answer_of c.joined_text.result) c.in-Ok.ensures.closed c.in-Ok-widened.ensures.closed c.joined_text.ensures
