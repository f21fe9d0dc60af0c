use Rattle.std.proofs.Common.{Ok, Err, subst, sym}
use Rattle.vc_expr.specs.Names.{tree_of}
use Rattle.vc_exprio.specs.TextAnswers.{IsTextAnswer}
use Rattle.vc_ring.specs.Weighed.{weighed}
use Rattle.vc_top.specs.Expressions.{ReadsExpression, are_single}
use Rattle.vc_top.specs.Outcomes.{OrMemory}
use Rattle.vc_top.proofs.Expressed.{expression_read, expression_refused, single_tape}
use Rattle.vc_top.proofs.expression.read_over.Goals as goal

pub returns-in-Ok-clause-read : goal.returns-in-Ok-clause-read
returns-in-Ok-clause-read g c =
    let T = weighed g.S.Semiring g.S.Value.PartialEq in
    let sets = g.L.LabelSet.sets c.args.labels.now in
    let text = c.args.text.now in
    let s = c.read_expr.new.exprs in
    let e = c.in-Ok.e in
    let p : IsTextAnswer T (are_single sets) sets text s (Ok e) = subst (λ b. IsTextAnswer T b sets text s (Ok e)) (sym c.requires) c.in-Ok.ensures.answer in
    expression_read T sets text s e
    (λ r. c.read_expressions_have_their_series.ensures T g.met.S.Semiring.laws g.met.S.Semiring.same (are_single sets) sets (single_tape sets) text (tree_of s e) r) p

pub returns-in-Err-clause-read : goal.returns-in-Err-clause-read
returns-in-Err-clause-read g c =
    let T = weighed g.S.Semiring g.S.Value.PartialEq in
    let sets = g.L.LabelSet.sets c.args.labels.now in
    let text = c.args.text.now in
    let s = c.read_expr.new.exprs in
    let f = c.in-Err.fault in
    let p : IsTextAnswer T (are_single sets) sets text s (Err f) = subst (λ b. IsTextAnswer T b sets text s (Err f)) (sym c.requires) c.in-Err.ensures.answer in
    subst (λ r. OrMemory (ReadsExpression T sets text) (Err r)) (sym c.refusal_of.ensures) (expression_refused T sets text s f p)
