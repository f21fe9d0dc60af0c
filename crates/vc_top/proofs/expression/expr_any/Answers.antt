use Rattle.vc_context.specs.declared.context.AnyLabels.TheVariants as labels
use Rattle.vc_ring.specs.Weighed.{weighed}
use Rattle.vc_top.specs.Views.{answer_of}
use Rattle.vc_top.proofs.Expressed.{over_labels}
use Rattle.vc_top.proofs.expression.expr_any.Goals as goal

pub returns-in-Letters : goal.returns-in-Letters
returns-in-Letters g c =
    over_labels (weighed g.S.Semiring g.S.Value.PartialEq) c.args.labels.now (labels.Letters c.in-Letters.labels) c.args.text.now (answer_of c.expr_over.result) c.in-Letters.is
    (c.labels_have_tapes.ensures.letters c.in-Letters.labels) c.expr_over.ensures

pub returns-in-Nullable : goal.returns-in-Nullable
returns-in-Nullable g c =
    over_labels (weighed g.S.Semiring g.S.Value.PartialEq) c.args.labels.now (labels.Nullable c.in-Nullable.labels) c.args.text.now (answer_of c.expr_over-in-Nullable.result) c.in-Nullable.is
    (c.labels_have_tapes.ensures.nullable c.in-Nullable.labels) c.expr_over-in-Nullable.ensures

pub returns-in-Words : goal.returns-in-Words
returns-in-Words g c =
    over_labels (weighed g.S.Semiring g.S.Value.PartialEq) c.args.labels.now (labels.Words c.in-Words.labels) c.args.text.now (answer_of c.expr_over-in-Words.result) c.in-Words.is
    (c.labels_have_tapes.ensures.words c.in-Words.labels) c.expr_over-in-Words.ensures

pub returns-in-Tuple : goal.returns-in-Tuple
returns-in-Tuple g c =
    over_labels (weighed g.S.Semiring g.S.Value.PartialEq) c.args.labels.now (labels.Tuple c.in-Tuple.labels) c.args.text.now (answer_of c.expr_over-in-Tuple.result) c.in-Tuple.is
    (c.labels_have_tapes.ensures.tuple c.in-Tuple.labels) c.expr_over-in-Tuple.ensures
