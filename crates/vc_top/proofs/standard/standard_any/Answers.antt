use Rattle.vc_context.specs.declared.context.AnyLabels.TheVariants as labels
use Rattle.vc_ring.specs.Weighed.{weighed}
use Rattle.vc_top.specs.Standards.{AnswersStandardOver}
use Rattle.vc_top.specs.Views.{answer_of}
use Rattle.vc_top.proofs.Constructed.{at_labels}
use Rattle.vc_top.proofs.standard.standard_any.Goals as goal

pub returns-in-Letters : goal.returns-in-Letters
returns-in-Letters g c =
    let T = weighed g.S.Semiring g.S.Value.PartialEq in
    at_labels (λ s. AnswersStandardOver T s c.args.context.now.weights c.args.text.now c.args.limit) c.args.context.now.labels (labels.Letters c.in-Letters.labels) _ (answer_of c.standard_over.result) c.in-Letters.is (c.labels_have_tapes.ensures.letters c.in-Letters.labels) c.standard_over.ensures

pub returns-in-Nullable : goal.returns-in-Nullable
returns-in-Nullable g c =
    let T = weighed g.S.Semiring g.S.Value.PartialEq in
    at_labels (λ s. AnswersStandardOver T s c.args.context.now.weights c.args.text.now c.args.limit) c.args.context.now.labels (labels.Nullable c.in-Nullable.labels) _ (answer_of c.standard_over-in-Nullable.result) c.in-Nullable.is (c.labels_have_tapes.ensures.nullable c.in-Nullable.labels) c.standard_over-in-Nullable.ensures

pub returns-in-Words : goal.returns-in-Words
returns-in-Words g c =
    let T = weighed g.S.Semiring g.S.Value.PartialEq in
    at_labels (λ s. AnswersStandardOver T s c.args.context.now.weights c.args.text.now c.args.limit) c.args.context.now.labels (labels.Words c.in-Words.labels) _ (answer_of c.standard_over-in-Words.result) c.in-Words.is (c.labels_have_tapes.ensures.words c.in-Words.labels) c.standard_over-in-Words.ensures

pub returns-in-Tuple : goal.returns-in-Tuple
returns-in-Tuple g c =
    let T = weighed g.S.Semiring g.S.Value.PartialEq in
    at_labels (λ s. AnswersStandardOver T s c.args.context.now.weights c.args.text.now c.args.limit) c.args.context.now.labels (labels.Tuple c.in-Tuple.labels) _ (answer_of c.standard_over-in-Tuple.result) c.in-Tuple.is (c.labels_have_tapes.ensures.tuple c.in-Tuple.labels) c.standard_over-in-Tuple.ensures
