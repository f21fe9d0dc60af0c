use Rattle.vc_context.specs.declared.context.AnyLabels.TheVariants as labels
use Rattle.vc_ring.specs.Weighed.{weighed}
use Rattle.vc_top.specs.Standards.{AnswersEvalTextOver}
use Rattle.vc_top.specs.Views.{answer_of}
use Rattle.vc_top.proofs.Constructed.{at_labels}
use Rattle.vc_top.proofs.standard.eval_text_any.Goals as goal

pub returns-in-Letters : goal.returns-in-Letters
returns-in-Letters g c =
    let T = weighed g.S.Semiring g.S.Value.PartialEq in
    at_labels (λ s. AnswersEvalTextOver T s c.args.text.now c.args.word.now) c.args.labels.now (labels.Letters c.in-Letters.labels) _ (answer_of c.eval_text_one.result) c.in-Letters.is (c.labels_have_tapes.ensures.letters c.in-Letters.labels) c.eval_text_one.ensures

pub returns-in-Nullable : goal.returns-in-Nullable
returns-in-Nullable g c =
    let T = weighed g.S.Semiring g.S.Value.PartialEq in
    at_labels (λ s. AnswersEvalTextOver T s c.args.text.now c.args.word.now) c.args.labels.now (labels.Nullable c.in-Nullable.labels) _ (answer_of c.eval_text_one-in-Nullable.result) c.in-Nullable.is (c.labels_have_tapes.ensures.nullable c.in-Nullable.labels) c.eval_text_one-in-Nullable.ensures

pub returns-in-Words : goal.returns-in-Words
returns-in-Words g c =
    let T = weighed g.S.Semiring g.S.Value.PartialEq in
    at_labels (λ s. AnswersEvalTextOver T s c.args.text.now c.args.word.now) c.args.labels.now (labels.Words c.in-Words.labels) _ (answer_of c.eval_text_one-in-Words.result) c.in-Words.is (c.labels_have_tapes.ensures.words c.in-Words.labels) c.eval_text_one-in-Words.ensures

pub returns-in-Tuple : goal.returns-in-Tuple
returns-in-Tuple g c =
    let T = weighed g.S.Semiring g.S.Value.PartialEq in
    at_labels (λ s. AnswersEvalTextOver T s c.args.text.now c.args.word.now) c.args.labels.now (labels.Tuple c.in-Tuple.labels) _ (answer_of c.eval_text_several.result) c.in-Tuple.is (c.labels_have_tapes.ensures.tuple c.in-Tuple.labels) c.eval_text_several.ensures
