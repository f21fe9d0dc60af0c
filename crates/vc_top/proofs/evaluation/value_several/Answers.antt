use Rattle.vc_eval.specs.Cells.{tuple_refusal}
use Rattle.vc_label.specs.Borrowed.{word_of}
use Rattle.vc_ring.specs.Weighed.{weighed}
use Rattle.vc_top.specs.Views.{answer_of}
use Rattle.vc_top.proofs.Evaluated.{several_answered, tuple_coefficient}
use Rattle.vc_top.proofs.evaluation.value_several.Goals as goal

pub returns : goal.returns
returns g c =
    let T = weighed g.S.Semiring g.S.Value.PartialEq in
    let a = c.args.automaton.now in
    let w = word_of c.args.word in
    several_answered T a w (answer_of c.answer_with.result) c.requires.several
    (c.answer_with.ensures (tuple_refusal a.automaton w) a.automaton w (tuple_coefficient T a.automaton w c.eval_tuple.result c.eval_tuple.ensures.answer))
