use Rattle.vc_eval.specs.Cells.{cells_refusal}
use Rattle.vc_label.specs.Borrowed.{word_of}
use Rattle.vc_ring.specs.Weighed.{weighed}
use Rattle.vc_top.specs.Views.{answer_of}
use Rattle.vc_top.proofs.Evaluated.{one_answered}
use Rattle.vc_top.proofs.evaluation.value_one.Goals as goal

pub returns : goal.returns
returns g c =
    let T = weighed g.S.Semiring g.S.Value.PartialEq in
    let a = c.args.automaton.now in
    let w = word_of c.args.word in
    one_answered T a w (answer_of c.answer_with.result) c.requires.one (c.answer_with.ensures (cells_refusal a.automaton) a.automaton w c.eval_one_tape.ensures.answer)
