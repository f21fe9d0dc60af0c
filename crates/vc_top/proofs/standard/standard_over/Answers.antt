use Rattle.std.proofs.Common.{subst}
use Rattle.vc_aut.specs.Labelled.{Labelled}
use Rattle.vc_expr.specs.Names.{tree_of}
use Rattle.vc_ring.specs.Weighed.{weighed}
use Rattle.vc_top.specs.Automata.{Prints}
use Rattle.vc_top.specs.Outcomes.{OrMemory}
use Rattle.vc_top.specs.Reasons.{reason_of}
use Rattle.vc_top.specs.Views.{answer_of}
use Rattle.vc_top.proofs.Constructed.{standard_printed, standard_unmade, standard_unread}
use Rattle.vc_top.proofs.standard.standard_over.Goals as goal

pub returns-in-Err : goal.returns-in-Err
returns-in-Err g c =
    standard_unread (weighed g.S.Semiring g.S.Value.PartialEq) (g.L.LabelSet.sets c.args.labels.now) c.args.text.now c.args.context.now.weights c.args.limit (reason_of c.in-Err.refusal) c.in-Err.ensures.read

pub returns-in-Ok-made : goal.returns-in-Ok-made
returns-in-Ok-made g c =
    let T = weighed g.S.Semiring g.S.Value.PartialEq in
    let sets = g.L.LabelSet.sets c.args.labels.now in
    let t = tree_of c.read_over.new.exprs c.in-Ok.e in
    let w = c.args.context.now.weights in
    let p = c.in-Ok-made.proper in
    let b = answer_of c.text_of.result in
    let printed : OrMemory (Prints T w p) b = subst (λ (x : Labelled g.row.S-Value.Denot). OrMemory (Prints T w x) b) c.automaton.ensures c.text_of.ensures in
    standard_printed T sets c.args.text.now w c.args.limit t p b c.in-Ok.ensures.read c.in-Ok-made.ensures.made printed

pub returns-in-Err-made : goal.returns-in-Err-made
returns-in-Err-made g c =
    let T = weighed g.S.Semiring g.S.Value.PartialEq in
    let sets = g.L.LabelSet.sets c.args.labels.now in
    let t = tree_of c.read_over.new.exprs c.in-Ok.e in
    standard_unmade T sets c.args.text.now c.args.context.now.weights c.args.limit t (reason_of c.in-Err-made.refusal) c.in-Ok.ensures.read c.in-Err-made.ensures.made
