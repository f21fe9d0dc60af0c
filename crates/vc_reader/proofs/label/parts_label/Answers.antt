use Rattle.std.proofs.Common.{subst}
use Rattle.std.specs.Result.{IfOk}
use Rattle.std.specs.Option.{option_map}
use Rattle.vc_lex.specs.Labels.{IsLabelAnswer}
use Rattle.vc_reader.proofs.Parts.{seven_parts, many_parts}
use Rattle.vc_reader.proofs.label.parts_label.Goals as goal

pub returns-then-count-eq7 : goal.returns-then-count-eq7
returns-then-count-eq7 g c =
    subst (λ w. IfOk c.label_of_four.result (λ o. IsLabelAnswer (g.L.LabelSet.sets c.args.labels.now) w (option_map g.L.LabelSet.parts o)))
    (seven_parts c.args.label.now _ _ _ _ c.if-count-eq7.true) c.label_of_four.ensures

pub returns : goal.returns
returns g c =
    many_parts (g.L.LabelSet.sets c.args.labels.now) c.args.label.now (g.met.L.LabelSet.few_tapes c.args.labels.now).1
    (c.words_are_over_sets.ensures.tapes (g.L.LabelSet.sets c.args.labels.now)) c.requires
    c.if-count-eq1.false c.if-count-eq3.false c.if-count-eq5.false c.if-count-eq7.false
