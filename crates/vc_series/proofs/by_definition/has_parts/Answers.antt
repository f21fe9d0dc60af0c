use Rattle.std.proofs.Common.{rules, ◌≡◌, Some, None}
use Rattle.vc_label.specs.Borrowed.{word_of}
use Rattle.vc_model.specs.Words.{cut}
use Rattle.vc_series.proofs.Pairs.{rest_tells, no_rest}
use Rattle.vc_series.proofs.by_definition.has_parts.Goals as goal

pub returns-in-Some : goal.returns-in-Some
returns-in-Some g c =
    let e : Some (word_of c.in-Some.rest) ≡ cut (g.L.LabelSet.parts c.args.label.now) (word_of c.args.word) = search rules in
    search (rules, rest_tells (g.L.LabelSet.parts c.args.label.now) (word_of c.args.word) (word_of c.in-Some.rest) e)

pub returns-in-None : goal.returns-in-None
returns-in-None g c =
    let e : None ≡ cut (g.L.LabelSet.parts c.args.label.now) (word_of c.args.word) = search rules in
    no_rest (g.L.LabelSet.parts c.args.label.now) (word_of c.args.word) e
