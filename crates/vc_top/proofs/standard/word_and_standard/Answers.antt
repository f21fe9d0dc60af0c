use Rattle.vc_expr.specs.Names.{tree_of}
use Rattle.vc_ring.specs.Weighed.{weighed}
use Rattle.vc_top.specs.Reasons.{reason_of}
use Rattle.vc_top.proofs.Constructed.{pair_no_expression, pair_no_word, pair_read, pair_unmade}
use Rattle.vc_top.proofs.standard.word_and_standard.Goals as goal

pub returns-in-Err-clause-read : goal.returns-in-Err-clause-read
returns-in-Err-clause-read g c =
    pair_no_expression (weighed g.S.Semiring g.S.Value.PartialEq) (g.L.LabelSet.sets c.args.labels.now) c.args.text.now c.args.word.now (reason_of c.in-Err.refusal) c.in-Err.ensures.read

pub returns-in-Err-word_over-clause-read : goal.returns-in-Err-word_over-clause-read
returns-in-Err-word_over-clause-read g c =
    pair_no_word (weighed g.S.Semiring g.S.Value.PartialEq) (g.L.LabelSet.sets c.args.labels.now) c.args.text.now c.args.word.now (tree_of c.read_over.new.exprs c.in-Ok.e) (reason_of c.in-Err-word_over.refusal)
    c.in-Ok.ensures.read c.in-Err-word_over.ensures.word

pub returns-in-Ok-made-clause-read : goal.returns-in-Ok-made-clause-read
returns-in-Ok-made-clause-read g c =
    pair_read (weighed g.S.Semiring g.S.Value.PartialEq) (g.L.LabelSet.sets c.args.labels.now) c.args.text.now c.args.word.now (tree_of c.read_over.new.exprs c.in-Ok.e) c.in-Ok-word_over.word c.in-Ok-made.proper
    c.in-Ok.ensures.read c.in-Ok-word_over.ensures.word c.in-Ok-made.ensures.made

pub returns-in-Err-made-clause-read : goal.returns-in-Err-made-clause-read
returns-in-Err-made-clause-read g c =
    pair_unmade (weighed g.S.Semiring g.S.Value.PartialEq) (g.L.LabelSet.sets c.args.labels.now) c.args.text.now c.args.word.now (tree_of c.read_over.new.exprs c.in-Ok.e) c.in-Ok-word_over.word (reason_of c.in-Err-made.refusal)
    c.in-Ok.ensures.read c.in-Ok-word_over.ensures.word c.in-Err-made.ensures.made
