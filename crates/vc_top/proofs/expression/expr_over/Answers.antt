use Rattle.vc_expr.specs.Names.{tree_of}
use Rattle.vc_exprio.specs.Occurring.{letters_over}
use Rattle.vc_ring.specs.Weighed.{weighed}
use Rattle.vc_top.specs.Reasons.{reason_of}
use Rattle.vc_top.proofs.Expressed.{expression_not, expression_printed}
use Rattle.vc_top.proofs.expression.expr_over.Goals as goal

pub returns-in-Ok-line_of : goal.returns-in-Ok-line_of
returns-in-Ok-line_of g c =
    let T = weighed g.S.Semiring g.S.Value.PartialEq in
    let sets = g.L.LabelSet.sets c.args.labels.now in
    let s = c.read_over.new.exprs in
    let e = c.in-Ok.e in
    let has = c.in-Ok.ensures.has in
    expression_printed T sets c.args.text.now (tree_of s e) c.in-Ok-line_of.line c.in-Ok.ensures.read c.in-Ok-line_of.ensures
    (c.canonical_texts_are_read.ensures T.set g.met.S.Semiring.laws T.same g.met.S.Semiring.same T.spelled T.numbers_fit T.canonical g.met.S.Semiring.texts sets (letters_over sets) (tree_of s e)
    (c.stores_are_valid.ensures.built e has) (c.stores_are_valid.ensures.values e has) c.in-Ok.ensures.labels)

pub returns-in-Err : goal.returns-in-Err
returns-in-Err g c =
    let T = weighed g.S.Semiring g.S.Value.PartialEq in
    expression_not T (g.L.LabelSet.sets c.args.labels.now) c.args.text.now (reason_of c.in-Err.refusal) c.in-Err.ensures.read
