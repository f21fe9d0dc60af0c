use Rattle.std.proofs.Common.{◌≡◌, ◌∙◌, length, ap, sym, subst}
use Rattle.vc_label.specs.Borrowed.{word_of}
use Rattle.vc_series.specs.Conditions.{HasWeightsIn}
use Rattle.vc_series.specs.Trees.{term_of}
use Rattle.vc_expr.specs.Names.{Has, tree_of}
use Rattle.vc_terms.specs.Terms.{HasTapes, IsOnTapes, IsValid}
use Rattle.vc_expression_tests.proofs.Trees.{has_tapes, weights_in, word_tapes}
use Rattle.vc_expression_tests.proofs.coefficients.coefficient_at.Goals as goal

pub coefficient-requires-clause-tapes : goal.coefficient-requires-clause-tapes
coefficient-requires-clause-tapes g c =
    let s = c.read_expr.new.exprs in
    let e = c.in-Ok.e in
    let sets = g.L.LabelSet.sets c.args.labels.now in
    let has : Has s e = c.in-Ok.ensures.answer.0 in
    let h : HasTapes (length sets) (tree_of s e) = has_tapes g.S.Semiring.set g.S.Value.PartialEq.eq sets (tree_of s e) c.in-Ok.ensures.labels
    (c.stores_are_valid.ensures.built e has) (c.stores_are_valid.ensures.joined e c.args.labels.now has) in
    let n : length (word_of c.word.result) ≡ length sets = ap (λ w. length w) c.word.ensures ∙ word_tapes sets c.in-Ok-read_word.at c.in-Ok-read_word.ensures.1 in
    let i : term_of g.L.LabelSet.parts c.in_ok-tree.tree ≡ tree_of s e = c.in_ok-tree.ensures in
    subst (λ m. IsOnTapes m (term_of g.L.LabelSet.parts c.in_ok-tree.tree)) (sym n)
    (subst (IsOnTapes (length sets)) (sym i) ((c.tapes_of_terms.ensures (length sets) (tree_of s e)).0 h).0)

pub coefficient-requires-clause-valid : goal.coefficient-requires-clause-valid
coefficient-requires-clause-valid g c =
    let R = g.S.Semiring.set in
    let s = c.read_expr.new.exprs in
    let e = c.in-Ok.e in
    let sets = g.L.LabelSet.sets c.args.labels.now in
    let has : Has s e = c.in-Ok.ensures.answer.0 in
    let h : HasTapes (length sets) (tree_of s e) = has_tapes R g.S.Value.PartialEq.eq sets (tree_of s e) c.in-Ok.ensures.labels
    (c.stores_are_valid.ensures.built e has) (c.stores_are_valid.ensures.joined e c.args.labels.now has) in
    let n : length (word_of c.word.result) ≡ length sets = ap (λ w. length w) c.word.ensures ∙ word_tapes sets c.in-Ok-read_word.at c.in-Ok-read_word.ensures.1 in
    let i : term_of g.L.LabelSet.parts c.in_ok-tree.tree ≡ tree_of s e = c.in_ok-tree.ensures in
    subst (λ m. IsValid R m (term_of g.L.LabelSet.parts c.in_ok-tree.tree)) (sym n)
    (subst (IsValid R (length sets)) (sym i) (c.stores_are_valid.ensures.valid e (length sets) has h))

pub coefficient-requires-clause-weights : goal.coefficient-requires-clause-weights
coefficient-requires-clause-weights g c =
    let R = g.S.Semiring.set in
    let s = c.read_expr.new.exprs in
    let e = c.in-Ok.e in
    let has : Has s e = c.in-Ok.ensures.answer.0 in
    let i : term_of g.L.LabelSet.parts c.in_ok-tree.tree ≡ tree_of s e = c.in_ok-tree.ensures in
    subst (HasWeightsIn R) (sym i) (weights_in R (tree_of s e) (c.stores_are_valid.ensures.values e has))
