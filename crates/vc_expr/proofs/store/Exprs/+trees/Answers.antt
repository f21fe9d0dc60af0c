use Rattle.std.proofs.Common.{◌∙◌, ap, sym}
use Rattle.vc_terms.specs.Terms.{Sum, Product, terms_of}
use Rattle.vc_expr.specs.Names.{trees_of}
use Rattle.vc_expr.specs.Nodes.{row_of}
use Rattle.vc_expr.specs.Rows.{tree_of_row}
use Rattle.vc_expr.proofs.StoreLaws.{trees_at_places}
use Rattle.vc_expr.proofs.store.Exprs.+trees.Goals as goal

pub tree-returns-in_ok-trees-in-Sum : goal.tree-returns-in_ok-trees-in-Sum
tree-returns-in_ok-trees-in-Sum g t c =
    let s = c.args.self.now in
    c.sum_of_trees.ensures ∙ ap (λ ts. Sum (terms_of ts)) (c.in_ok-trees-in-Sum.ensures ∙ ap (λ es. trees_of s es) c.as_slice.ensures.value)
    ∙ sym (c.stored.ensures.tree ∙ ap (λ k. tree_of_row s (row_of g.L.LabelSet.parts k)) c.in-Sum.is ∙ ap (λ ts. Sum (terms_of ts)) (trees_at_places s c.in-Sum.parts.items))

pub tree-returns-in_ok-trees-in-Product : goal.tree-returns-in_ok-trees-in-Product
tree-returns-in_ok-trees-in-Product g t c =
    let s = c.args.self.now in
    c.product_of_trees.ensures ∙ ap (λ ts. Product (terms_of ts)) (c.in_ok-trees-in-Product.ensures ∙ ap (λ es. trees_of s es) c.as_slice-in-Product.ensures.value)
    ∙ sym (c.stored.ensures.tree ∙ ap (λ k. tree_of_row s (row_of g.L.LabelSet.parts k)) c.in-Product.is ∙ ap (λ ts. Product (terms_of ts)) (trees_at_places s c.in-Product.parts.items))
