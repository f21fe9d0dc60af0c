use Rattle.std.proofs.Common.{◌∙◌, ap, subst}
use Rattle.vc_terms.specs.Terms.{Sum, Product, terms_of}
use Rattle.vc_expr.specs.Nodes.{row_of}
use Rattle.vc_expr.specs.Rows.{tree_of_row, HasPartsBelow}
use Rattle.vc_expr.proofs.StoreLaws.{trees_at_places, below_has}
use Rattle.vc_expr.proofs.store.Exprs.node.Goals as goal

pub returns-in-Sum : goal.returns-in-Sum
returns-in-Sum g c =
    rw c.as_slice.ensures.value (
      c.stored.ensures.tree ∙ ap (λ k. tree_of_row c.args.self.now (row_of g.L.LabelSet.parts k)) c.in-Sum.is ∙ ap (λ ts. Sum (terms_of ts)) (trees_at_places c.args.self.now c.in-Sum.parts.items),
      below_has c.args.self.now c.args.e.at c.in-Sum.parts.items c.requires (subst (λ k. HasPartsBelow c.args.e.at (row_of g.L.LabelSet.parts k)) c.in-Sum.is c.stored.ensures.parts),
    )

pub returns-in-Product : goal.returns-in-Product
returns-in-Product g c =
    rw c.as_slice-in-Product.ensures.value (
      c.stored.ensures.tree ∙ ap (λ k. tree_of_row c.args.self.now (row_of g.L.LabelSet.parts k)) c.in-Product.is ∙ ap (λ ts. Product (terms_of ts)) (trees_at_places c.args.self.now c.in-Product.parts.items),
      below_has c.args.self.now c.args.e.at c.in-Product.parts.items c.requires (subst (λ k. HasPartsBelow c.args.e.at (row_of g.L.LabelSet.parts k)) c.in-Product.is c.stored.ensures.parts),
    )
