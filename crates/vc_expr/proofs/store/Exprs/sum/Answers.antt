use Rattle.std.proofs.Common.{sym, subst}
use Rattle.vc_terms.specs.Terms.{terms_of}
use Rattle.vc_terms.specs.Forms.{AreMembers}
use Rattle.vc_expr.specs.Names.{trees_of}
use Rattle.vc_expr.proofs.StoreLaws.{built_all}
use Rattle.vc_expr.proofs.store.Exprs.sum.Goals as goal

pub close_sum-requires-clause-members : goal.close_sum-requires-clause-members
close_sum-requires-clause-members g c =
    subst (λ ts. AreMembers (terms_of ts)) (sym c.in_ok-members.ensures.trees)
    (c.operations_build_trees.ensures.members g.S.Semiring.set g.S.Value.PartialEq.eq (trees_of c.args.self.now c.args.parts.now)
    (built_all g.S.Semiring.set g.S.Value.PartialEq.eq c.args.self.now c.args.parts.now c.stores_hold.ensures.store c.requires))
