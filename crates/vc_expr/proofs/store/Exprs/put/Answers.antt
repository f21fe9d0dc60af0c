use Rattle.std.proofs.Common.{ap, sym, Ok}
use Rattle.vc_expr.proofs.PoolLaws.{put_pool, put_nodes}
use Rattle.vc_expr.proofs.store.Exprs.put.Goals as goal

pub invariant_of-self : goal.invariant_of-self
invariant_of-self g c =
    put_nodes g.S.Semiring.set g.S.Value.PartialEq.eq g.L.LabelSet.parts _ c.equal_nodes_are_told.ensures g.L.LabelSet.SINGLE c.self.inside.nodes.entries _ c.args.self.now c.args.node c.args.facts _
    c.self.view_is c.self.invariant c.requires.parts c.requires.facts c.requires.root c.requires.letters c.in-Ok.ensures.index c.in-Ok.ensures.entries

pub returns-in-Ok-clause-answer : goal.returns-in-Ok-clause-answer
returns-in-Ok-clause-answer g c =
    let p = put_pool g.S.Semiring.set g.S.Value.PartialEq.eq g.L.LabelSet.parts _ c.equal_nodes_are_told.ensures c.self.inside.nodes.entries _ c.args.self.now c.args.node c.args.facts _
    c.self.view_is c.self.invariant.pool c.requires.parts c.requires.facts c.requires.root c.in-Ok.ensures.index c.in-Ok.ensures.entries in
    (p.1, ap Ok (sym p.2))

pub returns-in-Ok-clause-grows : goal.returns-in-Ok-clause-grows
returns-in-Ok-clause-grows g c =
    (put_pool g.S.Semiring.set g.S.Value.PartialEq.eq g.L.LabelSet.parts _ c.equal_nodes_are_told.ensures c.self.inside.nodes.entries _ c.args.self.now c.args.node c.args.facts _
    c.self.view_is c.self.invariant.pool c.requires.parts c.requires.facts c.requires.root c.in-Ok.ensures.index c.in-Ok.ensures.entries).3
