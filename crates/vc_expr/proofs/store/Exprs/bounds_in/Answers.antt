use Rattle.std.proofs.Common.{refl}
use Rattle.vc_terms.specs.Terms.{bounds_of, terms_of}
use Rattle.vc_expr.specs.Names.{trees_of}
use Rattle.vc_expr.proofs.Saturated.{nothing_left}
use Rattle.vc_expr.proofs.store.Exprs.bounds_in.Goals as goal

pub returns : goal.returns
returns g c =
    nothing_left (λ es. bounds_of (terms_of (trees_of c.args.self.now es))) c.args.parts.now c.loop-part.part-index c.loop-part.total refl c.loop-part-test.false c.loop-part.invariant.1 c.loop-part.invariant.2
