use Rattle.std.proofs.Common.{◌≡◌, ◌≤◌, length, drop}
use Rattle.vc_terms.specs.Terms.{terms_of}
use Rattle.vc_terms.specs.Trees.{are_basic}
use Rattle.vc_expr.specs.Names.{trees_of}
use Rattle.vc_expr.proofs.store.Exprs.all_basic.Given as goal

-- the rest of the parts decides
abbrev pub invariant-loop-part : goal.invariant-loop-part
invariant-loop-part g l =
    (l.part-index ≤ length l.parts)
    × (are_basic (terms_of (trees_of l.self (drop l.part-index l.parts))) ≡ are_basic (terms_of (trees_of l.self l.parts)))
