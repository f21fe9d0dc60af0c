use Rattle.std.proofs.Common.{◌≡◌, ◌+◌, ◌-◌, ◌^◌, ◌≤◌, length, drop}
use Rattle.vc_terms.specs.Terms.{bounds_of, terms_of}
use Rattle.vc_expr.specs.Facts.{saturated}
use Rattle.vc_expr.specs.Names.{trees_of}
use Rattle.vc_expr.proofs.store.Exprs.bounds_in.Given as goal

-- with the rest of the parts it makes what all parts make
abbrev pub invariant-loop-part : goal.invariant-loop-part
invariant-loop-part g l =
    (l.part-index ≤ length l.parts)
    × (l.total ≤ 2 ^ 64 - 1)
    × (saturated (l.total + bounds_of (terms_of (trees_of l.self (drop l.part-index l.parts)))) ≡ saturated (bounds_of (terms_of (trees_of l.self l.parts))))
