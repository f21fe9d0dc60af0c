use Rattle.std.proofs.Common.{◌≡◌, ◌+◌, map, drop}
use Rattle.vc_expr.specs.Names.{tree_of, trees_of}
use Rattle.vc_ring.specs.declared.faults.Overflow.{Overflow}
use Rattle.vc_terms.specs.Terms.{terms_of}
use Rattle.vc_standard.specs.Shapes.{chain_of, shape_of}
use Rattle.vc_standard.specs.Steps.{IsStepOfSum, IsStepOfProduct}
use Rattle.vc_standard.specs.Structures.{bare, beside_all, chained_all}
use Rattle.vc_standard.specs.Work.{work_of, works_of}
use Rattle.vc_standard.proofs.build.+build.Given as goal

abbrev pub decreases-build : goal.decreases-build
decreases-build g l = work_of (tree_of l.exprs.now l.e)

abbrev pub decreases-build_sum : goal.decreases-build_sum
decreases-build_sum g l = 1 + works_of (terms_of (trees_of l.exprs.now l.parts.now))

abbrev pub decreases-build_product : goal.decreases-build_product
decreases-build_product g l = 1 + works_of (terms_of (trees_of l.exprs.now l.parts.now))

abbrev pub decreases-build_star : goal.decreases-build_star
decreases-build_star g l = 1 + work_of (tree_of l.exprs.now l.part)

abbrev pub decreases-build_weight : goal.decreases-build_weight
decreases-build_weight g l = 1 + work_of (tree_of l.exprs.now l.part)

abbrev pub decreases-build_both : goal.decreases-build_both
decreases-build_both g l = 1 + (work_of (tree_of l.exprs.now l.a) + work_of (tree_of l.exprs.now l.b))

abbrev pub decreases-build_shuffle : goal.decreases-build_shuffle
decreases-build_shuffle g l = 1 + (work_of (tree_of l.exprs.now l.a) + work_of (tree_of l.exprs.now l.b))

-- the members so far stand in the structure
abbrev pub invariant-build_sum-loop-i : goal.invariant-build_sum-loop-i
invariant-build_sum-loop-i g l =
    let R = g.S.Semiring.set in
    let equal = g.S.Value.PartialEq.eq in
    let A = shape_of g.L.LabelSet.parts l.all in
    record {
      made : beside_all R equal A (terms_of (map (tree_of l.exprs) (drop l.i l.parts))) ≡ beside_all R equal (bare R.zero) (terms_of (map (tree_of l.exprs) l.parts));
      left : (o : Overflow g.row.S-Value.Denot) → IsStepOfSum R equal A (terms_of (map (tree_of l.exprs) (drop l.i l.parts))) o → IsStepOfSum R equal (bare R.zero) (terms_of (map (tree_of l.exprs) l.parts)) o;
    }

abbrev pub invariant-build_product-loop-i : goal.invariant-build_product-loop-i
invariant-build_product-loop-i g l =
    let R = g.S.Semiring.set in
    let equal = g.S.Value.PartialEq.eq in
    let A = chain_of g.L.LabelSet.parts l.chain in
    record {
      made : chained_all R equal A (terms_of (map (tree_of l.exprs) (drop l.i l.parts))) ≡ chained_all R equal (bare R.one) (terms_of (map (tree_of l.exprs) l.parts));
      left : (o : Overflow g.row.S-Value.Denot) → IsStepOfProduct R equal A (terms_of (map (tree_of l.exprs) (drop l.i l.parts))) o → IsStepOfProduct R equal (bare R.one) (terms_of (map (tree_of l.exprs) l.parts)) o;
    }
