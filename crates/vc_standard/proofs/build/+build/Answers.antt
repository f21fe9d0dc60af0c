use Rattle.std.proofs.Common.{rules, ◌≡◌, ◌≤◌, ◌∙◌, [], ap, ap₂, sym, subst, map, length, drop, inl, inr}
use Rattle.std.specs.Prelude.{All, IfErr, IfOk}
use Rattle.vc_expr.specs.Shows.{Shows}
use Rattle.vc_expr.specs.Names.{Has, tree_of, trees_of, sum_at, product_at}
use Rattle.vc_terms.specs.Terms.{terms_of, Atom, Star, Weight, Both, Shuffle}
use Rattle.vc_standard.specs.Named.{IsLarge, NamesMore}
use Rattle.vc_standard.specs.Refusals.{IsFault}
use Rattle.vc_standard.specs.Shapes.{chain_of, shape_of}
use Rattle.vc_standard.specs.Steps.{IsStep}
use Rattle.vc_standard.specs.Structures.{beside_all, chained_all, conjoined, looped, shuffled, standard_of, weighted}
use Rattle.vc_standard.proofs.Faults.{if_err, none_left, passed_on, read_at, residual}
use Rattle.vc_standard.proofs.TreeLaws.{sum_next, sum_step_part, sum_step_here, sum_step_next, sum_large, product_next, product_step_part, product_step_here, product_step_next, product_large, one_names, has_star, star_taken, star_fault, weight_fault, both_fault, shuffle_fault}
use Rattle.vc_standard.proofs.build.+build.Goals as goal

pub build_sum-returns-in_err-next-clause-fault : goal.build_sum-returns-in_err-next-clause-fault
build_sum-returns-in_err-next-clause-fault g t c =
    let parts = g.L.LabelSet.parts in
    let R = g.S.Semiring.set in
    let eq = g.S.Value.PartialEq.eq in
    let s = c.args.exprs.now in
    let tree = tree_of s c.part_at-part.result in
    let A = shape_of parts c.loop-i.all in
    let P = IsStep R eq (sum_at s c.args.parts.now) in
    let named = NamesMore R eq 4000000 (sum_at s c.args.parts.now) in
    let fault : IsFault R P named c.in_err-next.field-0.0 =
    passed_on R (IsStep R eq tree) P (NamesMore R eq 4000000 tree) named (sum_step_part R eq (tree_of s) c.args.parts.now c.loop-i.i c.part_at-part.result c.loop-i-test.true c.part_at-part.ensures A P c.loop-i.invariant.left)
    (λ h. inr (one_names R eq 4000000 (trees_of s c.args.parts.now) tree (read_at (tree_of s) c.args.parts.now c.loop-i.i c.part_at-part.result c.loop-i-test.true c.part_at-part.ensures) h)) c.in_err-next.field-0.0 c.in_err-next.ensures.fault in
    residual _ c.in_err-next.field-0.0 (λ f. IsFault R P named f) c.from_residual.ensures.1 fault

pub build_sum-returns-in_err-all-clause-fault : goal.build_sum-returns-in_err-all-clause-fault
build_sum-returns-in_err-all-clause-fault g t c =
    let parts = g.L.LabelSet.parts in
    let R = g.S.Semiring.set in
    let eq = g.S.Value.PartialEq.eq in
    let s = c.args.exprs.now in
    let tree = tree_of s c.part_at-part.result in
    let A = shape_of parts c.loop-i.all in
    let B = shape_of parts c.in_ok-next.next in
    let P = IsStep R eq (sum_at s c.args.parts.now) in
    let named = NamesMore R eq 4000000 (sum_at s c.args.parts.now) in
    let fault : IsFault R P named c.in_err-all.field-0.0 =
    passed_on R _ P _ named (sum_step_here R eq (tree_of s) c.args.parts.now c.loop-i.i c.part_at-part.result c.loop-i-test.true c.part_at-part.ensures A B c.in_ok-next.ensures.shape P c.loop-i.invariant.left)
    (λ h. inl (sum_large R eq (tree_of s) c.args.parts.now c.loop-i.i c.part_at-part.result c.loop-i-test.true c.part_at-part.ensures A B _ c.in_ok-next.ensures.shape c.loop-i.invariant.made 4000000 h)) c.in_err-all.field-0.0 c.in_err-all.ensures.fault in
    residual _ c.in_err-all.field-0.0 (λ f. IsFault R P named f) c.from_residual-in_err-all.ensures.1 fault

pub build_sum-loop-i-preserved : goal.build_sum-loop-i-preserved
build_sum-loop-i-preserved g t c =
    let parts = g.L.LabelSet.parts in
    let R = g.S.Semiring.set in
    let eq = g.S.Value.PartialEq.eq in
    let s = c.args.exprs.now in
    let tree = tree_of s c.part_at-part.result in
    let A = shape_of parts c.loop-i.all in
    let B = shape_of parts c.in_ok-next.next in
    record {
      made = sum_next R eq (tree_of s) c.args.parts.now c.loop-i.i c.part_at-part.result c.loop-i-test.true c.part_at-part.ensures A B (shape_of parts c.in_ok-all.all) _ c.in_ok-next.ensures.shape c.in_ok-all.ensures.shape c.loop-i.invariant.made;
      left = sum_step_next R eq (tree_of s) c.args.parts.now c.loop-i.i c.part_at-part.result c.loop-i-test.true c.part_at-part.ensures A B (shape_of parts c.in_ok-all.all) c.in_ok-next.ensures.shape c.in_ok-all.ensures.shape (IsStep R eq (sum_at s c.args.parts.now)) c.loop-i.invariant.left;
    }

pub build_product-returns-in_err-next-clause-fault : goal.build_product-returns-in_err-next-clause-fault
build_product-returns-in_err-next-clause-fault g t c =
    let parts = g.L.LabelSet.parts in
    let R = g.S.Semiring.set in
    let eq = g.S.Value.PartialEq.eq in
    let s = c.args.exprs.now in
    let tree = tree_of s c.part_at-part.result in
    let A = chain_of parts c.loop-i.chain in
    let P = IsStep R eq (product_at s c.args.parts.now) in
    let named = NamesMore R eq 4000000 (product_at s c.args.parts.now) in
    let fault : IsFault R P named c.in_err-next.field-0.0 =
    passed_on R (IsStep R eq tree) P (NamesMore R eq 4000000 tree) named (product_step_part R eq (tree_of s) c.args.parts.now c.loop-i.i c.part_at-part.result c.loop-i-test.true c.part_at-part.ensures A P c.loop-i.invariant.left)
    (λ h. inr (one_names R eq 4000000 (trees_of s c.args.parts.now) tree (read_at (tree_of s) c.args.parts.now c.loop-i.i c.part_at-part.result c.loop-i-test.true c.part_at-part.ensures) h)) c.in_err-next.field-0.0 c.in_err-next.ensures.fault in
    residual _ c.in_err-next.field-0.0 (λ f. IsFault R P named f) c.from_residual.ensures.1 fault

pub build_product-returns-in_err-chain-clause-fault : goal.build_product-returns-in_err-chain-clause-fault
build_product-returns-in_err-chain-clause-fault g t c =
    let parts = g.L.LabelSet.parts in
    let R = g.S.Semiring.set in
    let eq = g.S.Value.PartialEq.eq in
    let s = c.args.exprs.now in
    let tree = tree_of s c.part_at-part.result in
    let A = chain_of parts c.loop-i.chain in
    let B = shape_of parts c.in_ok-next.next in
    let P = IsStep R eq (product_at s c.args.parts.now) in
    let named = NamesMore R eq 4000000 (product_at s c.args.parts.now) in
    let fault : IsFault R P named c.in_err-chain.field-0.0 =
    passed_on R _ P _ named (product_step_here R eq (tree_of s) c.args.parts.now c.loop-i.i c.part_at-part.result c.loop-i-test.true c.part_at-part.ensures A B c.in_ok-next.ensures.shape P c.loop-i.invariant.left)
    (λ h. inl (product_large R eq (tree_of s) c.args.parts.now c.loop-i.i c.part_at-part.result c.loop-i-test.true c.part_at-part.ensures A B _ c.in_ok-next.ensures.shape c.loop-i.invariant.made 4000000 h)) c.in_err-chain.field-0.0 c.in_err-chain.ensures.fault in
    residual _ c.in_err-chain.field-0.0 (λ f. IsFault R P named f) c.from_residual-in_err-chain.ensures.1 fault

pub build_product-loop-i-preserved : goal.build_product-loop-i-preserved
build_product-loop-i-preserved g t c =
    let parts = g.L.LabelSet.parts in
    let R = g.S.Semiring.set in
    let eq = g.S.Value.PartialEq.eq in
    let s = c.args.exprs.now in
    let tree = tree_of s c.part_at-part.result in
    let A = chain_of parts c.loop-i.chain in
    let B = shape_of parts c.in_ok-next.next in
    record {
      made = product_next R eq (tree_of s) c.args.parts.now c.loop-i.i c.part_at-part.result c.loop-i-test.true c.part_at-part.ensures A B (chain_of parts c.in_ok-chain.chain) _ c.in_ok-next.ensures.shape c.in_ok-chain.ensures.chain c.loop-i.invariant.made;
      left = product_step_next R eq (tree_of s) c.args.parts.now c.loop-i.i c.part_at-part.result c.loop-i-test.true c.part_at-part.ensures A B (chain_of parts c.in_ok-chain.chain) c.in_ok-next.ensures.shape c.in_ok-chain.ensures.chain (IsStep R eq (product_at s c.args.parts.now)) c.loop-i.invariant.left;
    }

pub build_sum-returns-clause-shape : goal.build_sum-returns-clause-shape
build_sum-returns-clause-shape g t c =
    let parts = g.L.LabelSet.parts in
    let R = g.S.Semiring.set in
    let eq = g.S.Value.PartialEq.eq in
    let s = c.args.exprs.now in
    let done : length c.args.parts.now ≤ c.loop-i.i = search rules in
    let rest : drop c.loop-i.i c.args.parts.now ≡ [] = none_left c.args.parts.now c.loop-i.i done in
    ap (λ es. beside_all R eq (shape_of parts c.loop-i.all) (terms_of (map (tree_of s) es))) (sym rest) ∙ c.loop-i.invariant.made

pub build_product-returns-in_err-whole-clause-fault : goal.build_product-returns-in_err-whole-clause-fault
build_product-returns-in_err-whole-clause-fault g t c =
    let parts = g.L.LabelSet.parts in
    let R = g.S.Semiring.set in
    let eq = g.S.Value.PartialEq.eq in
    let s = c.args.exprs.now in
    let done : length c.args.parts.now ≤ c.loop-i.i = search rules in
    let rest : drop c.loop-i.i c.args.parts.now ≡ [] = none_left c.args.parts.now c.loop-i.i done in
    let P = IsStep R eq (product_at s c.args.parts.now) in
    let named = NamesMore R eq 4000000 (product_at s c.args.parts.now) in
    let whole : chain_of parts c.loop-i.chain ≡ standard_of R eq (product_at s c.args.parts.now) = ap (λ es. chained_all R eq (chain_of parts c.loop-i.chain) (terms_of (map (tree_of s) es))) (sym rest) ∙ c.loop-i.invariant.made in
    let fault : IsFault R P named c.in_err-whole.field-0.0 = passed_on R (λ _. ⊥) P (IsLarge 4000000 (chain_of parts c.loop-i.chain)) named (λ o x. absurd x) (λ h. inl (subst (IsLarge 4000000) whole h)) c.in_err-whole.field-0.0 c.in_err-whole.ensures.fault in
    residual _ c.in_err-whole.field-0.0 (λ f. IsFault R P named f) c.from_residual-in_err-whole.ensures.1 fault

pub build_product-returns-clause-shape : goal.build_product-returns-clause-shape
build_product-returns-clause-shape g t c =
    let parts = g.L.LabelSet.parts in
    let R = g.S.Semiring.set in
    let eq = g.S.Value.PartialEq.eq in
    let s = c.args.exprs.now in
    let done : length c.args.parts.now ≤ c.loop-i.i = search rules in
    let rest : drop c.loop-i.i c.args.parts.now ≡ [] = none_left c.args.parts.now c.loop-i.i done in
    c.in_ok-whole.ensures.shape ∙ ap (λ es. chained_all R eq (chain_of parts c.loop-i.chain) (terms_of (map (tree_of s) es))) (sym rest) ∙ c.loop-i.invariant.made

pub build_star-looped_shape-requires : goal.build_star-looped_shape-requires
build_star-looped_shape-requires g t c =
    let parts = g.L.LabelSet.parts in
    let R = g.S.Semiring.set in
    let eq = g.S.Value.PartialEq.eq in
    let s = c.args.exprs.now in
    has_star g.met.S.Semiring.laws eq (tree_of s c.args.part) c.in_ok-inner.inner.start.last (ap (λ A. A.start.final) c.in_ok-inner.ensures.shape) c.requires.defined

pub build_star-returns-in_err-inner-clause-fault : goal.build_star-returns-in_err-inner-clause-fault
build_star-returns-in_err-inner-clause-fault g t c =
    let parts = g.L.LabelSet.parts in
    let R = g.S.Semiring.set in
    let eq = g.S.Value.PartialEq.eq in
    let s = c.args.exprs.now in
    let P = IsStep R eq (Star (tree_of s c.args.part)) in
    let named = NamesMore R eq 4000000 (Star (tree_of s c.args.part)) in
    let fault : IsFault R P named c.in_err-inner.field-0.0 = passed_on R _ P _ named (λ o h. inl h) (λ h. inr h) c.in_err-inner.field-0.0 c.in_err-inner.ensures.fault in
    residual _ c.in_err-inner.field-0.0 (λ f. IsFault R P named f) c.from_residual.ensures.1 fault

pub build_star-returns-in_err-star-clause-fault : goal.build_star-returns-in_err-star-clause-fault
build_star-returns-in_err-star-clause-fault g t c =
    let parts = g.L.LabelSet.parts in
    let R = g.S.Semiring.set in
    let eq = g.S.Value.PartialEq.eq in
    let s = c.args.exprs.now in
    let P = IsStep R eq (Star (tree_of s c.args.part)) in
    let named = NamesMore R eq 4000000 (Star (tree_of s c.args.part)) in
    let fault : IsFault R P named c.in_err-star.field-0.0 = star_fault g.met.S.Semiring.laws eq (tree_of s c.args.part) (shape_of parts c.in_ok-inner.inner) c.in_ok-inner.ensures.shape c.in_err-star.field-0.0 (R.star c.in_ok-inner.inner.start.last) (star_taken g.met.S.Semiring.laws eq (tree_of s c.args.part) c.in_ok-inner.inner.start.last (ap (λ A. A.start.final) c.in_ok-inner.ensures.shape) c.requires.defined) c.in_err-star.ensures.fault in
    residual _ c.in_err-star.field-0.0 (λ f. IsFault R P named f) c.from_residual-in_err-star.ensures.1 fault

pub build_star-returns-clause-shape : goal.build_star-returns-clause-shape
build_star-returns-clause-shape g t c =
    let parts = g.L.LabelSet.parts in
    let R = g.S.Semiring.set in
    let eq = g.S.Value.PartialEq.eq in
    let s = c.args.exprs.now in
    c.in_ok-star.ensures.shape ∙ ap₂ (looped R eq) (star_taken g.met.S.Semiring.laws eq (tree_of s c.args.part) c.in_ok-inner.inner.start.last (ap (λ A. A.start.final) c.in_ok-inner.ensures.shape) c.requires.defined) c.in_ok-inner.ensures.shape

pub build_weight-returns-in_err-inner-clause-fault : goal.build_weight-returns-in_err-inner-clause-fault
build_weight-returns-in_err-inner-clause-fault g t c =
    let parts = g.L.LabelSet.parts in
    let R = g.S.Semiring.set in
    let eq = g.S.Value.PartialEq.eq in
    let s = c.args.exprs.now in
    let P = IsStep R eq (Weight c.args.k (tree_of s c.args.part)) in
    let named = NamesMore R eq 4000000 (Weight c.args.k (tree_of s c.args.part)) in
    let fault : IsFault R P named c.in_err-inner.field-0.0 = passed_on R _ P _ named (λ o h. inl h) (λ h. inr h) c.in_err-inner.field-0.0 c.in_err-inner.ensures.fault in
    residual _ c.in_err-inner.field-0.0 (λ f. IsFault R P named f) c.from_residual.ensures.1 fault

pub build_weight-returns-in_err-multiple-clause-fault : goal.build_weight-returns-in_err-multiple-clause-fault
build_weight-returns-in_err-multiple-clause-fault g t c =
    let parts = g.L.LabelSet.parts in
    let R = g.S.Semiring.set in
    let eq = g.S.Value.PartialEq.eq in
    let s = c.args.exprs.now in
    let P = IsStep R eq (Weight c.args.k (tree_of s c.args.part)) in
    let named = NamesMore R eq 4000000 (Weight c.args.k (tree_of s c.args.part)) in
    let fault : IsFault R P named c.in_err-multiple.field-0.0 = weight_fault g.met.S.Semiring.laws eq (tree_of s c.args.part) (shape_of parts c.in_ok-inner.inner) c.in_ok-inner.ensures.shape c.in_err-multiple.field-0.0 c.args.k c.in_err-multiple.ensures.fault in
    residual _ c.in_err-multiple.field-0.0 (λ f. IsFault R P named f) c.from_residual-in_err-multiple.ensures.1 fault

pub build_weight-returns-clause-shape : goal.build_weight-returns-clause-shape
build_weight-returns-clause-shape g t c =
    let parts = g.L.LabelSet.parts in
    let R = g.S.Semiring.set in
    let eq = g.S.Value.PartialEq.eq in
    let s = c.args.exprs.now in
    c.in_ok-multiple.ensures.shape ∙ ap (weighted R c.args.k) c.in_ok-inner.ensures.shape

pub build_both-returns-in_err-first-clause-fault : goal.build_both-returns-in_err-first-clause-fault
build_both-returns-in_err-first-clause-fault g t c =
    let parts = g.L.LabelSet.parts in
    let R = g.S.Semiring.set in
    let eq = g.S.Value.PartialEq.eq in
    let s = c.args.exprs.now in
    let P = IsStep R eq (Both (tree_of s c.args.a) (tree_of s c.args.b)) in
    let named = NamesMore R eq 4000000 (Both (tree_of s c.args.a) (tree_of s c.args.b)) in
    let fault : IsFault R P named c.in_err-first.field-0.0 = passed_on R _ P _ named (λ o h. inl h) (λ h. inr (inl h)) c.in_err-first.field-0.0 c.in_err-first.ensures.fault in
    residual _ c.in_err-first.field-0.0 (λ f. IsFault R P named f) c.from_residual.ensures.1 fault

pub build_both-returns-in_err-second-clause-fault : goal.build_both-returns-in_err-second-clause-fault
build_both-returns-in_err-second-clause-fault g t c =
    let parts = g.L.LabelSet.parts in
    let R = g.S.Semiring.set in
    let eq = g.S.Value.PartialEq.eq in
    let s = c.args.exprs.now in
    let P = IsStep R eq (Both (tree_of s c.args.a) (tree_of s c.args.b)) in
    let named = NamesMore R eq 4000000 (Both (tree_of s c.args.a) (tree_of s c.args.b)) in
    let fault : IsFault R P named c.in_err-second.field-0.0 = passed_on R _ P _ named (λ o h. inr (inl h)) (λ h. inr (inr h)) c.in_err-second.field-0.0 c.in_err-second.ensures.fault in
    residual _ c.in_err-second.field-0.0 (λ f. IsFault R P named f) c.from_residual-in_err-second.ensures.1 fault

pub build_both-returns-in_err-pairs-clause-fault : goal.build_both-returns-in_err-pairs-clause-fault
build_both-returns-in_err-pairs-clause-fault g t c =
    let parts = g.L.LabelSet.parts in
    let R = g.S.Semiring.set in
    let eq = g.S.Value.PartialEq.eq in
    let s = c.args.exprs.now in
    let P = IsStep R eq (Both (tree_of s c.args.a) (tree_of s c.args.b)) in
    let named = NamesMore R eq 4000000 (Both (tree_of s c.args.a) (tree_of s c.args.b)) in
    let fault : IsFault R P named c.in_err-pairs.field-0.0 = both_fault g.met.S.Semiring.laws eq (tree_of s c.args.a) (shape_of parts c.in_ok-first.first) c.in_ok-first.ensures.shape c.in_err-pairs.field-0.0 (tree_of s c.args.b) (shape_of parts c.in_ok-second.second) c.in_ok-second.ensures.shape c.in_err-pairs.ensures.fault in
    residual _ c.in_err-pairs.field-0.0 (λ f. IsFault R P named f) c.from_residual-in_err-pairs.ensures.1 fault

pub build_both-returns-clause-shape : goal.build_both-returns-clause-shape
build_both-returns-clause-shape g t c =
    let parts = g.L.LabelSet.parts in
    let R = g.S.Semiring.set in
    let eq = g.S.Value.PartialEq.eq in
    let s = c.args.exprs.now in
    c.in_ok-pairs.ensures.shape ∙ ap₂ (conjoined R) c.in_ok-first.ensures.shape c.in_ok-second.ensures.shape

pub build_shuffle-returns-in_err-first-clause-fault : goal.build_shuffle-returns-in_err-first-clause-fault
build_shuffle-returns-in_err-first-clause-fault g t c =
    let parts = g.L.LabelSet.parts in
    let R = g.S.Semiring.set in
    let eq = g.S.Value.PartialEq.eq in
    let s = c.args.exprs.now in
    let P = IsStep R eq (Shuffle (tree_of s c.args.a) (tree_of s c.args.b)) in
    let named = NamesMore R eq 4000000 (Shuffle (tree_of s c.args.a) (tree_of s c.args.b)) in
    let fault : IsFault R P named c.in_err-first.field-0.0 = passed_on R _ P _ named (λ o h. inl h) (λ h. inr (inl h)) c.in_err-first.field-0.0 c.in_err-first.ensures.fault in
    residual _ c.in_err-first.field-0.0 (λ f. IsFault R P named f) c.from_residual.ensures.1 fault

pub build_shuffle-returns-in_err-second-clause-fault : goal.build_shuffle-returns-in_err-second-clause-fault
build_shuffle-returns-in_err-second-clause-fault g t c =
    let parts = g.L.LabelSet.parts in
    let R = g.S.Semiring.set in
    let eq = g.S.Value.PartialEq.eq in
    let s = c.args.exprs.now in
    let P = IsStep R eq (Shuffle (tree_of s c.args.a) (tree_of s c.args.b)) in
    let named = NamesMore R eq 4000000 (Shuffle (tree_of s c.args.a) (tree_of s c.args.b)) in
    let fault : IsFault R P named c.in_err-second.field-0.0 = passed_on R _ P _ named (λ o h. inr (inl h)) (λ h. inr (inr h)) c.in_err-second.field-0.0 c.in_err-second.ensures.fault in
    residual _ c.in_err-second.field-0.0 (λ f. IsFault R P named f) c.from_residual-in_err-second.ensures.1 fault

pub build_shuffle-returns-in_err-pairs-clause-fault : goal.build_shuffle-returns-in_err-pairs-clause-fault
build_shuffle-returns-in_err-pairs-clause-fault g t c =
    let parts = g.L.LabelSet.parts in
    let R = g.S.Semiring.set in
    let eq = g.S.Value.PartialEq.eq in
    let s = c.args.exprs.now in
    let P = IsStep R eq (Shuffle (tree_of s c.args.a) (tree_of s c.args.b)) in
    let named = NamesMore R eq 4000000 (Shuffle (tree_of s c.args.a) (tree_of s c.args.b)) in
    let fault : IsFault R P named c.in_err-pairs.field-0.0 = shuffle_fault g.met.S.Semiring.laws eq (tree_of s c.args.a) (shape_of parts c.in_ok-first.first) c.in_ok-first.ensures.shape c.in_err-pairs.field-0.0 (tree_of s c.args.b) (shape_of parts c.in_ok-second.second) c.in_ok-second.ensures.shape c.in_err-pairs.ensures.fault in
    residual _ c.in_err-pairs.field-0.0 (λ f. IsFault R P named f) c.from_residual-in_err-pairs.ensures.1 fault

pub build_shuffle-returns-clause-shape : goal.build_shuffle-returns-clause-shape
build_shuffle-returns-clause-shape g t c =
    let parts = g.L.LabelSet.parts in
    let R = g.S.Semiring.set in
    let eq = g.S.Value.PartialEq.eq in
    let s = c.args.exprs.now in
    c.in_ok-pairs.ensures.shape ∙ ap₂ (shuffled R) c.in_ok-first.ensures.shape c.in_ok-second.ensures.shape

pub build-returns-in-Atom-clause-shape : goal.build-returns-in-Atom-clause-shape
build-returns-in-Atom-clause-shape g t c =
    let parts = g.L.LabelSet.parts in
    let R = g.S.Semiring.set in
    let eq = g.S.Value.PartialEq.eq in
    let s = c.args.exprs.now in
    let shown : tree_of s c.args.e ≡ Atom (parts c.in-Atom.label.now) = subst (Shows parts s (tree_of s c.args.e)) c.in-Atom.is c.node.ensures in
    subst (λ t. IfOk c.labelled_shape.result (λ x. shape_of parts x ≡ standard_of R eq t)) (sym shown) c.labelled_shape.ensures.shape

pub build-returns-in-Atom-clause-fault : goal.build-returns-in-Atom-clause-fault
build-returns-in-Atom-clause-fault g t c =
    let parts = g.L.LabelSet.parts in
    let R = g.S.Semiring.set in
    let eq = g.S.Value.PartialEq.eq in
    let s = c.args.exprs.now in
    let shown : tree_of s c.args.e ≡ Atom (parts c.in-Atom.label.now) = subst (Shows parts s (tree_of s c.args.e)) c.in-Atom.is c.node.ensures in
    subst (λ t. IfErr c.labelled_shape.result (λ f. IsFault R (IsStep R eq t) (NamesMore R eq 4000000 t) f)) (sym shown) (if_err c.labelled_shape.result (λ f. IsFault R (λ _. ⊥) ⊥ f) (λ f. IsFault R (IsStep R eq (Atom (parts c.in-Atom.label.now))) (NamesMore R eq 4000000 (Atom (parts c.in-Atom.label.now))) f) (λ f h. passed_on R (λ _. ⊥) _ ⊥ _ (λ o x. absurd x) (λ x. absurd x) f h) c.labelled_shape.ensures.fault)

pub build-returns-in-Sum-clause-shape : goal.build-returns-in-Sum-clause-shape
build-returns-in-Sum-clause-shape g t c =
    let parts = g.L.LabelSet.parts in
    let R = g.S.Semiring.set in
    let eq = g.S.Value.PartialEq.eq in
    let s = c.args.exprs.now in
    let shown : (tree_of s c.args.e ≡ sum_at s c.in-Sum.parts.now) × All (Has s) c.in-Sum.parts.now = subst (Shows parts s (tree_of s c.args.e)) c.in-Sum.is c.node.ensures in
    subst (λ t. IfOk c.build_sum.result (λ x. shape_of parts x ≡ standard_of R eq t)) (sym shown.0) c.build_sum.ensures.shape

pub build-returns-in-Sum-clause-fault : goal.build-returns-in-Sum-clause-fault
build-returns-in-Sum-clause-fault g t c =
    let parts = g.L.LabelSet.parts in
    let R = g.S.Semiring.set in
    let eq = g.S.Value.PartialEq.eq in
    let s = c.args.exprs.now in
    let shown : (tree_of s c.args.e ≡ sum_at s c.in-Sum.parts.now) × All (Has s) c.in-Sum.parts.now = subst (Shows parts s (tree_of s c.args.e)) c.in-Sum.is c.node.ensures in
    subst (λ t. IfErr c.build_sum.result (λ f. IsFault R (IsStep R eq t) (NamesMore R eq 4000000 t) f)) (sym shown.0) c.build_sum.ensures.fault

pub build-returns-in-Product-clause-shape : goal.build-returns-in-Product-clause-shape
build-returns-in-Product-clause-shape g t c =
    let parts = g.L.LabelSet.parts in
    let R = g.S.Semiring.set in
    let eq = g.S.Value.PartialEq.eq in
    let s = c.args.exprs.now in
    let shown : (tree_of s c.args.e ≡ product_at s c.in-Product.parts.now) × All (Has s) c.in-Product.parts.now = subst (Shows parts s (tree_of s c.args.e)) c.in-Product.is c.node.ensures in
    subst (λ t. IfOk c.build_product.result (λ x. shape_of parts x ≡ standard_of R eq t)) (sym shown.0) c.build_product.ensures.shape

pub build-returns-in-Product-clause-fault : goal.build-returns-in-Product-clause-fault
build-returns-in-Product-clause-fault g t c =
    let parts = g.L.LabelSet.parts in
    let R = g.S.Semiring.set in
    let eq = g.S.Value.PartialEq.eq in
    let s = c.args.exprs.now in
    let shown : (tree_of s c.args.e ≡ product_at s c.in-Product.parts.now) × All (Has s) c.in-Product.parts.now = subst (Shows parts s (tree_of s c.args.e)) c.in-Product.is c.node.ensures in
    subst (λ t. IfErr c.build_product.result (λ f. IsFault R (IsStep R eq t) (NamesMore R eq 4000000 t) f)) (sym shown.0) c.build_product.ensures.fault

pub build-returns-in-Star-clause-shape : goal.build-returns-in-Star-clause-shape
build-returns-in-Star-clause-shape g t c =
    let parts = g.L.LabelSet.parts in
    let R = g.S.Semiring.set in
    let eq = g.S.Value.PartialEq.eq in
    let s = c.args.exprs.now in
    let shown : (tree_of s c.args.e ≡ Star (tree_of s c.in-Star.part)) × Has s c.in-Star.part = subst (Shows parts s (tree_of s c.args.e)) c.in-Star.is c.node.ensures in
    subst (λ t. IfOk c.build_star.result (λ x. shape_of parts x ≡ standard_of R eq t)) (sym shown.0) c.build_star.ensures.shape

pub build-returns-in-Star-clause-fault : goal.build-returns-in-Star-clause-fault
build-returns-in-Star-clause-fault g t c =
    let parts = g.L.LabelSet.parts in
    let R = g.S.Semiring.set in
    let eq = g.S.Value.PartialEq.eq in
    let s = c.args.exprs.now in
    let shown : (tree_of s c.args.e ≡ Star (tree_of s c.in-Star.part)) × Has s c.in-Star.part = subst (Shows parts s (tree_of s c.args.e)) c.in-Star.is c.node.ensures in
    subst (λ t. IfErr c.build_star.result (λ f. IsFault R (IsStep R eq t) (NamesMore R eq 4000000 t) f)) (sym shown.0) c.build_star.ensures.fault

pub build-returns-in-Weight-clause-shape : goal.build-returns-in-Weight-clause-shape
build-returns-in-Weight-clause-shape g t c =
    let parts = g.L.LabelSet.parts in
    let R = g.S.Semiring.set in
    let eq = g.S.Value.PartialEq.eq in
    let s = c.args.exprs.now in
    let shown : (tree_of s c.args.e ≡ Weight c.in-Weight.k (tree_of s c.in-Weight.part)) × Has s c.in-Weight.part = subst (Shows parts s (tree_of s c.args.e)) c.in-Weight.is c.node.ensures in
    subst (λ t. IfOk c.build_weight.result (λ x. shape_of parts x ≡ standard_of R eq t)) (sym shown.0) c.build_weight.ensures.shape

pub build-returns-in-Weight-clause-fault : goal.build-returns-in-Weight-clause-fault
build-returns-in-Weight-clause-fault g t c =
    let parts = g.L.LabelSet.parts in
    let R = g.S.Semiring.set in
    let eq = g.S.Value.PartialEq.eq in
    let s = c.args.exprs.now in
    let shown : (tree_of s c.args.e ≡ Weight c.in-Weight.k (tree_of s c.in-Weight.part)) × Has s c.in-Weight.part = subst (Shows parts s (tree_of s c.args.e)) c.in-Weight.is c.node.ensures in
    subst (λ t. IfErr c.build_weight.result (λ f. IsFault R (IsStep R eq t) (NamesMore R eq 4000000 t) f)) (sym shown.0) c.build_weight.ensures.fault

pub build-returns-in-Both-clause-shape : goal.build-returns-in-Both-clause-shape
build-returns-in-Both-clause-shape g t c =
    let parts = g.L.LabelSet.parts in
    let R = g.S.Semiring.set in
    let eq = g.S.Value.PartialEq.eq in
    let s = c.args.exprs.now in
    let shown : (tree_of s c.args.e ≡ Both (tree_of s c.in-Both.a) (tree_of s c.in-Both.b)) × Has s c.in-Both.a × Has s c.in-Both.b = subst (Shows parts s (tree_of s c.args.e)) c.in-Both.is c.node.ensures in
    subst (λ t. IfOk c.build_both.result (λ x. shape_of parts x ≡ standard_of R eq t)) (sym shown.0) c.build_both.ensures.shape

pub build-returns-in-Both-clause-fault : goal.build-returns-in-Both-clause-fault
build-returns-in-Both-clause-fault g t c =
    let parts = g.L.LabelSet.parts in
    let R = g.S.Semiring.set in
    let eq = g.S.Value.PartialEq.eq in
    let s = c.args.exprs.now in
    let shown : (tree_of s c.args.e ≡ Both (tree_of s c.in-Both.a) (tree_of s c.in-Both.b)) × Has s c.in-Both.a × Has s c.in-Both.b = subst (Shows parts s (tree_of s c.args.e)) c.in-Both.is c.node.ensures in
    subst (λ t. IfErr c.build_both.result (λ f. IsFault R (IsStep R eq t) (NamesMore R eq 4000000 t) f)) (sym shown.0) c.build_both.ensures.fault

pub build-returns-in-Shuffle-clause-shape : goal.build-returns-in-Shuffle-clause-shape
build-returns-in-Shuffle-clause-shape g t c =
    let parts = g.L.LabelSet.parts in
    let R = g.S.Semiring.set in
    let eq = g.S.Value.PartialEq.eq in
    let s = c.args.exprs.now in
    let shown : (tree_of s c.args.e ≡ Shuffle (tree_of s c.in-Shuffle.a) (tree_of s c.in-Shuffle.b)) × Has s c.in-Shuffle.a × Has s c.in-Shuffle.b = subst (Shows parts s (tree_of s c.args.e)) c.in-Shuffle.is c.node.ensures in
    subst (λ t. IfOk c.build_shuffle.result (λ x. shape_of parts x ≡ standard_of R eq t)) (sym shown.0) c.build_shuffle.ensures.shape

pub build-returns-in-Shuffle-clause-fault : goal.build-returns-in-Shuffle-clause-fault
build-returns-in-Shuffle-clause-fault g t c =
    let parts = g.L.LabelSet.parts in
    let R = g.S.Semiring.set in
    let eq = g.S.Value.PartialEq.eq in
    let s = c.args.exprs.now in
    let shown : (tree_of s c.args.e ≡ Shuffle (tree_of s c.in-Shuffle.a) (tree_of s c.in-Shuffle.b)) × Has s c.in-Shuffle.a × Has s c.in-Shuffle.b = subst (Shows parts s (tree_of s c.args.e)) c.in-Shuffle.is c.node.ensures in
    subst (λ t. IfErr c.build_shuffle.result (λ f. IsFault R (IsStep R eq t) (NamesMore R eq 4000000 t) f)) (sym shown.0) c.build_shuffle.ensures.fault
