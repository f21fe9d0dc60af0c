use Rattle.std.proofs.Common.{List, ℕ, length, sym, subst}
use Rattle.std.specs.List.Sorted.{IsNonDecreasing}
use Rattle.std.proofs.lemmas.List.Sorted.{IsNonDecreasingBy-from_sort}
use Rattle.vc_closure.specs.Rows.{AreSums}
use Rattle.vc_closure.proofs.RowSums.{sums_permuted}
use Rattle.vc_closure.proofs.sums.take_row.Goals as goal

pub move_sums-requires-clause-sums : goal.move_sums-requires-clause-sums
move_sums-requires-clause-sums g c =
    let R = g.S.Semiring.set in
    subst (λ (xs : List g.row.S-Value.Denot). AreSums R (length xs) xs c.deref.result.now) (sym c.deref_mut.ensures.value)
    (subst (λ (xs : List ℕ). AreSums R (length c.args.sums.now.sums.items) c.args.sums.now.sums.items xs) (sym c.deref.ensures.value)
    (sums_permuted R (length c.args.sums.now.sums.items) c.args.sums.now.sums.items c.args.sums.now.touched.items c.sort_unstable.new.self.items c.sort_unstable.ensures.permutation c.requires))

pub move_sums-requires-clause-order : goal.move_sums-requires-clause-order
move_sums-requires-clause-order g c =
    subst (λ (xs : List ℕ). IsNonDecreasing xs) (sym c.deref.ensures.value) (IsNonDecreasingBy-from_sort (λ x. x) c.sort_unstable.new.self.items c.sort_unstable.ensures.sorted)
