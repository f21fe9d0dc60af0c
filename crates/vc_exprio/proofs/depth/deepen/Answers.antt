use Rattle.std.proofs.Common.{◌≡◌, ◌-◌, ℕ, List, length, drop, ap, arith}
use Rattle.vc_exprio.specs.Depths.{greatest}
use Rattle.vc_exprio.proofs.StepDepths.{drop_less, take_less}
use Rattle.vc_exprio.proofs.depth.deepen.Goals as goal

pub overflow_add-most : goal.overflow_add-most
overflow_add-most c =
    let e = c.greatest-most.ensures in
    let v = c.deref.ensures.value in
    let r = c.requires in
    let k : ℕ = c.saturating_sub-at.result in
    let xs : List ℕ = c.deref.result.now in
    let a = take_less (length xs - k) (drop k xs) in
    let b = drop_less k xs in
    let g : greatest xs ≡ greatest c.args.depths.now.items = ap greatest v in
    omega (arith, e, a, b, g, r)
