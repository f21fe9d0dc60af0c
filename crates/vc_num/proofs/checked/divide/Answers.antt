use Rattle.std.proofs.Common.{arith, ◌≡◌, ◌<◌, ℕ, ◌^◌, ℤ, pos, ◌<ℤ◌, FitsSigned, to_z, of_z, int_div, nat_lt, IsTrue}
use Rattle.std.proofs.lemmas.Int.{ints, to_z-of_z, to_z_pos, quot_fits}
use mir.Syntax.{w128}
use Rattle.vc_num.proofs.checked.divide.Goals as goal

below : (n m : ℕ) → IsTrue (nat_lt n m) → n < m
below n m h = grind arith

fits : (a : ℤ) (b : ℕ) → FitsSigned w128 a → 0 < b → b < 2 ^ 127 → FitsSigned w128 (int_div (to_z w128 (of_z w128 a)) (to_z w128 b))
fits a b f p h =
    let positive : pos 0 <ℤ pos b = omega (arith, ints) in
    rw (to_z-of_z w128 a f, to_z_pos w128 b h) (quot_fits w128 a (pos b) f positive)

is : (a : ℤ) (b : ℕ) → FitsSigned w128 a → 0 < b → b < 2 ^ 127 → to_z w128 (of_z w128 (int_div (to_z w128 (of_z w128 a)) (to_z w128 b))) ≡ int_div a (pos b)
is a b f p h =
    let positive : pos 0 <ℤ pos b = omega (arith, ints) in
    rw (to_z-of_z w128 a f, to_z_pos w128 b h) (to_z-of_z w128 (int_div a (pos b)) (quot_fits w128 a (pos b) f positive))

pub nonzero_div-result : goal.nonzero_div-result
nonzero_div-result c = (c.requires.positive, fits _ _ c.ranges.a c.requires.positive (below _ _ c.requires.by_in))

pub returns : goal.returns
returns c = is _ _ c.ranges.a c.requires.positive (below _ _ c.requires.by_in)
