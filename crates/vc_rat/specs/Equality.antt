-- That fractions compare equal where they are the same.
use Rattle.std.specs.Prelude.{◌≡◌, ◌↔◌, ℤ, Bool, ◌&&◌, IsTrue}
use Rattle.std.specs.Ordering.{int_eq}
use Rattle.std.proofs.Common.{arith, subst}
use Rattle.std.proofs.lemmas.Int.{ints}
use Rattle.vc_rat.specs.RationalRanges.{and-both, and-first, and-second}
use Rattle.vc_rat.specs.Stands.{same_parts}
use Rattle.vc_rat.specs.declared.fraction.Fraction.{Fraction}

same-number : (x y : ℤ) → IsTrue (int_eq x y) → x ≡ y
same-number x y h = grind (arith, ints)

own-number : (x : ℤ) → IsTrue (int_eq x x)
own-number x = grind (arith, ints)

pub equal_where_same : (x y : Fraction) → IsTrue (int_eq x.top y.top && int_eq x.bottom y.bottom) ↔ (x ≡ y)
equal_where_same x y =
    let tests : Fraction → Bool = λ z. int_eq x.top z.top && int_eq x.bottom z.bottom in (
      (λ h. same_parts x.top y.top x.bottom y.bottom x.lowest y.lowest (same-number x.top y.top (and-first (int_eq x.top y.top) (int_eq x.bottom y.bottom) h)) (same-number x.bottom y.bottom (and-second (int_eq x.top y.top) (int_eq x.bottom y.bottom) h))),
      (λ e. subst (λ z. IsTrue (tests z)) e (and-both (int_eq x.top x.top) (int_eq x.bottom x.bottom) (own-number x.top) (own-number x.bottom))),
    )
