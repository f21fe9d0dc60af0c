-- That the quotient of the bottom by the bottom less the top is the star.
use Rattle.std.proofs.Common.{◌≡◌, ℕ, ℤ, ◌<◌, ◌-ℤ◌, ◌*ℤ◌, ◌<ℤ◌, max, pos, unsigned_abs, nat_lt, Bool, true, cond, Result, Ok, Err, sym, ap, ◌∙◌, arith}
use Rattle.std.proofs.lemmas.Int.{ints}
use Rattle.vc_num.specs.Range.{in_range}
use Rattle.vc_ring.specs.Steps.{starred}
use Rattle.vc_rat.specs.Rationals.{star, denominator, rationals}
use Rattle.vc_rat.specs.Reduced.{positive-max}
use Rattle.vc_rat.proofs.Readings.{reduced-from}
use Rattle.vc_rat.specs.declared.fraction.Fraction.{Fraction}

difference : (t b : ℤ) → pos 0 <ℤ b → nat_lt (unsigned_abs t) (unsigned_abs b) ≡ true → b -ℤ t ≡ pos (max 1 (unsigned_abs (b -ℤ t)))
difference t b p h = grind (arith, ints)

both-kept : {V E : Type 0} (a b : Bool) (v w : V) (e f : E) → a ≡ true → b ≡ true → w ≡ v → ◌≡◌ {A = Result V E} (Ok w) (cond a (cond b (Ok v) (Err e)) (Err f))
both-kept a b v w e f p q h = rw (p, q) (ap Ok h)

pub star-is : (x s : Fraction) (d : ℤ) → nat_lt (unsigned_abs x.top) (denominator x) ≡ true → d ≡ x.bottom -ℤ x.top → in_range (x.bottom -ℤ x.top) ≡ true → s.top *ℤ d ≡ x.bottom *ℤ s.bottom → Ok s ≡ starred rationals x
star-is x s d h e f same =
    let size = unsigned_abs (x.bottom -ℤ x.top) in
    let at_size : s.top *ℤ pos (max 1 size) ≡ x.bottom *ℤ s.bottom = ap (λ k. s.top *ℤ k) (sym (e ∙ difference x.top x.bottom x.lowest.0 h)) ∙ same in
    both-kept (nat_lt (unsigned_abs x.top) (denominator x)) (in_range (x.bottom -ℤ x.top)) (star x) s _ _ h f (reduced-from s x.bottom (max 1 size) (positive-max size) at_size)

pub below-one : (t : ℤ) (b m n : ℕ) → m ≡ unsigned_abs t → n ≡ b → m < n → nat_lt (unsigned_abs t) b ≡ true
below-one t b m n e f h = grind arith
