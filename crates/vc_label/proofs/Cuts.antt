-- What follows a tape in another.
use Rattle.std.proofs.Common.{◌≡◌, true, false, [], ◌∷◌, length, take, drop, cond, nat_eq, Some, None, refl, sym, inl, inr, arith}
use Rattle.std.specs.Cmp.Lexicographic.{pointwise}
use Rattle.std.proofs.lemmas.Bool.Decides.{eqb_tells, Decides-eqb}
use Rattle.vc_model.specs.Words.{Tape, rest_after}

-- what follows a prefix, by the test of the prefix
pub rest_by_prefix : (a b : Tape) → rest_after a b ≡ cond (pointwise nat_eq (take (length a) b) a) (Some (drop (length a) b)) None
rest_by_prefix [] b = refl
rest_by_prefix (x ∷ a) [] = refl
rest_by_prefix (x ∷ a) (y ∷ b) = elim (eqb_tells x y) [
  | inl p ↦ let e : nat_eq y x ≡ true = (Decides-eqb y x).1 (sym p.1) in rw (p.0, e) (rest_by_prefix a b)
  | inr p ↦ let e : nat_eq y x ≡ false = grind arith in rw (p.0, e) refl
]
