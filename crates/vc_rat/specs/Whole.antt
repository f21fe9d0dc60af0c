-- The whole numbers as a weight set, for rearrangements.
use Rattle.std.specs.Prelude.{ℤ, pos, ◌+ℤ◌, ◌*ℤ◌, true}
use Rattle.std.specs.Ordering.{int_eq}
use Rattle.std.proofs.Common.{refl, ◌∙◌, arith}
use Rattle.std.proofs.lemmas.Int.{ints}
use Rattle.std.proofs.Math.IntN.{*ℤ_comm, +ℤ_comm, +ℤ_assoc, zero-*ℤ}
use Rattle.vc_num.specs.Integers.{*ℤ_assoc, *ℤ-+ℤ}
use Rattle.vc_model.specs.WeightSet.{WeightSet, SemiringLaws}

-- sums and products of whole numbers
unfoldable pub whole : WeightSet ℤ
whole = record {
  zero = pos 0;
  one = pos 1;
  plus = λ a b. a +ℤ b;
  times = λ a b. a *ℤ b;
  has_star = λ a. int_eq a (pos 0);
  star = λ _. pos 1;
  in_range = λ _. true;
  fits_plus = λ _ _. true;
  fits_times = λ _ _. true;
  fits_star = λ _. true;
}

pub whole_laws : SemiringLaws whole
unfolding whole
whole_laws = record {
  plus_assoc = +ℤ_assoc;
  plus_comm = +ℤ_comm;
  plus_zero = λ a. omega (arith, ints);
  times_assoc = *ℤ_assoc;
  times_comm = *ℤ_comm;
  times_one = λ a. *ℤ_comm a (pos 1) ∙ omega (arith, ints);
  times_zero = λ a. *ℤ_comm a (pos 0) ∙ zero-*ℤ a;
  times_plus = *ℤ-+ℤ;
  one_is_not_zero = λ e. absurd (cc e);
  star_zero = refl;
  star_is = λ a h. grind (arith, ints);
}
