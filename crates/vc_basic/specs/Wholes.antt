-- The whole numbers as weights.
use Rattle.std.specs.Prelude.{true, ℤ, pos, ◌+ℤ◌, ◌*ℤ◌}
use Rattle.std.specs.Ordering.{int_eq}
use Rattle.vc_model.specs.WeightSet.{WeightSet}
use Rattle.vc_num.specs.Range.{in_range}

-- sums and products of any size, and a star of zero alone; a value is of magnitude at most 2^127 - 1
abbrev pub wholes : WeightSet ℤ
wholes = record {
  zero = pos 0;
  one = pos 1;
  plus = λ a b. a +ℤ b;
  times = λ a b. a *ℤ b;
  has_star = λ a. int_eq a (pos 0);
  star = λ _. pos 1;
  in_range = in_range;
  fits_plus = λ a b. in_range (a +ℤ b);
  fits_times = λ a b. in_range (a *ℤ b);
  fits_star = λ _. true;
}
