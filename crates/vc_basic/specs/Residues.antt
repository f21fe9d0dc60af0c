-- The numbers 0 and 1 as weights, where 1 + 1 is 0.
use Rattle.std.specs.Prelude.{Bool, true, false, not, ◌&&◌}
use Rattle.std.specs.Bool.{beq}
use Rattle.vc_model.specs.WeightSet.{WeightSet}

-- whether the two differ
abbrev pub differ : Bool → Bool → Bool
differ a b = not (beq a b)

-- sums and products modulo 2, and a star of zero alone
abbrev pub residues : WeightSet Bool
residues = record {
  zero = false;
  one = true;
  plus = differ;
  times = λ a b. a && b;
  has_star = λ a. not a;
  star = λ _. true;
  in_range = λ _. true;
  fits_plus = λ _ _. true;
  fits_times = λ _ _. true;
  fits_star = λ _. true;
}
