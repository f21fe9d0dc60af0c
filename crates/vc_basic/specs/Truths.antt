-- The truth values as weights, and their texts.
use Rattle.std.specs.Prelude.{ℕ, Bool, true, false, ◌&&◌, ◌||◌, ◌==◌, List, [], ◌∷◌, Option, None, Some, if◌then◌else◌}
use Rattle.vc_model.specs.WeightSet.{WeightSet}

-- sums by or, products by and, and each star is true
abbrev pub truths : WeightSet Bool
truths = record {
  zero = false;
  one = true;
  plus = λ a b. a || b;
  times = λ a b. a && b;
  has_star = λ _. true;
  star = λ _. true;
  in_range = λ _. true;
  fits_plus = λ _ _. true;
  fits_times = λ _ _. true;
  fits_star = λ _. true;
}

-- the truth value of the digit 0 or 1
abbrev pub bit_of : ℕ → Option Bool
bit_of d = if d == 48 then Some false else if d == 49 then Some true else None

-- the texts `0` and `1`
abbrev pub spelled_bit : List ℕ → Option Bool
spelled_bit [] = None
spelled_bit (d ∷ []) = bit_of d
spelled_bit (d ∷ e ∷ text) = None

-- 0 for false and 1 for true
abbrev pub bit_text : Bool → List ℕ
bit_text false = 48 ∷ []
bit_text true = 49 ∷ []
