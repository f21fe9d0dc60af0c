-- The laws of the whole numbers as weights and of their texts.
use Rattle.std.specs.Prelude.{◌≡◌, false, IsTrue, refl, ℤ, pos, ◌+ℤ◌, ◌*ℤ◌}
use Rattle.std.specs.Fmt.{signed_decimal}
use Rattle.std.specs.Ordering.{int_eq}
use Rattle.std.proofs.Common.{arith}
use Rattle.std.proofs.Math.IntN.{*ℤ_comm, +ℤ_idl, zero-*ℤ}
use Rattle.std.proofs.lemmas.Int.{ints}
use Rattle.vc_model.specs.WeightSet.{SemiringLaws, RangeLaws, Absorbs}
use Rattle.vc_num.specs.Integers.{*ℤ_assoc, *ℤ-+ℤ}
use Rattle.vc_num.specs.Numerals.{spelled_whole, whole_fits}
use Rattle.vc_num.specs.NumeralLaws.{whole-in_range, spelled_whole-decimal, whole_fits-decimal, whole_bytes}
use Rattle.vc_ring.specs.Texts.{TextLaws, IsWeightByte}
use Rattle.vc_ring.specs.WeightBytes.{digit_byte, minus_byte}
use Rattle.vc_basic.specs.Wholes.{wholes}

plus-zero : (a : ℤ) → a +ℤ pos 0 ≡ a
plus-zero a = omega (arith, ints)

times-one : (a : ℤ) → a *ℤ pos 1 ≡ a
times-one a = omega (arith, ints)

times-zero : (a : ℤ) → a *ℤ pos 0 ≡ pos 0
times-zero a = omega (arith, ints)

star-is : (a : ℤ) → IsTrue (int_eq a (pos 0)) → pos 1 ≡ pos 1 +ℤ a *ℤ pos 1
star-is a h = grind (arith, ints)

one-is-not-zero : pos 1 ≡ pos 0 → ⊥
one-is-not-zero e = absurd (cc e)

pub whole_laws : SemiringLaws wholes
whole_laws = record {
  plus_assoc = λ a b c. omega (arith, ints);
  plus_comm = λ a b. omega (arith, ints);
  plus_zero = plus-zero;
  times_assoc = *ℤ_assoc;
  times_comm = *ℤ_comm;
  times_one = times-one;
  times_zero = times-zero;
  times_plus = *ℤ-+ℤ;
  one_is_not_zero = one-is-not-zero;
  star_zero = refl;
  star_is = star-is;
}

one-times : (a : ℤ) → pos 1 *ℤ a ≡ a
one-times a = omega (arith, ints)

pub whole_ranges : RangeLaws wholes
whole_ranges = record {
  zero_in = refl;
  one_in = refl;
  plus_in = λ a b p q f. f;
  times_in = λ a b p q f. f;
  star_in = λ a p h f. refl;
  plus_zero_fits = λ a p. rw (plus-zero a) p;
  zero_plus_fits = λ a p. rw (+ℤ_idl a) p;
  times_zero_fits = λ a p. rw (times-zero a) refl;
  zero_times_fits = λ a p. rw (zero-*ℤ a) refl;
  times_one_fits = λ a p. rw (times-one a) p;
  one_times_fits = λ a p. rw (one-times a) p;
  star_zero_fits = refl;
}

pub wholes_absorb : Absorbs wholes → IsTrue false
wholes_absorb h = absurd (cc (h (pos 1)))

pub whole_texts : TextLaws wholes spelled_whole whole_fits signed_decimal
whole_texts = record {
  not_empty = refl;
  read_in = whole-in_range;
  written = spelled_whole-decimal;
  written_fits = whole_fits-decimal;
  bytes = whole_bytes IsWeightByte digit_byte minus_byte;
}
