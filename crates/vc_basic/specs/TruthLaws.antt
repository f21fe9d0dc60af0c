-- The laws of the truth values as weights.
use Rattle.std.specs.Prelude.{◌≡◌, ℕ, Bool, true, false, ◌&&◌, ◌||◌, [], ◌∷◌, Some, All, refl}
use Rattle.std.proofs.Common.{arith}
use Rattle.std.proofs.lemmas.Grind.{common_steps}
use Rattle.vc_model.specs.WeightSet.{SemiringLaws, RangeLaws, Absorbs}
use Rattle.vc_ring.specs.Texts.{TextLaws, IsWeightByte}
use Rattle.vc_basic.specs.Truths.{truths, spelled_bit, bit_text}

or-assoc : (a b c : Bool) → ((a || b) || c) ≡ (a || (b || c))
or-assoc true b c = refl
or-assoc false b c = refl

or-comm : (a b : Bool) → (a || b) ≡ (b || a)
or-comm true true = refl
or-comm true false = refl
or-comm false true = refl
or-comm false false = refl

or-false : (a : Bool) → (a || false) ≡ a
or-false true = refl
or-false false = refl

and-assoc : (a b c : Bool) → ((a && b) && c) ≡ (a && (b && c))
and-assoc true b c = refl
and-assoc false b c = refl

and-comm : (a b : Bool) → (a && b) ≡ (b && a)
and-comm true true = refl
and-comm true false = refl
and-comm false true = refl
and-comm false false = refl

and-true : (a : Bool) → (a && true) ≡ a
and-true true = refl
and-true false = refl

and-false : (a : Bool) → (a && false) ≡ false
and-false true = refl
and-false false = refl

and-or : (a b c : Bool) → (a && (b || c)) ≡ ((a && b) || (a && c))
and-or true b c = refl
and-or false b c = refl

pub truth_laws : SemiringLaws truths
truth_laws = record {
  plus_assoc = or-assoc;
  plus_comm = or-comm;
  plus_zero = or-false;
  times_assoc = and-assoc;
  times_comm = and-comm;
  times_one = and-true;
  times_zero = and-false;
  times_plus = and-or;
  one_is_not_zero = λ e. absurd (cc e);
  star_zero = refl;
  star_is = λ a h. refl;
}

pub truth_ranges : RangeLaws truths
truth_ranges = record {
  zero_in = refl;
  one_in = refl;
  plus_in = λ a b p q f. refl;
  times_in = λ a b p q f. refl;
  star_in = λ a p h f. refl;
  plus_zero_fits = λ a p. refl;
  zero_plus_fits = λ a p. refl;
  times_zero_fits = λ a p. refl;
  zero_times_fits = λ a p. refl;
  times_one_fits = λ a p. refl;
  one_times_fits = λ a p. refl;
  star_zero_fits = refl;
}

pub truth_absorbs : Absorbs truths
truth_absorbs a = refl

pub bit_written : (b : Bool) → spelled_bit (bit_text b) ≡ Some b
bit_written true = refl
bit_written false = refl

weight_byte : (b : ℕ) → (b ≡ 48) → IsWeightByte b
weight_byte b e = record { low = omega (arith, e); high = omega (arith, e); not_less = λ q. absurd (omega (arith, e, q)); not_greater = λ q. absurd (omega (arith, e, q)) }

weight_byte_one : (b : ℕ) → (b ≡ 49) → IsWeightByte b
weight_byte_one b e = record { low = omega (arith, e); high = omega (arith, e); not_less = λ q. absurd (omega (arith, e, q)); not_greater = λ q. absurd (omega (arith, e, q)) }

single_byte : (d : ℕ) → IsWeightByte d → All IsWeightByte (d ∷ [])
single_byte d p = grind (arith, common_steps)

pub bit_bytes : (b : Bool) → All IsWeightByte (bit_text b)
bit_bytes true = single_byte 49 (weight_byte_one 49 refl)
bit_bytes false = single_byte 48 (weight_byte 48 refl)

pub truth_texts : TextLaws truths spelled_bit (λ _. true) bit_text
truth_texts = record {
  not_empty = refl;
  read_in = λ text v e f. refl;
  written = λ v p. bit_written v;
  written_fits = λ v p. refl;
  bytes = bit_bytes;
}
