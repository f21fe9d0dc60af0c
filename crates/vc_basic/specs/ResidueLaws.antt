-- The laws of the residues modulo 2 as weights.
use Rattle.std.specs.Prelude.{◌≡◌, ◌≢◌, Bool, true, false, not, ◌&&◌, IsTrue, refl}
use Rattle.std.proofs.Common.{arith}
use Rattle.vc_model.specs.WeightSet.{SemiringLaws, RangeLaws, FieldLaws, Absorbs}
use Rattle.vc_ring.specs.Texts.{TextLaws}
use Rattle.vc_basic.specs.Truths.{spelled_bit, bit_text}
use Rattle.vc_basic.specs.TruthLaws.{bit_written, bit_bytes}
use Rattle.vc_basic.specs.Residues.{differ, residues}

differ-assoc : (a b c : Bool) → differ (differ a b) c ≡ differ a (differ b c)
differ-assoc a b c = grind arith

differ-comm : (a b : Bool) → differ a b ≡ differ b a
differ-comm a b = grind arith

differ-zero : (a : Bool) → differ a false ≡ a
differ-zero a = grind arith

differ-same : (a : Bool) → differ a a ≡ false
differ-same a = grind arith

and-assoc : (a b c : Bool) → ((a && b) && c) ≡ (a && (b && c))
and-assoc a b c = grind arith

and-comm : (a b : Bool) → (a && b) ≡ (b && a)
and-comm a b = grind arith

and-true : (a : Bool) → (a && true) ≡ a
and-true a = grind arith

and-false : (a : Bool) → (a && false) ≡ false
and-false a = grind arith

and-differ : (a b c : Bool) → (a && differ b c) ≡ differ (a && b) (a && c)
and-differ a b c = grind arith

star-is : (a : Bool) → IsTrue (not a) → true ≡ differ true (a && true)
star-is a h = grind arith

and-self : (a : Bool) → a ≢ false → (a && a) ≡ true
and-self true h = refl
and-self false h = absurd (h refl)

pub residue_laws : SemiringLaws residues
residue_laws = record {
  plus_assoc = differ-assoc;
  plus_comm = differ-comm;
  plus_zero = differ-zero;
  times_assoc = and-assoc;
  times_comm = and-comm;
  times_one = and-true;
  times_zero = and-false;
  times_plus = and-differ;
  one_is_not_zero = λ e. absurd (cc e);
  star_zero = refl;
  star_is = star-is;
}

pub residue_ranges : RangeLaws residues
residue_ranges = record {
  zero_in = refl;
  one_in = refl;
  plus_in = λ a b p q f. refl;
  times_in = λ a b p q f. refl;
  star_in = λ a p h f. refl;
  plus_zero_fits = λ a p. refl;
  zero_plus_fits = λ a p. refl;
  times_zero_fits = λ a p. refl;
  zero_times_fits = λ a p. refl;
  times_one_fits = λ a p. refl;
  one_times_fits = λ a p. refl;
  star_zero_fits = refl;
}

pub residue_field : FieldLaws residues (λ a. a) (λ a. a)
residue_field = record {
  plus_negative = differ-same;
  times_inverse = and-self;
  negative_in = λ a p. p;
  inverse_in = λ a n p. p;
}

pub residues_absorb : Absorbs residues → IsTrue false
residues_absorb h = absurd (cc (h true))

pub residue_texts : TextLaws residues spelled_bit (λ _. true) bit_text
residue_texts = record {
  not_empty = refl;
  read_in = λ text v e f. refl;
  written = λ v p. bit_written v;
  written_fits = λ v p. refl;
  bytes = bit_bytes;
}
