-- The weight sets that a text names.
use Rattle.std.specs.Prelude.{ℤ, Bool, ◌&&◌, true, false}
use Rattle.std.specs.Bool.{beq}
use Rattle.std.specs.Ordering.{int_eq}
use Rattle.std.specs.Fmt.{signed_decimal}
use Rattle.vc_basic.specs.Residues.{residues}
use Rattle.vc_basic.specs.Tropical.{tropical, spelled_tropical, tropical_fits, tropical_text}
use Rattle.vc_basic.specs.contracts.tropical.NminValuePartialEq.TheImpl.{ghosts as compared}
use Rattle.vc_basic.specs.Truths.{truths, spelled_bit, bit_text}
use Rattle.vc_basic.specs.Wholes.{wholes}
use Rattle.vc_basic.specs.declared.tropical.NminValue.{NminValue}
use Rattle.vc_context.specs.declared.context.Weights.{Weights}
use Rattle.vc_context.specs.declared.context.Weights.TheVariants.{B, F2, Z, Q, Nmin}
use Rattle.vc_num.specs.Numerals.{spelled_whole, whole_fits}
use Rattle.vc_rat.specs.Rationals.{rationals}
use Rattle.vc_rat.specs.Texts.{spelled_fraction, fraction_fits, fraction_text}
use Rattle.vc_rat.specs.declared.fraction.Fraction.{Fraction}
use Rattle.vc_ring.specs.Texts.{WeightTexts}

-- the fractions are the same where their parts are
abbrev pub same_fraction : Fraction → Fraction → Bool
same_fraction a b = int_eq a.top b.top && int_eq a.bottom b.bottom

abbrev pub truth_weights : WeightTexts Bool
truth_weights = record { set = truths; same = beq; spelled = spelled_bit; numbers_fit = λ _. true; canonical = bit_text }

abbrev pub residue_weights : WeightTexts Bool
residue_weights = record { set = residues; same = beq; spelled = spelled_bit; numbers_fit = λ _. true; canonical = bit_text }

abbrev pub whole_weights : WeightTexts ℤ
whole_weights = record { set = wholes; same = int_eq; spelled = spelled_whole; numbers_fit = whole_fits; canonical = signed_decimal }

abbrev pub fraction_weights : WeightTexts Fraction
fraction_weights = record { set = rationals; same = same_fraction; spelled = spelled_fraction; numbers_fit = fraction_fits; canonical = fraction_text }

abbrev pub tropical_weights : WeightTexts NminValue
tropical_weights = record { set = tropical; same = compared.eq; spelled = spelled_tropical; numbers_fit = tropical_fits; canonical = tropical_text }

-- the elements of the set of the name
abbrev pub value_of : Weights → Type 0
value_of B = Bool
value_of F2 = Bool
value_of Z = ℤ
value_of Q = Fraction
value_of Nmin = NminValue

-- one absorbs each element of the set of the name that is added to it
abbrev pub absorbs : Weights → Bool
absorbs B = true
absorbs F2 = false
absorbs Z = false
absorbs Q = false
absorbs Nmin = true

-- the set of the name, with its texts
abbrev pub texts_of : (w : Weights) → WeightTexts (value_of w)
texts_of B = truth_weights
texts_of F2 = residue_weights
texts_of Z = whole_weights
texts_of Q = fraction_weights
texts_of Nmin = tropical_weights
