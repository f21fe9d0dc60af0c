-- That a text is read as what it spells.
use Rattle.std.proofs.Common.{◌≡◌, ℕ, zero, suc, ℤ, ◌<◌, ◌*ℤ◌, pos, Bool, true, false, ◌&&◌, List, take, drop, Option, Some, None, Result, Ok, cond, nat_lt, ◌^◌, refl, sym, ap, ◌∙◌, subst, arith}
use Rattle.vc_num.specs.Decimals.{is_numeral, number_of_digits}
use Rattle.vc_num.specs.Numerals.{spelled_natural, magnitude_fits, spelled_whole, whole_fits}
use Rattle.vc_ring.specs.Texts.{read_as}
use Rattle.vc_ring.specs.declared.faults.NumberFault.{NumberFault}
use Rattle.vc_num.specs.NumeralReads.{number_read}
use Rattle.vc_num.specs.declared.numerals.NumeralFault.{NumeralFault}
use Rattle.vc_rat.specs.Rationals.{reduced}
use Rattle.vc_rat.specs.Reduced.{positive-suc, magnitude-is}
use Rattle.vc_rat.specs.Stands.{stands-reduced, stands-same}
use Rattle.vc_rat.specs.Texts.{quotient_of, quotient_read, slash_in, spelled_at, fits_at, spelled_fraction, fraction_fits}
use Rattle.vc_rat.specs.declared.fraction.Fraction.{Fraction}

pub reduced-from : (s : Fraction) (n : ℤ) (d : ℕ) (p : 0 < d) → s.top *ℤ pos d ≡ n *ℤ s.bottom → s ≡ reduced n d p
reduced-from s n d p e = stands-same s (reduced n d p) n n d d p p (e ∙ ap (λ k. n *ℤ k) (magnitude-is s.bottom s.lowest.0)) (stands-reduced n d p) refl

pub quotient-read-from : (s : Fraction) (n : ℤ) (d : ℕ) (top : Result ℤ NumeralFault) (bottom : Result ℕ NumeralFault) → top ≡ Ok n → bottom ≡ Ok d → 0 < d → s.top *ℤ pos d ≡ n *ℤ s.bottom → Ok s ≡ quotient_read top bottom
quotient-read-from s n zero top bottom t b p e = elim p [ ]
quotient-read-from s n (suc d) top bottom t b p e = rw (t, b) (ap Ok (reduced-from s n (suc d) (positive-suc d) e))

-- a bottom of zero is never past the range
read-both : (t : Option ℤ) (b : Option ℕ) (f g : Bool) → (b ≡ Some zero → g ≡ true) → quotient_read (number_read t f) (number_read b g) ≡ read_as (quotient_of t b) (f && g)
read-both None b f g z = refl
read-both (Some n) None true g z = refl
read-both (Some n) None false g z = refl
read-both (Some n) (Some zero) true true z = refl
read-both (Some n) (Some zero) true false z = absurd (cc (z refl))
read-both (Some n) (Some zero) false true z = refl
read-both (Some n) (Some zero) false false z = absurd (cc (z refl))
read-both (Some n) (Some (suc d)) true true z = refl
read-both (Some n) (Some (suc d)) true false z = refl
read-both (Some n) (Some (suc d)) false true z = refl
read-both (Some n) (Some (suc d)) false false z = refl

zero-fits : (b : Bool) (n : ℕ) → cond b (Some n) None ≡ Some zero → nat_lt n (2 ^ 127) ≡ true
zero-fits b n h = grind arith

pub read-some : (text front rest : List ℕ) (at : ℕ) (w : Result ℤ NumeralFault) (n : Result ℕ NumeralFault) (q : Result Fraction NumberFault) → slash_in text ≡ Some at → front ≡ take at text → rest ≡ drop (suc at) text → w ≡ number_read (spelled_whole front) (whole_fits front) → n ≡ number_read (spelled_natural rest) (magnitude_fits rest) → q ≡ quotient_read w n → q ≡ read_as (spelled_fraction text) (fraction_fits text)
read-some text front rest at w n q p ef er ew en eq =
    let both = read-both (spelled_whole front) (spelled_natural rest) (whole_fits front) (magnitude_fits rest) (zero-fits (is_numeral rest) (number_of_digits rest)) in
    let made : q ≡ read_as (quotient_of (spelled_whole front) (spelled_natural rest)) (whole_fits front && magnitude_fits rest) = eq ∙ ap (λ x. quotient_read x n) ew ∙ ap (quotient_read (number_read (spelled_whole front) (whole_fits front))) en ∙ both in
    let at_front = subst (λ f. q ≡ read_as (quotient_of (spelled_whole f) (spelled_natural rest)) (whole_fits f && magnitude_fits rest)) ef made in
    let at_rest : q ≡ read_as (spelled_at (Some at) text) (fits_at (Some at) text) = subst (λ r. q ≡ read_as (quotient_of (spelled_whole (take at text)) (spelled_natural r)) (whole_fits (take at text) && magnitude_fits r)) er at_front in
    subst (λ s. q ≡ read_as (spelled_at s text) (fits_at s text)) (sym p) at_rest

and-true : (b : Bool) → (b && true) ≡ b
and-true true = refl
and-true false = refl

pub read-none : (text : List ℕ) (w : Result ℤ NumeralFault) (n : Result ℕ NumeralFault) (q : Result Fraction NumberFault) → slash_in text ≡ None → w ≡ number_read (spelled_whole text) (whole_fits text) → n ≡ Ok 1 → q ≡ quotient_read w n → q ≡ read_as (spelled_fraction text) (fraction_fits text)
read-none text w n q p ew en eq =
    let both = read-both (spelled_whole text) (Some 1) (whole_fits text) true (λ e. refl) in
    let made : q ≡ read_as (quotient_of (spelled_whole text) (Some 1)) (whole_fits text && true) = eq ∙ ap (λ x. quotient_read x n) ew ∙ ap (quotient_read (number_read (spelled_whole text) (whole_fits text))) en ∙ both in
    let plain : q ≡ read_as (spelled_at None text) (fits_at None text) = subst (λ b. q ≡ read_as (quotient_of (spelled_whole text) (Some 1)) b) (and-true (whole_fits text)) made in
    subst (λ s. q ≡ read_as (spelled_at s text) (fits_at s text)) (sym p) plain
