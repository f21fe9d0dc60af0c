-- What is printed of a number: a numeral that writes it.
use Rattle.std.proofs.Common.{◌≡◌, ℕ, zero, suc, ◌+◌, ◌/◌, ◌%◌, ◌^◌, ◌<◌, Bool, true, false, cond, eqb, List, [], ◌∷◌, length, arith, refl, ap, sym, ◌∙◌, subst}
use Rattle.std.proofs.lemmas.Bool.Decides.{nat_tests}
use Rattle.std.proofs.lemmas.List.Elements.{All-nil, All-cons}
use Rattle.std.proofs.lemmas.Str.Parse.{IsNumeralModel, FoldsDigits, numerals_by_fold, tells_all_ascii_digits}
use Rattle.std.proofs.lemmas.Fmt.{decimal_is_IsNumeral_wide}
use Rattle.std.specs.Fmt.{decimal, digits, digit_glyph, digits_onto}
use Rattle.std.specs.List.{All}
use Rattle.std.specs.Str.{all_ascii_digits}
use native.Mathlib.Nat.{mod-lt}
use Rattle.vc_num.specs.Decimals.{is_numeral, number_onto, number_of_digits}

folds : FoldsDigits number_onto
folds = record {
  empty = λ n. refl;
  more = λ n c cs h. ap (λ k. number_onto k cs) (omega arith);
}

model : IsNumeralModel (λ ds. all_ascii_digits ds ≡ true) (number_onto 0)
model = numerals_by_fold (λ ds. all_ascii_digits ds ≡ true) tells_all_ascii_digits number_onto folds

numeral-from_digits : (ds : List ℕ) → 0 < length ds → all_ascii_digits ds ≡ true → is_numeral ds ≡ true
numeral-from_digits [] l h = absurd (omega (arith, l))
numeral-from_digits (c ∷ cs) l h = h

-- what is printed is a numeral
pub is_numeral-decimal : (n : ℕ) → n < 10 ^ 64 → is_numeral (decimal n) ≡ true
is_numeral-decimal n h =
    let both = decimal_is_IsNumeral_wide n h in
    numeral-from_digits (decimal n) both.0.0 (model.from (decimal n) both.0.1)

-- and it writes the number
pub number_of_digits-decimal : (n : ℕ) → n < 10 ^ 64 → number_of_digits (decimal n) ≡ n
number_of_digits-decimal n h =
    let both = decimal_is_IsNumeral_wide n h in
    model.same (decimal n) both.0.1 ∙ both.1

glyph : (P : ℕ → Type 0) (d : ℕ) → d < 10 → P (48 + d) → P (digit_glyph false d)
glyph P d h p = let e : digit_glyph false d ≡ 48 + d = grind (arith, nat_tests) in subst P (sym e) p

either : {X : Type 0} (Q : X → Type 0) (b : Bool) (x y : X) → Q x → Q y → Q (cond b x y)
either Q true x y p q = p
either Q false x y p q = q

digits-all : (P : ℕ → Type 0) → ((d : ℕ) → d < 10 → P (48 + d)) → (k n : ℕ) (acc : List ℕ) → All P acc → All P (digits_onto k 10 false n acc)
digits-all P p zero n acc h = h
digits-all P p (suc k) n acc h =
    let low : n % 10 < 10 = mod-lt n {m = 10} (omega arith) in
    let here : P (digit_glyph false (n % 10)) = glyph P (n % 10) low (p (n % 10) low) in
    let more : All P (digit_glyph false (n % 10) ∷ acc) = All-cons P (digit_glyph false (n % 10)) acc here h in
    either (All P) (eqb (n / 10) 0) (digit_glyph false (n % 10) ∷ acc) (digits_onto k 10 false (n / 10) (digit_glyph false (n % 10) ∷ acc)) more (digits-all P p k (n / 10) (digit_glyph false (n % 10) ∷ acc) more)

-- what holds of each digit's byte holds of each byte that is printed
pub All-decimal : (P : ℕ → Type 0) → ((d : ℕ) → d < 10 → P (48 + d)) → (n : ℕ) → All P (decimal n)
unfolding digits
All-decimal P p n = digits-all P p 64 n [] (All-nil P)
