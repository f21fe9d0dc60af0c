-- The coefficients of small expressions, by computing.
use Rattle.std.proofs.Common.{◌≡◌, ℕ, [], ◌∷◌, refl, ◌+◌, ◌*◌, true, eqb}
use Rattle.vc_model.specs.WeightSet.{WeightSet}
use Rattle.vc_terms.specs.Terms.{Term, coefficient_of, One, Atom, Sum, Product, Star, Weight, Both, Shuffle, NoTerms, MoreTerms}

-- the naturals, where zero alone has a star
abbrev numbers : WeightSet ℕ
numbers = record { zero = 0; one = 1; plus = ◌+◌; times = ◌*◌; has_star = λ a. eqb a 0; star = λ a. 1; in_range = λ a. true; fits_plus = λ a b. true; fits_times = λ a b. true; fits_star = λ a. true }

abbrev a : Term ℕ
a = Atom ((97 ∷ []) ∷ [])

abbrev b : Term ℕ
b = Atom ((98 ∷ []) ∷ [])

-- (<2>a)* at aaa
star_at : coefficient_of numbers (Star (Weight 2 a)) ((97 ∷ 97 ∷ 97 ∷ []) ∷ []) ≡ 8
star_at = refl

-- a star that is not defined counts as zero
no_star : coefficient_of numbers (Star (Sum (MoreTerms One (MoreTerms a NoTerms)))) ((97 ∷ []) ∷ []) ≡ 0
no_star = refl

-- a:a at aa, in two ways
shuffle_at : coefficient_of numbers (Shuffle a a) ((97 ∷ 97 ∷ []) ∷ []) ≡ 2
shuffle_at = refl

-- (a+b)(a+b)&ab at ab
both_at : coefficient_of numbers (Both (Product (MoreTerms (Sum (MoreTerms a (MoreTerms b NoTerms))) (MoreTerms (Sum (MoreTerms a (MoreTerms b NoTerms))) NoTerms))) (Product (MoreTerms a (MoreTerms b NoTerms)))) ((97 ∷ 98 ∷ []) ∷ []) ≡ 1
both_at = refl
