-- The steps of a coefficient: the sums, products and stars of its definition, in their order.
use Rattle.std.specs.Prelude.{ℕ, zero, suc, List, [], ◌∷◌, ◌++◌, map, length, slice_index_or, if◌then◌else◌}
use Rattle.vc_model.specs.WeightSet.{WeightSet}
use Rattle.vc_model.specs.Sums.{sum_over}
use Rattle.vc_model.specs.Words.{Word, Tape, size, is_empty, emptied, cuts, position_sets, letters_at, letters_off}
use Rattle.vc_model.specs.Series.{Series, star_or_zero, star_series_within}
use Rattle.vc_terms.specs.Terms.{Term, Terms, NoTerms, MoreTerms, Zero, One, Atom, Sum, Product, Star, Weight, Both, Shuffle, coefficient_of, product_coefficient}
use Rattle.vc_ring.specs.declared.faults.Overflow.{Overflow}
use Rattle.vc_ring.specs.declared.faults.Overflow.TheVariants.{Add, Mul, Star as StarStep}

-- the steps of a series at each word
abbrev pub StepsAt : Type 0 → Type 0
StepsAt V = Word → List (Overflow V)

-- of a sum from left to right, onto a: of each member its own steps and then its addition
abbrev pub adding_steps : {V X : Type 0} → WeightSet V → (X → List (Overflow V)) → (X → V) → V → List X → List (Overflow V)
adding_steps R own f a [] = []
adding_steps R own f a (x ∷ xs) = own x ++ (Add a (f x) ∷ adding_steps R own f (R.plus a (f x)) xs)

-- of the product of two series at two words: the steps of both, and the product
abbrev pub factor_steps : {V : Type 0} → Series V → StepsAt V → Series V → StepsAt V → Word × Word → List (Overflow V)
factor_steps f fs g gs c = fs c.0 ++ (gs c.1 ++ Mul (f c.0) (g c.1) ∷ [])

-- of the sum of these products over a list of pairs of words
abbrev pub pair_steps : {V : Type 0} → WeightSet V → Series V → StepsAt V → Series V → StepsAt V → List (Word × Word) → List (Overflow V)
pair_steps R f fs g gs cs = adding_steps R (factor_steps f fs g gs) (λ c. R.times (f c.0) (g c.1)) R.zero cs

-- the words of one tape that the position sets of a tape make of it
abbrev pub tape_pairs : Tape → List (Word × Word)
tape_pairs a = map (λ I. (letters_at I a ∷ [], letters_off I a ∷ [])) (position_sets (length a))

-- of a star at words of at most n letters: the star of the constant term, and at a word that is not empty the products over the cuts with a first piece that is not empty, their sum, and its product with the star
abbrev pub star_steps_within : {V : Type 0} → WeightSet V → Series V → StepsAt V → ℕ → StepsAt V
star_steps_within R f fs zero w = fs (emptied w) ++ StarStep (f (emptied w)) ∷ []
star_steps_within R f fs (suc n) w =
    fs (emptied w) ++ (StarStep (f (emptied w)) ∷ (if is_empty w then []
    else adding_steps R (λ c. if is_empty c.0 then [] else factor_steps f fs (star_series_within R f n) (star_steps_within R f fs n) c)
    (λ c. if is_empty c.0 then R.zero else R.times (f c.0) (star_series_within R f n c.1)) R.zero (cuts w)
    ++ Mul (star_or_zero R (f (emptied w))) (sum_over R (λ c. if is_empty c.0 then R.zero else R.times (f c.0) (star_series_within R f n c.1)) (cuts w)) ∷ []))

-- of a star
abbrev pub star_steps : {V : Type 0} → WeightSet V → Series V → StepsAt V → StepsAt V
star_steps R f fs w = star_steps_within R f fs (size w) w

abbrev mutual
  -- of the coefficient of a tree at a word
  pub coefficient_steps : {V : Type 0} → WeightSet V → Term V → StepsAt V
  coefficient_steps R Zero w = []
  coefficient_steps R One w = []
  coefficient_steps R (Atom a) w = []
  coefficient_steps R (Sum ts) w = member_steps R R.zero ts w
  coefficient_steps R (Product ts) w = product_steps R ts w
  coefficient_steps R (Star t) w = star_steps R (coefficient_of R t) (coefficient_steps R t) w
  coefficient_steps R (Weight k t) w = coefficient_steps R t w ++ Mul k (coefficient_of R t w) ∷ []
  coefficient_steps R (Both t u) w = coefficient_steps R t w ++ (coefficient_steps R u w ++ Mul (coefficient_of R t w) (coefficient_of R u w) ∷ [])
  coefficient_steps R (Shuffle t u) w = pair_steps R (coefficient_of R t) (coefficient_steps R t) (coefficient_of R u) (coefficient_steps R u) (tape_pairs (slice_index_or w 0 []))

  -- of the sum of the members, onto a
  pub member_steps : {V : Type 0} → WeightSet V → V → Terms V → StepsAt V
  member_steps R a NoTerms w = []
  member_steps R a (MoreTerms t ts) w = coefficient_steps R t w ++ (Add a (coefficient_of R t w) ∷ member_steps R (R.plus a (coefficient_of R t w)) ts w)

  -- of the product of the members: none for none, and else over the cuts of the word
  pub product_steps : {V : Type 0} → WeightSet V → Terms V → StepsAt V
  product_steps R NoTerms w = []
  product_steps R (MoreTerms t ts) w = pair_steps R (coefficient_of R t) (coefficient_steps R t) (product_coefficient R ts) (product_steps R ts) (cuts w)
