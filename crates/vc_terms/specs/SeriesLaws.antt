-- The laws of series and of sums and products of trees that the laws of trees stand on.
use Rattle.std.specs.Prelude.{◌≡◌, ℕ, List, [], ◌∷◌, ◌++◌}
use Rattle.vc_model.specs.WeightSet.{WeightSet}
use Rattle.vc_model.specs.Words.{Word, Tape, empty_word}
use Rattle.vc_model.specs.Series.{Series, SameOn, zero_series, one_series, weight_series, product_series, star_series, shuffle_series}
use Rattle.vc_terms.specs.Terms.{Term, coefficient_of, Sum, Product, terms_of, HasTapes, constant_of}

-- all of them
pub record SeriesLaws {V : Type 0} (R : WeightSet V) : Type 0 where
  pub grouped : (f g h : Series V) (w : Word) → product_series R (product_series R f g) h w ≡ product_series R f (product_series R g h) w
  pub one_left : (f : Series V) (w : Word) → product_series R (one_series R) f w ≡ f w
  pub one_right : (f : Series V) (w : Word) → product_series R f (one_series R) w ≡ f w
  pub zero_left : (f : Series V) (w : Word) → product_series R (zero_series R) f w ≡ R.zero
  pub zero_right : (f : Series V) (w : Word) → product_series R f (zero_series R) w ≡ R.zero
  pub weight_left : (k : V) (f g : Series V) (w : Word) → product_series R (weight_series R k f) g w ≡ R.times k (product_series R f g w)
  pub weight_right : (k : V) (f g : Series V) (w : Word) → product_series R f (weight_series R k g) w ≡ R.times k (product_series R f g w)
  pub product_same : (tapes : ℕ) (f g h k : Series V) → SameOn tapes f g → SameOn tapes h k → SameOn tapes (product_series R f h) (product_series R g k)
  pub star_zero : (w : Word) → star_series R (zero_series R) w ≡ one_series R w
  pub star_same : (tapes : ℕ) (f g : Series V) → SameOn tapes f g → SameOn tapes (star_series R f) (star_series R g)
  pub shuffle_one_left : (f : Series V) (a : Tape) → shuffle_series R (one_series R) f (a ∷ []) ≡ f (a ∷ [])
  pub shuffle_one_right : (f : Series V) (a : Tape) → shuffle_series R f (one_series R) (a ∷ []) ≡ f (a ∷ [])
  pub shuffle_zero_left : (f : Series V) (w : Word) → shuffle_series R (zero_series R) f w ≡ R.zero
  pub shuffle_zero_right : (f : Series V) (w : Word) → shuffle_series R f (zero_series R) w ≡ R.zero
  pub shuffle_same : (f g h k : Series V) → SameOn 1 f g → SameOn 1 h k → SameOn 1 (shuffle_series R f h) (shuffle_series R g k)
  pub sums : (ts us : List (Term V)) (w : Word) → coefficient_of R (Sum (terms_of (ts ++ us))) w ≡ R.plus (coefficient_of R (Sum (terms_of ts)) w) (coefficient_of R (Sum (terms_of us)) w)
  pub products : (ts us : List (Term V)) (w : Word) → coefficient_of R (Product (terms_of (ts ++ us))) w ≡ product_series R (coefficient_of R (Product (terms_of ts))) (coefficient_of R (Product (terms_of us))) w
  pub constants : (tapes : ℕ) (t : Term V) → HasTapes tapes t → coefficient_of R t (empty_word tapes) ≡ constant_of R t
