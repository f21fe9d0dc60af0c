-- The operations on series at words of one tape, by the first letter.
use Rattle.std.proofs.Common.{◌≡◌, ℕ, List, [], ◌∷◌, map, cond, Bool, true, false, ◌&&◌, eqb, refl, sym, ap, ap₂, ◌∙◌, length}
use Rattle.vc_model.specs.WeightSet.{WeightSet, SemiringLaws}
use Rattle.vc_model.specs.Sums.{sum_over}
use Rattle.vc_model.specs.Words.{Tape, Word, is_empty, tape_cuts, position_sets, letters_at, letters_off}
use Rattle.vc_model.specs.Series.{Series, SameOn, zero_series, one_series, atom_series, plus_series, weight_series, product_series, shuffle_series, star_series, star_or_zero, letter_quotient}
use Rattle.vc_model.specs.Rearranged.{zero_plus, zero_times, one_times, plus_times, times_left}
use Rattle.vc_model.specs.SumLaws.{sum-append, sum-map, sum_same, sum_zero, sum-plus, sum-times}
use Rattle.vc_model.specs.Pieces.{sum_cuts}
use Rattle.vc_terms.proofs.StarLaws.{star_is}

module _ {V : Type 0} {R : WeightSet V} (L : SemiringLaws R) where
  pub product_tape : (f g : Series V) (a : Tape) → product_series R f g (a ∷ []) ≡ sum_over R (λ c. R.times (f (c.0 ∷ [])) (g (c.1 ∷ []))) (tape_cuts a)
  product_tape f g a = sum_cuts L a [] (λ c. R.times (f c.0) (g c.1)) ∙ sum_same L _ _ (tape_cuts a) (λ c i. L.plus_zero _)

  pub product_letter : (f g : Series V) (x : ℕ) (a : Tape) → product_series R f g ((x ∷ a) ∷ []) ≡ R.plus (R.times (f ([] ∷ [])) (g ((x ∷ a) ∷ []))) (product_series R (letter_quotient x f) g (a ∷ []))
  product_letter f g x a =
      product_tape f g (x ∷ a)
      ∙ ap (R.plus (R.times (f ([] ∷ [])) (g ((x ∷ a) ∷ []))))
      (sum-map L (λ c. R.times (f (c.0 ∷ [])) (g (c.1 ∷ []))) (λ (c : Tape × Tape). (x ∷ c.0, c.1)) (tape_cuts a)
      ∙ sym (product_tape (letter_quotient x f) g a))

  pub star_letter : (f : Series V) (x : ℕ) (a : Tape) → star_series R f ((x ∷ a) ∷ []) ≡ R.times (star_or_zero R (f ([] ∷ []))) (product_series R (letter_quotient x f) (star_series R f) (a ∷ []))
  star_letter f x a =
      star_is L f ((x ∷ a) ∷ [])
      ∙ ap (R.times (star_or_zero R (f ([] ∷ []))))
      (sum_cuts L (x ∷ a) [] (λ c. cond (is_empty c.0) R.zero (R.times (f c.0) (star_series R f c.1)))
      ∙ ap (λ y. R.plus y (sum_over R (λ (c : Tape × Tape). R.plus (cond (is_empty (c.0 ∷ [])) R.zero (R.times (f (c.0 ∷ [])) (star_series R f (c.1 ∷ [])))) R.zero) (map (λ (c : Tape × Tape). (x ∷ c.0, c.1)) (tape_cuts a)))) (L.plus_zero R.zero)
      ∙ zero_plus L _
      ∙ sum-map L (λ (c : Tape × Tape). R.plus (cond (is_empty (c.0 ∷ [])) R.zero (R.times (f (c.0 ∷ [])) (star_series R f (c.1 ∷ [])))) R.zero) (λ (c : Tape × Tape). (x ∷ c.0, c.1)) (tape_cuts a)
      ∙ sum_same L _ _ (tape_cuts a) (λ c i. L.plus_zero _)
      ∙ sym (product_tape (letter_quotient x f) (star_series R f) a))

  pub atom_letter : (y x : ℕ) (a : Tape) → atom_series R ((y ∷ []) ∷ []) ((x ∷ a) ∷ []) ≡ cond (eqb y x) (one_series R (a ∷ [])) R.zero
  atom_letter y x [] = go (eqb y x)
    where
      go : (b : Bool) → cond ((b && true) && true) R.one R.zero ≡ cond b R.one R.zero
      go true = refl
      go false = refl
  atom_letter y x (z ∷ a) = go (eqb y x)
    where
      go : (b : Bool) → cond ((b && false) && true) R.one R.zero ≡ cond b R.zero R.zero
      go true = refl
      go false = refl

  pub shuffle_empty : (f g : Series V) → shuffle_series R f g ([] ∷ []) ≡ R.times (f ([] ∷ [])) (g ([] ∷ []))
  shuffle_empty f g = L.plus_zero _

  pub shuffle_letter : (f g : Series V) (x : ℕ) (a : Tape) → shuffle_series R f g ((x ∷ a) ∷ []) ≡ R.plus (shuffle_series R (letter_quotient x f) g (a ∷ [])) (shuffle_series R f (letter_quotient x g) (a ∷ []))
  shuffle_letter f g x a =
      sum-append L F (map (λ I. true ∷ I) (position_sets (length a))) (map (λ I. false ∷ I) (position_sets (length a)))
      ∙ ap₂ R.plus (sum-map L F (λ I. true ∷ I) (position_sets (length a))) (sum-map L F (λ I. false ∷ I) (position_sets (length a)))
    where
      F : List Bool → V
      F I = R.times (f (letters_at I (x ∷ a) ∷ [])) (g (letters_off I (x ∷ a) ∷ []))

  pub zero_shuffle : (f : Series V) (w : Word) → shuffle_series R (zero_series R) f w ≡ R.zero
  zero_shuffle f w = sum_zero L _ _ (λ I i. zero_times L _)

  pub shuffle_zero : (f : Series V) (w : Word) → shuffle_series R f (zero_series R) w ≡ R.zero
  shuffle_zero f w = sum_zero L _ _ (λ I i. L.times_zero _)

  pub one_shuffle : (f : Series V) (a : Tape) → shuffle_series R (one_series R) f (a ∷ []) ≡ f (a ∷ [])
  one_shuffle f [] = shuffle_empty (one_series R) f ∙ one_times L (f ([] ∷ []))
  one_shuffle f (x ∷ a) =
      shuffle_letter (one_series R) f x a
      ∙ ap₂ R.plus (zero_shuffle f (a ∷ [])) (one_shuffle (letter_quotient x f) a)
      ∙ zero_plus L _

  pub shuffle_comm : (f g : Series V) (a : Tape) → shuffle_series R f g (a ∷ []) ≡ shuffle_series R g f (a ∷ [])
  shuffle_comm f g [] = shuffle_empty f g ∙ L.times_comm _ _ ∙ sym (shuffle_empty g f)
  shuffle_comm f g (x ∷ a) =
      shuffle_letter f g x a
      ∙ ap₂ R.plus (shuffle_comm (letter_quotient x f) g a) (shuffle_comm f (letter_quotient x g) a)
      ∙ L.plus_comm _ _
      ∙ sym (shuffle_letter g f x a)

  pub shuffle_one : (f : Series V) (a : Tape) → shuffle_series R f (one_series R) (a ∷ []) ≡ f (a ∷ [])
  shuffle_one f a = shuffle_comm f (one_series R) a ∙ one_shuffle f a

  pub plus_shuffle : (f g h : Series V) (w : Word) → shuffle_series R (plus_series R f g) h w ≡ R.plus (shuffle_series R f h w) (shuffle_series R g h w)
  plus_shuffle f g h w = sum_same L _ _ _ (λ I i. plus_times L _ _ _) ∙ sum-plus L _ _ _

  pub shuffle_plus : (f g h : Series V) (w : Word) → shuffle_series R f (plus_series R g h) w ≡ R.plus (shuffle_series R f g w) (shuffle_series R f h w)
  shuffle_plus f g h w = sum_same L _ _ _ (λ I i. L.times_plus _ _ _) ∙ sum-plus L _ _ _

  pub weight_shuffle : (k : V) (f g : Series V) (w : Word) → shuffle_series R (weight_series R k f) g w ≡ R.times k (shuffle_series R f g w)
  weight_shuffle k f g w = sum_same L _ _ _ (λ I i. L.times_assoc _ _ _) ∙ sum-times L k _ _

  pub shuffle_weight : (k : V) (f g : Series V) (w : Word) → shuffle_series R f (weight_series R k g) w ≡ R.times k (shuffle_series R f g w)
  shuffle_weight k f g w = sum_same L _ _ _ (λ I i. times_left L _ _ _) ∙ sum-times L k _ _

  pub shuffle_same_on : (f f' g g' : Series V) → SameOn 1 f f' → SameOn 1 g g' → SameOn 1 (shuffle_series R f g) (shuffle_series R f' g')
  shuffle_same_on f f' g g' h k w e = sum_same L _ _ _ (λ I i. ap₂ R.times (h _ refl) (k _ refl))
