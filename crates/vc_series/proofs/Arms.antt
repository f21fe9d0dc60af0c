-- What each kind of tree comes to from the answers for its parts.
use Rattle.std.proofs.Common.{◌≡◌, IsTrue, length, ◌≤◌, arith, [], ◌∷◌, ◌++◌, Bool, true, false, cond, Result, Ok, Err, refl, sym, ap, ◌∙◌, subst}
use Rattle.vc_model.specs.WeightSet.{WeightSet, RangeLaws}
use Rattle.vc_model.specs.WordLaws.{size-empty_word}
use Rattle.vc_model.specs.Words.{Word, size, emptied}
use Rattle.vc_ring.specs.Steps.{added, multiplied}
use Rattle.vc_ring.specs.declared.faults.Overflow.{Overflow}
use Rattle.vc_ring.specs.declared.faults.Overflow.TheVariants.{Add, Mul}
use Rattle.vc_terms.specs.Terms.{Term, Weight, Both, coefficient_of}
use Rattle.vc_series.specs.Answers.{IsSlowAnswer, coefficient_answer}
use Rattle.vc_series.specs.Steps.{coefficient_steps}
use Rattle.vc_series.specs.declared.fault.SlowFault.{SlowFault}
use Rattle.vc_series.proofs.Summing.{refused, refused_second, multiplied_value, multiplied_values}

module _ {V : Type 0} (R : WeightSet V) where
  -- a refusal that is handed on
  pub handed_on : (answer : Result V (Overflow V)) (r : Result V (SlowFault V)) (fault e : SlowFault V) → r ≡ Err fault → fault ≡ e → IsSlowAnswer answer (Err e) → IsSlowAnswer answer r
  handed_on answer r fault e p q h = subst (λ x. IsSlowAnswer answer x) (sym (p ∙ ap Err q)) h

  -- a left multiple
  pub weight_refused : (k : V) (t whole : Term V) (w : Word) (fault : SlowFault V) → whole ≡ Weight k t → IsSlowAnswer (coefficient_answer R t w) (Err fault) → IsSlowAnswer (coefficient_answer R whole w) (Err fault)
  weight_refused k t whole w fault e h =
      subst (λ x. IsSlowAnswer (coefficient_answer R x w) (Err fault)) (sym e)
      (refused R (coefficient_steps R t w) (Mul k (coefficient_of R t w) ∷ []) (coefficient_of R t w) (R.times k (coefficient_of R t w)) fault h)

  pub weight_answer : (k : V) (t whole : Term V) (w : Word) (a : V) → whole ≡ Weight k t → coefficient_answer R t w ≡ Ok a → coefficient_answer R whole w ≡ multiplied R k a
  weight_answer k t whole w a e h = ap (λ x. coefficient_answer R x w) e ∙ multiplied_value R (coefficient_steps R t w) k (coefficient_of R t w) a h

  -- a conjunction
  pub both_first : (t u whole : Term V) (w : Word) (fault : SlowFault V) → whole ≡ Both t u → IsSlowAnswer (coefficient_answer R t w) (Err fault) → IsSlowAnswer (coefficient_answer R whole w) (Err fault)
  both_first t u whole w fault e h =
      subst (λ x. IsSlowAnswer (coefficient_answer R x w) (Err fault)) (sym e)
      (refused R (coefficient_steps R t w) (coefficient_steps R u w ++ Mul (coefficient_of R t w) (coefficient_of R u w) ∷ []) (coefficient_of R t w) (R.times (coefficient_of R t w) (coefficient_of R u w)) fault h)

  pub both_second : (t u whole : Term V) (w : Word) (a : V) (fault : SlowFault V) → whole ≡ Both t u → coefficient_answer R t w ≡ Ok a → IsSlowAnswer (coefficient_answer R u w) (Err fault) → IsSlowAnswer (coefficient_answer R whole w) (Err fault)
  both_second t u whole w a fault e h k =
      subst (λ x. IsSlowAnswer (coefficient_answer R x w) (Err fault)) (sym e)
      (refused_second R (coefficient_steps R t w) (coefficient_steps R u w) (Mul (coefficient_of R t w) (coefficient_of R u w) ∷ []) (coefficient_of R t w) a (coefficient_of R u w) (R.times (coefficient_of R t w) (coefficient_of R u w)) fault h k)

  pub both_answer : (t u whole : Term V) (w : Word) (a b : V) → whole ≡ Both t u → coefficient_answer R t w ≡ Ok a → coefficient_answer R u w ≡ Ok b → coefficient_answer R whole w ≡ multiplied R a b
  both_answer t u whole w a b e h k = ap (λ x. coefficient_answer R x w) e ∙ multiplied_values R (coefficient_steps R t w) (coefficient_steps R u w) (coefficient_of R t w) (coefficient_of R u w) a b h k

  -- a sum of values that fits is a value
  pub sum_in : RangeLaws R → (a b t : V) → IsTrue (R.in_range a) → IsTrue (R.in_range b) → ◌≡◌ {A = Result V (Overflow V)} (Ok t) (added R a b) → IsTrue (R.in_range t)
  sum_in G a b t i j e = go (R.fits_plus a b) refl e
    where
      go : (c : Bool) → R.fits_plus a b ≡ c → ◌≡◌ {A = Result V (Overflow V)} (Ok t) (cond c (Ok (R.plus a b)) (Err (Add a b))) → IsTrue (R.in_range t)
      go true p q = let r : t ≡ R.plus a b = cc in subst (λ y. IsTrue (R.in_range y)) (sym r) (G.plus_in a b i j p)
      go false p q = absurd (cc)

-- the empty word of the tapes of a word is not longer
pub empty_size : (w : Word) → size (emptied w) ≤ size w
empty_size w = let e = size-empty_word (length w) in omega (arith, e)
