-- The laws of items that lead to places, and of series, that the standard construction stands on.
use Rattle.std.specs.Prelude.{◌≡◌, ℕ, [], ◌++◌, length, Bool, false, if◌then◌else◌}
use Rattle.vc_model.specs.WeightSet.{WeightSet}
use Rattle.vc_model.specs.Lists.{In}
use Rattle.vc_model.specs.Words.{Word, is_empty, IsLetter, cut}
use Rattle.vc_model.specs.Automata.{at_rest}
use Rattle.vc_model.specs.Series.{Series, zero_series, one_series, atom_series, product_series, star_series, star_or_zero, shuffle_series}
use Rattle.vc_model.specs.Items.{Item, taken, brought, IsGiven, HaveLabels}
use Rattle.vc_terms.specs.ItemLists.{mapped, scaled_items, met_items}
use Rattle.vc_standard.specs.Structures.{Moves}

-- all of them
pub record PlaceLaws {V : Type 0} (R : WeightSet V) (equal : V → V → Bool) : Type 0 where
  pub joined : (h : Word → ℕ → V) (xs ys : Moves V) → taken R h (xs ++ ys) ≡ R.plus (taken R h xs) (taken R h ys)
  pub multiplied : (h : Word → ℕ → V) (k : V) (xs : Moves V) → taken R h (scaled_items R k xs) ≡ R.times k (taken R h xs)
  pub led : (h : Word → ℕ → V) (f : ℕ → ℕ) (xs : Moves V) → taken R h (mapped f xs) ≡ taken R (λ a t. h a (f t)) xs
  pub unless_zero : (h : Word → ℕ → V) (k : V) (xs : Moves V) → taken R h (if equal k R.zero then [] else scaled_items R k xs) ≡ R.times k (taken R h xs)
  pub zero : (tapes : ℕ) (X : ℕ → Series V) → IsGiven R tapes (zero_series R) R.zero X []
  pub one : (tapes : ℕ) (X : ℕ → Series V) → IsGiven R tapes (one_series R) R.one X []
  pub multiple : (tapes : ℕ) (k : V) (f : Series V) (c : V) (X : ℕ → Series V) (xs : Moves V) → IsGiven R tapes f c X xs → (w : Word) → length w ≡ tapes
      → R.times k (f w) ≡ R.plus (if is_empty w then R.times k c else R.zero) (R.times k (brought R X w xs))
  pub product : (tapes : ℕ) (f g : Series V) (c d : V) (X Y : ℕ → Series V) (xs ys : Moves V) → IsGiven R tapes f c X xs → HaveLabels tapes xs → IsGiven R tapes g d Y ys → (w : Word) → length w ≡ tapes
      → product_series R f g w ≡ R.plus (if is_empty w then R.times c d else R.zero) (R.plus (brought R (λ t. product_series R (X t) g) w xs) (R.times c (brought R Y w ys)))
  pub star : (tapes : ℕ) (f : Series V) (c : V) (X : ℕ → Series V) (xs : Moves V) → IsGiven R tapes f c X xs → HaveLabels tapes xs → (w : Word) → length w ≡ tapes
      → star_series R f w ≡ R.plus (if is_empty w then star_or_zero R c else R.zero) (R.times (star_or_zero R c) (brought R (λ t. product_series R (X t) (star_series R f)) w xs))
  pub both : (pair : ℕ → ℕ → ℕ) (X Y Z : ℕ → Series V) → ((t u : ℕ) (v : Word) → Z (pair t u) v ≡ R.times (X t v) (Y u v)) → (xs ys : Moves V)
      → ((e : Item V ℕ) → In e xs → IsLetter e.label) → ((e : Item V ℕ) → In e ys → IsLetter e.label) → (w : Word) → length w ≡ 1
      → R.times (brought R X w xs) (brought R Y w ys) ≡ brought R Z w (met_items R pair xs ys)
  pub shuffle : (f g : Series V) (c d : V) (X Y : ℕ → Series V) (xs ys : Moves V) → ((e : Item V ℕ) → In e xs → IsLetter e.label) → ((e : Item V ℕ) → In e ys → IsLetter e.label)
      → IsGiven R 1 f c X xs → IsGiven R 1 g d Y ys → (w : Word) → length w ≡ 1 → is_empty w ≡ false
      → shuffle_series R f g w ≡ R.plus (brought R (λ t. shuffle_series R (X t) g) w xs) (brought R (λ t. shuffle_series R f (Y t)) w ys)
  pub atoms : (a : Word) (f : Series V) (w : Word) → length a ≡ length w → product_series R (atom_series R a) f w ≡ at_rest R.zero f (cut a w)
  pub grouped : (f g h : Series V) (w : Word) → product_series R (product_series R f g) h w ≡ product_series R f (product_series R g h) w
  pub one_left : (f : Series V) (w : Word) → product_series R (one_series R) f w ≡ f w
  pub one_right : (f : Series V) (w : Word) → product_series R f (one_series R) w ≡ f w
