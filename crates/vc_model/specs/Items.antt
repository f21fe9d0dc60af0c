-- Items, which lead to things of any kind by a label and a weight, and series that are given by items.
use Rattle.std.specs.Prelude.{◌≡◌, ◌≢◌, ℕ, List, length, map, if◌then◌else◌}
use Rattle.vc_model.specs.WeightSet.{WeightSet}
use Rattle.vc_model.specs.Lists.{In, NoRepeat}
use Rattle.vc_model.specs.Sums.{sum_over}
use Rattle.vc_model.specs.Words.{Word, cut, is_empty, IsLabel}
use Rattle.vc_model.specs.Series.{Series}
use Rattle.vc_model.specs.Automata.{at_rest}

-- a transition to a thing
pub record Item (V T : Type 0) : Type 0 where
  pub label : Word
  pub weight : V
  pub to : T

-- over the items, the sum of weight times the value at label and target
abbrev pub taken : {V T : Type 0} → WeightSet V → (Word → T → V) → List (Item V T) → V
taken R h xs = sum_over R (λ e. R.times e.weight (h e.label e.to)) xs

-- what the items bring at a word, where X is the series of each target
abbrev pub brought : {V T : Type 0} → WeightSet V → (T → Series V) → Word → List (Item V T) → V
brought R X w xs = taken R (λ a t. at_rest R.zero (X t) (cut a w)) xs

-- at the words of so many tapes f is c where the word is empty, and what the items bring
abbrev pub IsGiven : {V T : Type 0} → WeightSet V → ℕ → Series V → V → (T → Series V) → List (Item V T) → Type 0
IsGiven R tapes f c X xs = (w : Word) → length w ≡ tapes → f w ≡ R.plus (if is_empty w then c else R.zero) (brought R X w xs)

-- each label has so many tapes and is not empty
abbrev pub HaveLabels : {V T : Type 0} → ℕ → List (Item V T) → Type 0
HaveLabels {V} {T} tapes xs = (e : Item V T) → In e xs → IsLabel tapes e.label

-- an item without its weight
abbrev pub item_key : {V T : Type 0} → Item V T → Word × T
item_key e = (e.label, e.to)

-- no label and target twice, and no weight zero
pub record AreNeat {V T : Type 0} (R : WeightSet V) (xs : List (Item V T)) : Type 0 where
  pub once : NoRepeat (map item_key xs)
  pub weight : (e : Item V T) → In e xs → e.weight ≢ R.zero
