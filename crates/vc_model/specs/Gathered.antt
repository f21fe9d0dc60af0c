-- Transitions gathered: at each triple the sum of the weights that were given for it, zero sums dropped.
use Rattle.std.specs.Prelude.{◌≡◌, ◌≢◌, ℕ, List, [], ◌∷◌, map, Bool, true, not, ◌&&◌, ◌==◌, if◌then◌else◌}
use Rattle.std.specs.List.{filter}
use Rattle.vc_model.specs.WeightSet.{WeightSet}
use Rattle.vc_model.specs.Lists.{In, NoRepeat}
use Rattle.vc_model.specs.Sums.{sum_over}
use Rattle.vc_model.specs.Words.{Word, same_word}
use Rattle.vc_model.specs.Automata.{Transition, triple}

-- the triples have the same source, label and target
abbrev pub same_triple : ℕ × Word × ℕ → ℕ × Word × ℕ → Bool
same_triple a b = (a.0 == b.0) && (same_word a.1 b.1 && (a.2 == b.2))

-- the sum of the weights that the transitions have at a triple
abbrev pub weight_at : {V : Type 0} → WeightSet V → List (Transition V) → ℕ × Word × ℕ → V
weight_at R ts d = sum_over R (λ t. if same_triple (triple t) d then t.weight else R.zero) ts

-- the transitions are the raw ones gathered: no triple twice, no weight zero, and at each triple the sum of the raw weights
pub record IsGathered {V : Type 0} (R : WeightSet V) (raw ts : List (Transition V)) : Type 0 where
  pub triples : NoRepeat (map triple ts)
  pub weight : (t : Transition V) → In t ts → t.weight ≢ R.zero
  pub sums : (d : ℕ × Word × ℕ) → weight_at R ts d ≡ weight_at R raw d

-- the members of the list, each once
abbrev pub distinct : {X : Type 0} → (X → X → Bool) → List X → List X
distinct same [] = []
distinct same (x ∷ xs) = x ∷ filter (λ y. not (same x y)) (distinct same xs)

-- the raw transitions gathered, by a test of equality of weights
abbrev pub gather : {V : Type 0} → WeightSet V → (V → V → Bool) → List (Transition V) → List (Transition V)
gather {V} R same raw =
    filter (λ (t : Transition V). not (same t.weight R.zero))
    (map (λ d. record { from = d.0; label = d.1; to = d.2; weight = weight_at R raw d }) (distinct same_triple (map triple raw)))

-- each member comes before all that stand after it
abbrev pub IsAscending : {X : Type 0} → (X → X → Bool) → List X → Type 0
IsAscending before [] = Unit {0}
IsAscending {X} before (x ∷ xs) = ((y : X) → In y xs → before x y ≡ true) × IsAscending before xs
