-- Where the transitions of a join come from.
use Rattle.std.specs.Prelude.{◌≡◌, ℕ, [], ◌∷◌, ◌⊎◌}
use Rattle.vc_model.specs.Lists.{In}
use Rattle.vc_model.specs.Automata.{Transition, Automaton}
use Rattle.vc_products.specs.Joins.{part}

-- both move by the same middle letter
pub record MovesTogether {V : Type 0} (A B : Automaton V) (left right : ℕ → ℕ) (t : Transition V) : Type 0 where
  pub first : Transition V
  pub second : Transition V
  pub first_in : In first A.transitions
  pub second_in : In second B.transitions
  pub first_from : first.from ≡ left t.from
  pub first_to : first.to ≡ left t.to
  pub second_from : second.from ≡ right t.from
  pub second_to : second.to ≡ right t.to
  pub letter : ℕ
  pub first_label : part first 1 ≡ letter ∷ []
  pub second_label : part second 0 ≡ letter ∷ []
  pub label : t.label ≡ part first 0 ∷ (letter ∷ []) ∷ part second 1 ∷ []

-- the first moves with no middle letter, and the second stays
pub record MovesFirst {V : Type 0} (A : Automaton V) (left right : ℕ → ℕ) (t : Transition V) : Type 0 where
  pub first : Transition V
  pub first_in : In first A.transitions
  pub first_from : first.from ≡ left t.from
  pub first_to : first.to ≡ left t.to
  pub stays : right t.to ≡ right t.from
  pub first_label : part first 1 ≡ []
  pub label : t.label ≡ part first 0 ∷ [] ∷ [] ∷ []

-- the second moves with no middle letter, and the first stays
pub record MovesSecond {V : Type 0} (B : Automaton V) (left right : ℕ → ℕ) (t : Transition V) : Type 0 where
  pub second : Transition V
  pub second_in : In second B.transitions
  pub second_from : second.from ≡ right t.from
  pub second_to : second.to ≡ right t.to
  pub stays : left t.to ≡ left t.from
  pub second_label : part second 0 ≡ []
  pub label : t.label ≡ [] ∷ [] ∷ part second 1 ∷ []

-- each transition of J is one of the three moves
abbrev pub HasMoves : {V : Type 0} → Automaton V → Automaton V → Automaton V → (ℕ → ℕ) → (ℕ → ℕ) → Type 0
HasMoves {V} A B J left right = (t : Transition V) → In t J.transitions → MovesTogether A B left right t ⊎ (MovesFirst A left right t ⊎ MovesSecond B left right t)
