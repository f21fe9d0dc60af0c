-- Pairs of states of two automata.
use Rattle.std.proofs.Common.{◌≡◌, true, false, refl, ap, ◌∙◌, subst}
use Rattle.std.proofs.lemmas.Bool.{eqb-true, eq-eqb, false≢true}
use Rattle.std.specs.Prelude.{◌<◌, ◌↔◌, ◌⊎◌, ℕ, Bool, not, List, map, ◌==◌, ◌&&◌}
use Rattle.std.specs.List.{flat_map, filter}
use Rattle.vc_model.specs.Automata.{Automaton, initial_weight, final_weight}
use Rattle.vc_model.specs.Lists.{below}
use Rattle.vc_model.specs.WeightSet.{WeightSet}
use Rattle.vc_ring.specs.declared.faults.Overflow.{Overflow}
use Rattle.vc_ring.specs.declared.faults.Overflow.TheVariants.{Mul}

-- two states
abbrev pub Pair : Type 0
Pair = ℕ × ℕ

-- stands past the end of the pairs
abbrev pub no_pair : Pair
no_pair = (0, 0)

-- the pairs have the same states
abbrev pub same_states : Pair → Pair → Bool
same_states a b = (a.0 == b.0) && (a.1 == b.1)

-- the states whose initial weight is not zero
abbrev pub starts_of : {V : Type 0} → WeightSet V → (V → V → Bool) → Automaton V → List ℕ
starts_of R same A = filter (λ p. not (same (initial_weight R A p) R.zero)) (below A.states)

-- the pairs of the members of two lists, in lexicographic order
abbrev pub pairs_of : List ℕ → List ℕ → List Pair
pairs_of ps qs = flat_map (λ (p : ℕ). map (λ (q : ℕ). (p, q)) qs) ps

-- the pairs of states whose initial weights are not zero
abbrev pub first_pairs : {V : Type 0} → WeightSet V → (V → V → Bool) → Automaton V → Automaton V → List Pair
first_pairs R same A B = pairs_of (starts_of R same A) (starts_of R same B)

-- the product of both initial weights
abbrev pub pair_initial : {V : Type 0} → WeightSet V → Automaton V → Automaton V → Pair → V
pair_initial R A B k = R.times (initial_weight R A k.0) (initial_weight R B k.1)

-- the product of both final weights
abbrev pub pair_final : {V : Type 0} → WeightSet V → Automaton V → Automaton V → Pair → V
pair_final R A B k = R.times (final_weight R A k.0) (final_weight R B k.1)

-- one of these two products
abbrev pub IsEndStep : {V : Type 0} → WeightSet V → Automaton V → Automaton V → Pair → Overflow V → Type 0
IsEndStep R A B k o = (o ≡ Mul (initial_weight R A k.0) (initial_weight R B k.1)) ⊎ (o ≡ Mul (final_weight R A k.0) (final_weight R B k.1))

-- a state of each automaton
abbrev pub IsOfStates : {V : Type 0} → Automaton V → Automaton V → Pair → Type 0
IsOfStates A B k = (k.0 < A.states) × (k.1 < B.states)

both_true : (a b : Bool) → (a && b) ≡ true → (a ≡ true) × (b ≡ true)
both_true true b h = (refl, h)
both_true false b h = absurd (false≢true h)

-- the test of pairs tells whether they are equal
pub pairs_tell : (a b : Pair) → (same_states a b ≡ true) ↔ (a ≡ b)
pairs_tell a b = (
  (λ h. let r = both_true (a.0 == b.0) (a.1 == b.1) h in ap (λ (x : ℕ). (x, a.1)) (eqb-true a.0 b.0 r.0) ∙ ap (λ (y : ℕ). (b.0, y)) (eqb-true a.1 b.1 r.1)),
  (λ e. subst (λ z. same_states a z ≡ true) e (self a)),
)
  where
    self : (a : Pair) → same_states a a ≡ true
    self a = rw (eq-eqb a.0 a.0 refl, eq-eqb a.1 a.1 refl) refl
