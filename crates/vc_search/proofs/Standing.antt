-- States of an explored automaton stand for their members.
use Rattle.std.proofs.Common.{◌≡◌, ◌<◌, ℕ, zero, suc, List, [], ◌∷◌, map, Bool, refl, ap, ◌∙◌, arith, length, get_or}
use Rattle.vc_model.specs.Automata.{Automaton, final_weight}
use Rattle.vc_model.specs.Gathered.{IsGathered}
use Rattle.vc_model.specs.Items.{Item}
use Rattle.vc_model.specs.Lists.{In}
use Rattle.vc_model.specs.Machines.{LeadsInto, StandsFor, machine}
use Rattle.vc_model.specs.Members.{In-map}
use Rattle.vc_model.specs.WeightSet.{WeightSet}
use Rattle.vc_search.specs.Explored.{IsExplored, next_by}

-- what stands at a place of a mapped list
pub mapped_at : {X Y : Type 0} (f : X → Y) (xs : List X) (i : ℕ) (d : X) (z : Y) → i < length xs → get_or (map f xs) i z ≡ f (get_or xs i d)
mapped_at f [] i d z h = absurd (omega arith)
mapped_at f (x ∷ xs) zero d z h = refl
mapped_at f (x ∷ xs) (suc i) d z h = mapped_at f xs i d z (omega arith)

pub stands : {V K : Type 0} (R : WeightSet V) (same : K → K → Bool) (past : K) (items : K → List (Item V K)) (initial last : K → V) (members : List K) (A : Automaton V)
    → ((x y : K) → In x members → In y (next_by items x) → In y members)
    → (X : IsExplored R same past items initial last members A)
    → (LeadsInto items members → A.states ≡ length members → ((i : ℕ) → i < length members → final_weight R A i ≡ last (get_or members i past)) → IsGathered R (machine R same last items past members).transitions A.transitions → StandsFor R A (λ i. get_or members i past) last items)
    → StandsFor R A (λ i. get_or members i past) last items
stands {V} {K} R same past items initial last members A closed X G =
    G (λ k i e j. closed k e.to i (In-map (λ (z : Item V K). z.to) e (items k) j)) X.states
    (λ i h. ap (λ ws. get_or ws i R.zero) X.ends ∙ mapped_at last members i past R.zero h) X.transitions
