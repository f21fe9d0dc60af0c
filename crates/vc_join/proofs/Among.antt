-- The pairs of states that are found.
use Rattle.std.proofs.Common.{◌≡◌, ℕ, List, Bool, true, false, map, sym, ap, ◌∙◌, subst, ◌<◌, arith, refl}
use Rattle.std.specs.Prelude.{not, ◌==◌, ◌≢◌}
use Rattle.std.specs.List.{filter}
use Rattle.vc_model.specs.Automata.{Automaton, Transition, initial_weight}
use Rattle.vc_model.specs.Lists.{In, below}
use Rattle.vc_model.specs.Members.{In-filter_from, In-map_from, In-flat_map_from, In-up_from}
use Rattle.vc_model.specs.Numbering.{IsAccessible, Starts, Follows}
use Rattle.vc_model.specs.WeightSet.{WeightSet}
use Rattle.vc_model.specs.Words.{Word, same_word, is_empty, size}
use Rattle.vc_model.specs.Items.{Item}
use Rattle.vc_aut.specs.Order.{moves_from}
use Rattle.vc_search.specs.Courses.{targets}
use Rattle.vc_join.specs.Conjunctions.{both_item, conjunction_items}
use Rattle.vc_join.specs.Pairs.{Pair, first_pairs, starts_of, IsOfStates}

start_below : {V : Type 0} (R : WeightSet V) (same : V → V → Bool) (A : Automaton V) (p : ℕ) → In p (starts_of R same A) → p < A.states
start_below R same A p i =
    let r = In-up_from p 0 A.states (In-filter_from (λ q. not (same (initial_weight R A q) R.zero)) p (below A.states) i).0 in
    omega (arith, r.1)

pub first_states : {V : Type 0} (R : WeightSet V) (same : V → V → Bool) (A B : Automaton V) (k : Pair) → In k (first_pairs R same A B) → IsOfStates A B k
first_states R same A B k i =
    let ps = starts_of R same A in
    let qs = starts_of R same B in
    let r = In-flat_map_from (λ (p : ℕ). map (λ (q : ℕ). (p, q)) qs) k ps i in
    let s = In-map_from (λ (q : ℕ). (r.0, q)) k qs r.2 in
    subst (IsOfStates A B) (sym s.2) (start_below R same A r.0 r.1, start_below R same B s.0 s.1)

pub next_states : {V : Type 0} (R : WeightSet V) (A B : Automaton V) → ((t : Transition V) → In t A.transitions → t.to < A.states) → ((t : Transition V) → In t B.transitions → t.to < B.states)
    → (j k : Pair) → In k (targets (conjunction_items R A B j)) → IsOfStates A B k
next_states {V} R A B a b j k i =
    let ts = moves_from A.transitions j.0 in
    let us = moves_from B.transitions j.1 in
    let e = In-map_from (λ (e : Item V Pair). e.to) k (conjunction_items R A B j) i in
    let r = In-flat_map_from (λ t. map (both_item R t) (filter (λ u. same_word t.label u.label) us)) e.0 ts e.1 in
    let s = In-map_from (both_item R r.0) e.0 (filter (λ u. same_word r.0.label u.label) us) r.2 in
    let u = In-filter_from (λ u. same_word r.0.label u.label) s.0 us s.1 in
    subst (IsOfStates A B) (sym (e.2 ∙ ap (λ (z : Item V Pair). z.to) s.2))
    (a r.0 (In-filter_from (λ t. t.from == j.0) r.0 A.transitions r.1).0, b s.0 (In-filter_from (λ t. t.from == j.1) s.0 B.transitions u.0).0)

-- all that is accessible is a pair of states
pub reached_states : {V : Type 0} (R : WeightSet V) (same : V → V → Bool) (A B : Automaton V) (next : Pair → List Pair) → ((j k : Pair) → IsOfStates A B j → In k (next j) → IsOfStates A B k)
    → (k : Pair) → IsAccessible next (first_pairs R same A B) k → IsOfStates A B k
reached_states R same A B next step _ (Starts k i) = first_states R same A B k i
reached_states R same A B next step _ (Follows j k a i) = step j k (reached_states R same A B next step j a) i

-- a transition from a state is a transition
pub move_among : {V : Type 0} (A : Automaton V) (p : ℕ) (t : Transition V) → In t (moves_from A.transitions p) → In t A.transitions
move_among A p t i = (In-filter_from (λ t. t.from == p) t A.transitions i).0

pub not_empty : (w : Word) → ((is_empty w ≡ true) → size w ≡ 0) → size w ≢ 0 → is_empty w ≡ false
not_empty w f n = go (is_empty w) f
  where
    go : (b : Bool) → (b ≡ true → size w ≡ 0) → b ≡ false
    go true f = absurd (n (f refl))
    go false f = refl
