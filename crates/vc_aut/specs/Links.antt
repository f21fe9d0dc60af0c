-- States that transitions link, and the states that links lead to.
use Rattle.std.specs.Prelude.{◌≡◌, ◌==◌, ◌<◌, ◌≤◌, ◌+◌, ◌-◌, ℕ, List, [], ◌∷◌, length, map, filter, take, drop, slice_index_or, Bool, true, ◌⊎◌, if◌then◌else◌}
use Rattle.vc_model.specs.Automata.{Transition}
use Rattle.vc_model.specs.Lists.{In}
use Rattle.vc_aut.specs.Marks.{is_marked, unmarked}

-- where a transition begins, or ends where it is gone along backwards
abbrev pub near : {V : Type 0} → Bool → Transition V → ℕ
near back t = if back then t.to else t.from

-- where it leads then
abbrev pub far : {V : Type 0} → Bool → Transition V → ℕ
far back t = if back then t.from else t.to

-- where the transitions from a state lead
abbrev pub linked : {V : Type 0} → Bool → List (Transition V) → ℕ → List ℕ
linked back ts p = map (far back) (filter (λ t. near back t == p) ts)

-- each state is linked with the one after it
abbrev pub IsChain : (ℕ → List ℕ) → ℕ → List ℕ → Type 0
IsChain next p [] = Unit {0}
IsChain next p (q ∷ qs) = In q (next p) × IsChain next q qs

-- the last state of a chain from p
abbrev pub last_of : ℕ → List ℕ → ℕ
last_of p [] = p
last_of p (q ∷ qs) = last_of q qs

-- a chain leads to q from a state that is marked
pub record IsReached (next : ℕ → List ℕ) (first : List Bool) (q : ℕ) : Type 0 where
  pub start : ℕ
  pub begins : is_marked first start ≡ true
  pub chain : List ℕ
  pub is : IsChain next start chain
  pub ends : last_of start chain ≡ q

-- the states of a list are marked, and those that were not marked before wait
pub record IsFollowed (next : List ℕ) (marks : List Bool) (open_ : List ℕ) (after : List Bool) (later : List ℕ) : Type 0 where
  pub same : length after ≡ length marks
  pub all : (q : ℕ) → In q next → is_marked after q ≡ true
  pub kept : (q : ℕ) → is_marked marks q ≡ true → is_marked after q ≡ true
  pub source : (q : ℕ) → is_marked after q ≡ true → (is_marked marks q ≡ true) ⊎ (In q next × In q later)
  pub still : (q : ℕ) → In q open_ → In q later
  pub inside : (q : ℕ) → In q later → In q open_ ⊎ In q next
  pub count : unmarked after + length later ≡ unmarked marks + length open_

-- the place behind the last of the transitions to p, or 0 where none leads there
pub record IsLink {V : Type 0} (ts : List (Transition V)) (p link : ℕ) : Type 0 where
  pub within : link ≤ length ts
  pub none : linked true (drop link ts) p ≡ []
  pub leads : 0 < link → (d : Transition V) → (slice_index_or ts (link - 1) d).to ≡ p

-- for n states the link of each, and for each transition the link of its target among those before it
pub record AreLinks {V : Type 0} (ts : List (Transition V)) (n : ℕ) (last before : List ℕ) : Type 0 where
  pub states : length last ≡ n
  pub count : length before ≡ length ts
  pub ends : (p d : ℕ) → p < n → IsLink ts p (slice_index_or last p d)
  pub steps : (i d : ℕ) (t : Transition V) → i < length ts → IsLink (take i ts) (slice_index_or ts i t).to (slice_index_or before i d)
