-- The automaton of members that were all followed.
use Rattle.std.proofs.Common.{All, false, [], ◌∷◌, inl, inr, refl, ◌≡◌, ◌≤◌, ◌∙◌, ℕ, List, map, Bool, sym, ap, subst, length}
use Rattle.std.proofs.lemmas.Bool.{false≢true}
use Rattle.std.specs.Prelude.{◌↔◌, ◌⊎◌}
use Rattle.std.proofs.lemmas.List.{length-map}
use Rattle.std.proofs.lemmas.List.Elements.{All-cons, All-nil}
use Rattle.vc_aut.specs.Drafts.{without_zeros}
use Rattle.vc_aut.specs.EmptyLabels.{HasEmptyLabel}
use Rattle.vc_aut.specs.Stored.{automaton_of}
use Rattle.vc_aut.specs.Sums.{insert_all, insert_transition}
use Rattle.vc_model.specs.Automata.{Automaton, Transition, triple}
use Rattle.vc_model.specs.Gathered.{IsGathered}
use Rattle.vc_model.specs.Items.{Item}
use Rattle.vc_model.specs.Lists.{In, IsEqualityTest, NoRepeat, below}
use Rattle.vc_model.specs.WeightSet.{WeightSet}
use Rattle.vc_model.specs.Words.{Word, is_empty}
use Rattle.vc_ring.specs.declared.faults.MakeFault.{MakeFault}
use Rattle.vc_ring.specs.declared.faults.MakeFault.TheVariants.{Overflow as Unfit, Limit as PastLimit, Memory}
use Rattle.vc_ring.specs.declared.faults.Overflow.{Overflow}
use Rattle.vc_model.specs.Numbering.{IsAccessible}
use Rattle.vc_search.specs.Courses.{Course}
use Rattle.vc_search.specs.Explored.{AreNumbered, IsExplored, IsUnexplored, next_by}
use Rattle.vc_search.specs.Followed.{IsFollowed}
use Rattle.vc_search.specs.Weights.{IsUnweighed}
use Rattle.vc_search.proofs.Numbers.{machine_steps, steps_once}
use Rattle.vc_search.proofs.Sums.{labels_stay}

module _ {V K : Type 0} (R : WeightSet V) (same : K → K → Bool) (T : IsEqualityTest same) (past : K) (first : List K) (items : K → List (Item V K)) (P : K → Type 0) (c : Course V K) (F : IsFollowed same past first items P c) where
  pub explored : (most : ℕ) → c.most ≡ most → length c.members ≤ c.most → (initial last : K → V) (begins ends : List V) (ts : List (Transition V)) → begins ≡ map initial c.members → ends ≡ map last c.members → IsGathered R c.transitions ts
      → AreNumbered same (next_by items) first most (λ members. IsExplored R same past items initial last members (automaton_of begins ends ts))
  explored most m l initial last begins ends ts b e G = record {
    members = c.members;
    numbering = F.numbering;
    few = subst (λ n. length c.members ≤ n) m l;
    holds = record {
      states = ap length b ∙ length-map c.members initial;
      begins = b;
      ends = e;
      transitions = subst (λ zs. IsGathered R zs ts) (F.transitions ∙ machine_steps same T items past c.members (below (length c.members))) G;
    };
  }

  -- no triple of the transitions occurs twice
  pub followed_once : ((x y : K) → In x c.members → In y (next_by items x) → In y c.members) → NoRepeat (map triple c.transitions)
  followed_once closed = subst (λ ts. NoRepeat (map triple ts)) (sym F.transitions) (steps_once same T items past c.members closed F.once)

-- weights that are not made are a cause
pub unweighed : {V K : Type 0} (R : WeightSet V) (items : K → List (Item V K)) (first : List K) (is_step : K → Overflow V → Type 0) (most : ℕ) (members : List K) → ((x : K) → In x members → IsAccessible (next_by items) first x)
    → (f : MakeFault V) → IsUnweighed R is_step members f → IsUnexplored R items first is_step most f
unweighed R items first is_step most members A (Unfit o) h = record { member = h.0; accessible = A h.0 h.1; step = h.2; fails = h.3 }
unweighed R items first is_step most members A (PastLimit l) h = absurd h
unweighed R items first is_step most members A (Memory e) h = tt

-- what holds of each member holds of all
pub all_of : {X : Type 0} (P : X → Type 0) (xs : List X) → ((x : X) → In x xs → P x) → All P xs
all_of P [] h = All-nil P
all_of P (x ∷ xs) h = All-cons P x xs (h x (inl refl)) (all_of P xs (λ y i. h y (inr i)))

-- what the transitions come to has no empty label
pub no_empty_label : {V : Type 0} (R : WeightSet V) (same : V → V → Bool) → ((ts : List (Transition V)) (t : Transition V) (d : ℕ × Word × ℕ) → In d (map triple (insert_transition R ts t)) ↔ ((d ≡ triple t) ⊎ In d (map triple ts)))
    → (ts : List (Transition V)) → ((t : Transition V) → In t ts → is_empty t.label ≡ false) → (A : Automaton V) → A.transitions ≡ without_zeros R same (insert_all R [] ts) → HasEmptyLabel A → ⊥
no_empty_label R same from ts h A e x =
    let f : is_empty x.transition.label ≡ false = labels_stay R from same ts h x.transition (subst (In x.transition) e x.member) in
    absurd (false≢true (sym f ∙ x.empty))
