-- Members that are found, and transitions between their numbers, on the way of a search.
use Rattle.std.specs.Prelude.{◌≡◌, ◌<◌, ◌≤◌, ◌+◌, ◌⊎◌, ℕ, Bool, List, [], ◌∷◌, ◌++◌, map, length, slice_index_or, false, refl}
use Rattle.std.specs.Coded.{Coded, code_by, coded×, coded_ℕ, coded_list}
use Rattle.std.specs.List.{flat_map}
use Rattle.vc_label.specs.declared.tape_set.TapeSet.{TapeSet}
use Rattle.vc_model.specs.Automata.{Transition}
use Rattle.vc_model.specs.Codes.{transition_code}
use Rattle.vc_model.specs.Items.{Item}
use Rattle.vc_model.specs.Lists.{In, below}
use Rattle.vc_model.specs.Numbering.{with_new}
use Rattle.vc_model.specs.WeightSet.{WeightSet}
use Rattle.vc_model.specs.Words.{is_empty}
use Rattle.vc_aut.specs.Validity.{IsMove}
use Rattle.vc_ring.specs.declared.faults.Limit.{Limit}
use Rattle.vc_ring.specs.declared.faults.MakeFault.{MakeFault}
use Rattle.vc_ring.specs.declared.faults.MakeFault.TheVariants.{Overflow as Unfit, Limit as PastLimit, Memory}
use Rattle.vc_ring.specs.declared.faults.Measure.TheVariants.{States, Transitions}
use Rattle.vc_ring.specs.declared.faults.Overflow.{Overflow}
use Rattle.vc_search.specs.Found.{Found, with_key, number_of}

-- how many members there may be, the sets of the labels, the members that are found, and the transitions between their numbers
pub record Course (V K : Type 0) : Type 0 where
  pub most : ℕ
  pub sets : List TapeSet
  pub members : List K
  pub transitions : List (Transition V)

-- the code of a course, from the codes of a set, of a weight and of a member
abbrev pub course_code : {V K : Type 0} → Coded TapeSet → Coded V → Coded K → Coded (Course V K)
course_code {V} {K} t c k =
    code_by (ℕ × (List TapeSet × (List K × List (Transition V))))
    (coded× coded_ℕ (coded× (coded_list t) (coded× (coded_list k) (coded_list (transition_code c)))))
    (λ a. (a.most, (a.sets, (a.members, a.transitions))))
    (λ p. record { most = p.0; sets = p.1.0; members = p.1.1.0; transitions = p.1.1.1 })
    (λ _. refl)

-- all that is true of each course of the code: the transitions are moves between the numbers of the members, none has an empty label, and there are at most 4,000,000
pub record IsCourse {V K : Type 0} (R : WeightSet V) (c : Course V K) : Type 0 where
  pub moves : (t : Transition V) → In t c.transitions → IsMove R c.sets (length c.members) t
  pub labels : (t : Transition V) → In t c.transitions → is_empty t.label ≡ false
  pub few : length c.transitions ≤ 4000000

-- no member and no transition
abbrev pub empty_course : {V K : Type 0} → ℕ → List TapeSet → Course V K
empty_course most sets = record { most = most; sets = sets; members = []; transitions = [] }

-- the members of a course
abbrev pub found_of : {V K : Type 0} → Course V K → Found K
found_of c = record { most = c.most; members = c.members }

-- the members that items lead to
abbrev pub targets : {V K : Type 0} → List (Item V K) → List K
targets es = map (λ e. e.to) es

-- an item as a transition from a state, where members have these numbers
abbrev pub step_of : {V K : Type 0} → (K → K → Bool) → List K → ℕ → Item V K → Transition V
step_of same members from e = record { from = from; label = e.label; to = number_of same e.to members; weight = e.weight }

-- the items of the member at a place as transitions; past stands past the end of the members
abbrev pub steps_at : {V K : Type 0} → (K → K → Bool) → (K → List (Item V K)) → K → List K → ℕ → List (Transition V)
steps_at same items past members i = map (step_of same members i) (items (slice_index_or members i past))

-- the items of the first n members as transitions
abbrev pub steps_below : {V K : Type 0} → (K → K → Bool) → (K → List (Item V K)) → K → List K → ℕ → List (Transition V)
steps_below same items past members n = flat_map (λ i. steps_at same items past members i) (below n)

-- the course once a member is found
abbrev pub begun : {V K : Type 0} → (K → K → Bool) → Course V K → K → Course V K
begun same c k = record c { members = with_key same c.members k }

-- the course once members are found, in order
abbrev pub begun_all : {V K : Type 0} → (K → K → Bool) → Course V K → List K → Course V K
begun_all same c ks = record c { members = with_new same c.members ks }

-- the course with a transition at the end
abbrev pub added : {V K : Type 0} → Course V K → Transition V → Course V K
added c t = record c { transitions = c.transitions ++ t ∷ [] }

-- the course once the member with a number leads on by an item
abbrev pub led : {V K : Type 0} → (K → K → Bool) → ℕ → Course V K → Item V K → Course V K
led same from c e = added (begun same c e.to) (step_of same c.members from e)

-- the course once the member with a number leads on by each of the items
abbrev pub led_all : {V K : Type 0} → (K → K → Bool) → ℕ → Course V K → List (Item V K) → Course V K
led_all same from c [] = c
led_all same from c (e ∷ es) = led_all same from (led same from c e) es

-- the limit that is passed where so many items lead to these members
abbrev pub IsPast : {V K : Type 0} → (K → K → Bool) → Course V K → List K → ℕ → Limit → Type 0
IsPast same c ks n l =
    ((l ≡ record { what = States; most = c.most }) × (c.most < length (with_new same c.members ks)))
    ⊎ ((l ≡ record { what = Transitions; most = 4000000 }) × (4000000 < length c.transitions + n))

-- why the course does not go on to these members by so many items: a step that is such, or a limit that is passed; want of memory is free
abbrev pub IsStopped : {V K : Type 0} → (K → K → Bool) → (Overflow V → Type 0) → Course V K → List K → ℕ → MakeFault V → Type 0
IsStopped same IsSuch c ks n (Unfit o) = IsSuch o
IsStopped same IsSuch c ks n (PastLimit l) = IsPast same c ks n l
IsStopped same IsSuch c ks n (Memory e) = Unit {0}

-- no step
abbrev pub NoStep : {V : Type 0} → Overflow V → Type 0
NoStep o = ⊥
