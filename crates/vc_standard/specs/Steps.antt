-- The steps of the standard construction: the sums, products and stars of weights that make the structure of a tree.
use Rattle.std.specs.Prelude.{◌≡◌, ◌⊎◌, ℕ, ◌+◌, ◌*◌, List, [], ◌∷◌, ◌++◌, Bool, true, if◌then◌else◌}
use Rattle.vc_model.specs.WeightSet.{WeightSet}
use Rattle.vc_model.specs.Items.{Item}
use Rattle.vc_model.specs.Lists.{In}
use Rattle.vc_model.specs.Series.{star_or_zero}
use Rattle.vc_model.specs.Words.{same_word}
use Rattle.vc_terms.specs.ItemLists.{mapped, scaled_items, same_item, put_item}
use Rattle.vc_terms.specs.Terms.{Term, Terms, NoTerms, MoreTerms, Zero, One, Atom, Sum, Product, Star, Weight, Both, Shuffle}
use Rattle.vc_ring.specs.declared.faults.Overflow.{Overflow}
use Rattle.vc_ring.specs.declared.faults.Overflow.TheVariants.{Add, Mul, Star as StarStep}
use Rattle.vc_standard.specs.Automata.{states_of}
use Rattle.vc_standard.specs.Structures.{Moves, Position, Standard, same_place, size_of, bare, beside, copied, chained, looped, standard_of}

-- k times the weight of one of the transitions
abbrev pub IsMoveMultiple : {V : Type 0} → V → Moves V → Overflow V → Type 0
IsMoveMultiple {V} k xs o = (e : Item V ℕ) × In e xs × (o ≡ Mul k e.weight)

-- k times the final weight of a state, or times the weight of one of its transitions
abbrev pub IsMultiple : {V : Type 0} → V → Position V → Overflow V → Type 0
IsMultiple k p o = (o ≡ Mul k p.final) ⊎ IsMoveMultiple k p.moves o

-- the addition that is made where a transition is put to others, none where no other is equal
abbrev pub put_steps : {V : Type 0} → Item V ℕ → Moves V → List (Overflow V)
put_steps e [] = []
put_steps e (d ∷ ds) = if same_item same_place d e then Add d.weight e.weight ∷ [] else put_steps e ds

-- the additions that are made where the second transitions are put to the first ones, one after the other
abbrev pub grouped_steps : {V : Type 0} → WeightSet V → Moves V → Moves V → List (Overflow V)
grouped_steps R ds [] = []
grouped_steps R ds (e ∷ es) = put_steps e ds ++ grouped_steps R (put_item R same_place e ds) es

-- the transitions get k before their weights, and are put to others
abbrev pub IsPutStep : {V : Type 0} → WeightSet V → V → Moves V → Moves V → Overflow V → Type 0
IsPutStep R k es ds o = IsMoveMultiple k es o ⊎ In o (grouped_steps R ds (scaled_items R k es))

-- of a sum: the final weights of the starts are added
abbrev pub IsSumStep : {V : Type 0} → Standard V → Standard V → Overflow V → Type 0
IsSumStep A B o = o ≡ Add A.start.final B.start.final

-- the final weight of one of the states stands before what the state q has
abbrev pub IsAnyMultiple : {V : Type 0} → List (Position V) → Position V → Overflow V → Type 0
IsAnyMultiple {V} ps q o = (p : Position V) × In p ps × IsMultiple p.final q o

-- of a product: the final weight of a state of the first stands before what the start of the second has
abbrev pub IsProductStep : {V : Type 0} → Standard V → Standard V → Overflow V → Type 0
IsProductStep A B o = IsAnyMultiple (states_of A) B.start o

-- of a position that may go on as a start does, whose transitions are put to its own
abbrev pub IsAgainStep : {V : Type 0} → WeightSet V → (V → V → Bool) → Position V → Position V → Overflow V → Type 0
IsAgainStep R equal q p o = IsMultiple p.final q o ⊎ In o (grouped_steps R p.moves (copied R equal p.final q.moves))

-- what one of the positions does that goes on so
abbrev pub IsAnyAgainStep : {V : Type 0} → WeightSet V → (V → V → Bool) → Position V → List (Position V) → Overflow V → Type 0
IsAnyAgainStep {V} R equal q ps o = (p : Position V) × In p ps × IsAgainStep R equal q p o

-- of a star: the star of the constant term, this before the transitions from the start, and what each position does that goes on as the start
abbrev pub IsStarStep : {V : Type 0} → WeightSet V → (V → V → Bool) → V → Standard V → Overflow V → Type 0
IsStarStep R equal h A o =
    (o ≡ StarStep A.start.final)
    ⊎ (IsMoveMultiple h A.start.moves o ⊎ IsAnyAgainStep R equal (looped R equal h A).start A.positions o)

-- the product of the weights of the transition and of another one with the same label
abbrev pub IsMeetingOf : {V : Type 0} → Item V ℕ → Moves V → Overflow V → Type 0
IsMeetingOf {V} e ds o = (d : Item V ℕ) × In d ds × (same_word e.label d.label ≡ true) × (o ≡ Mul e.weight d.weight)

-- of two transitions with the same label
abbrev pub IsMeeting : {V : Type 0} → Moves V → Moves V → Overflow V → Type 0
IsMeeting {V} es ds o = (e : Item V ℕ) × In e es × IsMeetingOf e ds o

-- of two states: the final weights are multiplied, and the weights of two transitions with the same label
abbrev pub IsMeetStep : {V : Type 0} → Position V → Position V → Overflow V → Type 0
IsMeetStep p q o = (o ≡ Mul p.final q.final) ⊎ IsMeeting p.moves q.moves o

-- of a state and any of the others
abbrev pub IsRowStep : {V : Type 0} → Position V → List (Position V) → Overflow V → Type 0
IsRowStep {V} p qs o = (q : Position V) × In q qs × IsMeetStep p q o

-- of a conjunction: what both starts do, and what any two positions do
abbrev pub IsBothStep : {V : Type 0} → Standard V → Standard V → Overflow V → Type 0
IsBothStep {V} A B o = IsMeetStep A.start B.start o ⊎ ((p : Position V) × In p A.positions × IsRowStep p B.positions o)

-- of the states with the numbers i and j: the final weights are multiplied, and the transitions of the second are put to those of the first
abbrev pub IsMixStep : {V : Type 0} → WeightSet V → ℕ → ℕ → ℕ → Position V → Position V → Overflow V → Type 0
IsMixStep R m i j p q o =
    (o ≡ Mul p.final q.final) ⊎ In o (grouped_steps R (mapped (λ k. k * (m + 1) + m + j) p.moves) (mapped (λ k. i * (m + 1) + k) q.moves))

-- of one state with the states from number j on
abbrev pub IsMixRowStep : {V : Type 0} → WeightSet V → ℕ → ℕ → ℕ → Position V → List (Position V) → Overflow V → Type 0
IsMixRowStep R m i j p [] o = ⊥
IsMixRowStep R m i j p (q ∷ qs) o = IsMixStep R m i j p q o ⊎ IsMixRowStep R m i (j + 1) p qs o

-- of the states from number i on with all
abbrev pub IsMixRowsStep : {V : Type 0} → WeightSet V → ℕ → ℕ → List (Position V) → List (Position V) → Overflow V → Type 0
IsMixRowsStep R m i [] qs o = ⊥
IsMixRowsStep R m i (p ∷ ps) qs o = IsMixRowStep R m i 0 p qs o ⊎ IsMixRowsStep R m (i + 1) ps qs o

-- of a shuffle: what both starts do, and what any other two states do
abbrev pub IsShuffleStep : {V : Type 0} → WeightSet V → Standard V → Standard V → Overflow V → Type 0
IsShuffleStep R A B o =
    IsMixStep R (size_of B) 0 0 A.start B.start o
    ⊎ (IsMixRowStep R (size_of B) 0 1 A.start B.positions o ⊎ IsMixRowsStep R (size_of B) 1 A.positions (B.start ∷ B.positions) o)

abbrev mutual
  -- of the structure of a tree: those of its parts, and those of its operation
  pub IsStep : {V : Type 0} → WeightSet V → (V → V → Bool) → Term V → Overflow V → Type 0
  IsStep R equal Zero o = ⊥
  IsStep R equal One o = ⊥
  IsStep R equal (Atom a) o = ⊥
  IsStep R equal (Sum ts) o = IsStepOfSum R equal (bare R.zero) ts o
  IsStep R equal (Product ts) o = IsStepOfProduct R equal (bare R.one) ts o
  IsStep R equal (Star t) o = IsStep R equal t o ⊎ IsStarStep R equal (star_or_zero R (standard_of R equal t).start.final) (standard_of R equal t) o
  IsStep R equal (Weight k t) o = IsStep R equal t o ⊎ IsMultiple k (standard_of R equal t).start o
  IsStep R equal (Both t u) o = IsStep R equal t o ⊎ (IsStep R equal u o ⊎ IsBothStep (standard_of R equal t) (standard_of R equal u) o)
  IsStep R equal (Shuffle t u) o = IsStep R equal t o ⊎ (IsStep R equal u o ⊎ IsShuffleStep R (standard_of R equal t) (standard_of R equal u) o)

  -- of a sum, from left to right, where the structure of the members so far is there
  pub IsStepOfSum : {V : Type 0} → WeightSet V → (V → V → Bool) → Standard V → Terms V → Overflow V → Type 0
  IsStepOfSum R equal A NoTerms o = ⊥
  IsStepOfSum R equal A (MoreTerms t ts) o =
      IsStep R equal t o ⊎ (IsSumStep A (standard_of R equal t) o ⊎ IsStepOfSum R equal (beside R A (standard_of R equal t)) ts o)

  -- of a product, from left to right
  pub IsStepOfProduct : {V : Type 0} → WeightSet V → (V → V → Bool) → Standard V → Terms V → Overflow V → Type 0
  IsStepOfProduct R equal A NoTerms o = ⊥
  IsStepOfProduct R equal A (MoreTerms t ts) o =
      IsStep R equal t o ⊎ (IsProductStep A (standard_of R equal t) o ⊎ IsStepOfProduct R equal (chained R equal A (standard_of R equal t)) ts o)
