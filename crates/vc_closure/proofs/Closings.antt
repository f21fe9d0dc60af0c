-- The closure acts on sums, and the automaton that it makes is a closure.
use Rattle.std.proofs.Common.{◌≡◌, ◌≢◌, ℕ, ◌<◌, ◌+◌, cond, Bool, true, false, not, ◌&&◌, eqb, refl, sym, ap, ap₂, ◌∙◌, arith}
use Rattle.std.specs.List.{filter, flat_map}
use Rattle.std.proofs.lemmas.Bool.{false≢true}
use Rattle.vc_model.specs.Automata.{Automaton, Transition}
use Rattle.vc_model.specs.Choices.{cond-times, cond_zero}
use Rattle.vc_model.specs.Closures.{entries_sum, silent_sum, spoken_sum}
use Rattle.vc_model.specs.Keys.{sum_pick}
use Rattle.vc_model.specs.Lists.{In, below}
use Rattle.vc_model.specs.Members.{In-filter_from, In-flat_map_from, In-map_from, In-up_from, NoRepeat-up_from, up_from-In}
use Rattle.vc_model.specs.Rearranged.{one_times, plus_times, zero_times}
use Rattle.vc_model.specs.SumLaws.{sum-filter, sum-flat_map, sum-map, sum-plus, sum-times, sum-times_right, sum_same, sum_swap, sum_zero}
use Rattle.vc_model.specs.Sums.{sum_over}
use Rattle.vc_model.specs.WeightSet.{WeightSet, SemiringLaws}
use Rattle.vc_model.specs.WordLaws.{and_parts, is_empty-size}
use Rattle.vc_model.specs.Words.{Word, is_empty, size}
use Rattle.vc_closure.specs.Closing.{IsClosed, all_brought, brought, next_entry, silent_weight, unit_entry}

pub less : (i n : ℕ) → In i (below n) → i < n
less i n m = let r = In-up_from i 0 n m in let l : i < 0 + n = r.1 in omega arith

pub inside : (i n : ℕ) → i < n → In i (below n)
inside i n l = up_from-In i 0 n (omega arith) (omega arith)

module _ {V : Type 0} {R : WeightSet V} (L : SemiringLaws R) where
  pub pick : (n a : ℕ) (f : ℕ → V) → a < n → sum_over R (λ j. cond (eqb j a) (f j) R.zero) (below n) ≡ f a
  pick n a f l = sum_pick L f a (below n) (NoRepeat-up_from 0 n) (inside a n l)

  pub unit_acts : (n i : ℕ) (g : ℕ → V) → i < n → sum_over R (λ j. R.times (unit_entry R i j) (g j)) (below n) ≡ g i
  unit_acts n i g l =
      sum_same L _ (λ j. cond (eqb j i) (g j) R.zero) (below n) (λ j m. cond-times L (eqb j i) R.one (g j) ∙ ap (λ x. cond (eqb j i) x R.zero) (one_times L (g j)))
      ∙ pick n i g l

  module _ (A : Automaton V) where
    -- the weights of the empty transitions times values: a sum over the empty transitions
    pub silent : ((t : Transition V) → In t A.transitions → t.to < A.states) → (p : ℕ) (g : ℕ → V) → sum_over R (λ j. R.times (silent_weight R A p j) (g j)) (below A.states) ≡ silent_sum R A p g
    silent to p g =
        sum_same L _ (λ j. sum_over R (λ t. R.times (cond (eqb t.from p) (cond (is_empty t.label) (cond (eqb j t.to) t.weight R.zero) R.zero) R.zero) (g j)) A.transitions) (below A.states) (λ j m. sym (sum-times_right L (g j) _ A.transitions))
        ∙ sum_swap L (λ j t. R.times (cond (eqb t.from p) (cond (is_empty t.label) (cond (eqb j t.to) t.weight R.zero) R.zero) R.zero) (g j)) (below A.states) A.transitions
        ∙ sum_same L _ _ A.transitions (λ t i. each t i (eqb t.from p) (is_empty t.label))
      where
        each : (t : Transition V) → In t A.transitions → (b d : Bool) → sum_over R (λ j. R.times (cond b (cond d (cond (eqb j t.to) t.weight R.zero) R.zero) R.zero) (g j)) (below A.states) ≡ cond b (cond d (R.times t.weight (g t.to)) R.zero) R.zero
        each t i true true = sum_same L _ (λ j. cond (eqb j t.to) (R.times t.weight (g j)) R.zero) (below A.states) (λ j m. cond-times L (eqb j t.to) t.weight (g j)) ∙ pick A.states t.to (λ j. R.times t.weight (g j)) (to t i)
        each t i true false = sum_zero L _ (below A.states) (λ j m. zero_times L (g j))
        each t i false d = sum_zero L _ (below A.states) (λ j m. zero_times L (g j))

    -- a matrix that is the unit matrix and the empty transitions times K acts as one and then an empty transition and K
    pub acts : ((t : Transition V) → In t A.transitions → t.to < A.states) → (H K : ℕ → ℕ → V) → ((i t : ℕ) → i < A.states → t < A.states → H i t ≡ next_entry R A K i t) → (p : ℕ) (g : ℕ → V) → p < A.states
        → entries_sum R A H p g ≡ R.plus (g p) (silent_sum R A p (λ q. entries_sum R A K q g))
    acts to H K C p g l =
        sum_same L _ (λ q. R.plus (R.times (unit_entry R p q) (g q)) (sum_over R (λ j. R.times (silent_weight R A p j) (R.times (K j q) (g q))) (below A.states))) (below A.states) (λ q m.
        ap (λ x. R.times x (g q)) (C p q l (less q A.states m)) ∙ plus_times L (unit_entry R p q) _ (g q)
        ∙ ap (R.plus (R.times (unit_entry R p q) (g q))) (sym (sum-times_right L (g q) _ (below A.states)) ∙ sum_same L _ _ (below A.states) (λ j k. L.times_assoc (silent_weight R A p j) (K j q) (g q))))
        ∙ sum-plus L (λ q. R.times (unit_entry R p q) (g q)) (λ q. sum_over R (λ j. R.times (silent_weight R A p j) (R.times (K j q) (g q))) (below A.states)) (below A.states)
        ∙ ap₂ R.plus (unit_acts A.states p g l)
        (sum_swap L (λ q j. R.times (silent_weight R A p j) (R.times (K j q) (g q))) (below A.states) (below A.states)
        ∙ sum_same L _ (λ j. R.times (silent_weight R A p j) (entries_sum R A K j g)) (below A.states) (λ j k. sum-times L (silent_weight R A p j) (λ q. R.times (K j q) (g q)) (below A.states))
        ∙ silent to p (λ j. entries_sum R A K j g))

    pub unfolds : ((t : Transition V) → In t A.transitions → t.to < A.states) → (K : ℕ → ℕ → V) → IsClosed R A K → (p : ℕ) (g : ℕ → V) → p < A.states → entries_sum R A K p g ≡ R.plus (g p) (silent_sum R A p (λ q. entries_sum R A K q g))
    unfolds to K C = acts to K K C

    module _ (K : ℕ → ℕ → V) (p : ℕ) (h : Word → ℕ → V) where
      abbrev value : Transition V → V
      value t = cond (eqb t.from p) (R.times t.weight (h t.label t.to)) R.zero

      abbrev part : ℕ → ℕ → Transition V → Transition V
      part i j t = record { from = i; label = t.label; to = t.to; weight = R.times (K i j) t.weight }

      one_part : (i j : ℕ) → sum_over R value (brought R A K i j) ≡ cond (eqb i p) (R.times (K i j) (spoken_sum R A j h)) R.zero
      one_part i j =
          sum-map L value (part i j) (filter (λ (t : Transition V). eqb t.from j && not (is_empty t.label)) A.transitions)
          ∙ sum-filter L (λ t. value (part i j t)) (λ (t : Transition V). eqb t.from j && not (is_empty t.label)) A.transitions
          ∙ go (eqb i p)
        where
          each : (t : Transition V) (a e : Bool) → cond (a && not e) (R.times (R.times (K i j) t.weight) (h t.label t.to)) R.zero ≡ R.times (K i j) (cond a (cond e R.zero (R.times t.weight (h t.label t.to))) R.zero)
          each t true true = sym (L.times_zero (K i j))
          each t true false = L.times_assoc (K i j) t.weight (h t.label t.to)
          each t false e = sym (L.times_zero (K i j))

          go : (b : Bool) → sum_over R (λ t. cond (eqb t.from j && not (is_empty t.label)) (cond b (R.times (R.times (K i j) t.weight) (h t.label t.to)) R.zero) R.zero) A.transitions ≡ cond b (R.times (K i j) (spoken_sum R A j h)) R.zero
          go true = sum_same L _ _ A.transitions (λ t m. each t (eqb t.from j) (is_empty t.label)) ∙ sum-times L (K i j) (λ t. cond (eqb t.from j) (cond (is_empty t.label) R.zero (R.times t.weight (h t.label t.to))) R.zero) A.transitions
          go false = sum_zero L _ A.transitions (λ t m. cond_zero R.zero (eqb t.from j && not (is_empty t.label)) R.zero refl)

      one_state : (i : ℕ) → sum_over R value (flat_map (brought R A K i) (below A.states)) ≡ cond (eqb i p) (entries_sum R A K i (λ q. spoken_sum R A q h)) R.zero
      one_state i =
          sum-flat_map L value (brought R A K i) (below A.states) ∙ sum_same L _ _ (below A.states) (λ j m. one_part i j) ∙ go (eqb i p)
        where
          go : (b : Bool) → sum_over R (λ j. cond b (R.times (K i j) (spoken_sum R A j h)) R.zero) (below A.states) ≡ cond b (entries_sum R A K i (λ q. spoken_sum R A q h)) R.zero
          go true = refl
          go false = sum_zero L _ (below A.states) (λ j m. refl)

      -- what is brought to p: over the states, the entry times what the state has
      pub brought_moves : p < A.states → sum_over R value (all_brought R A K) ≡ entries_sum R A K p (λ q. spoken_sum R A q h)
      brought_moves l =
          sum-flat_map L value (λ i. flat_map (brought R A K i) (below A.states)) (below A.states)
          ∙ sum_same L _ (λ i. cond (eqb i p) (entries_sum R A K i (λ q. spoken_sum R A q h)) R.zero) (below A.states) (λ i m. one_state i)
          ∙ pick A.states p (λ i. entries_sum R A K i (λ q. spoken_sum R A q h)) l

    -- no label that is brought is empty
    pub brought_full : (K : ℕ → ℕ → V) (r : Transition V) → In r (all_brought R A K) → size r.label ≢ 0
    brought_full K r i z =
        let a = In-flat_map_from (λ i. flat_map (brought R A K i) (below A.states)) r (below A.states) i in
        let b = In-flat_map_from (brought R A K a.0) r (below A.states) a.2 in
        let m = In-map_from (λ (t : Transition V). record { from = a.0; label = t.label; to = t.to; weight = R.times (K a.0 b.0) t.weight }) r (filter (λ (t : Transition V). eqb t.from b.0 && not (is_empty t.label)) A.transitions) b.2 in
        let f = In-filter_from (λ (t : Transition V). eqb t.from b.0 && not (is_empty t.label)) m.0 A.transitions m.1 in
        let n : not (is_empty m.0.label) ≡ true = (and_parts (eqb m.0.from b.0) (not (is_empty m.0.label)) f.1).1 in
        let e : is_empty m.0.label ≡ true = is_empty-size m.0.label (ap (λ (t : Transition V). size t.label) (sym m.2) ∙ z) in
        absurd (false≢true (sym (ap not e) ∙ n))
