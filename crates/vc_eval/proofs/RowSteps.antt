-- The row of a prefix is the sums over the transitions whose labels end it, and a row step has the steps of these sums.
use Rattle.std.proofs.Common.{◌≡◌, ◌≢◌, ℕ, ◌<◌, ◌≤◌, ◌+◌, ◌==◌, List, [], ◌∷◌, ◌++◌, Bool, true, false, Option, None, Some, cond, eqb, length, filter, refl, sym, ap, ap₂, ◌∙◌, inl, inr, subst, zero, suc, arith}
use Rattle.std.specs.List.{flat_map}
use Rattle.vc_model.specs.WeightSet.{WeightSet, SemiringLaws}
use Rattle.vc_model.specs.Automata.{Transition, Automaton, IsAutomaton, IsProper, at_rest, row, last_step, initial_weight}
use Rattle.vc_model.specs.Lists.{In, below}
use Rattle.vc_model.specs.Sums.{sum_over, sum_onto}
use Rattle.vc_model.specs.Words.{Word, size, is_empty, join, cut_end}
use Rattle.vc_model.specs.WordLaws.{size-join}
use Rattle.vc_model.specs.WordEnds.{join-cut_end}
use Rattle.vc_model.specs.Rests.{at_rest_same}
use Rattle.vc_model.specs.LastSteps.{sum_pick_state, eqb_comm, row_within-suc}
use Rattle.vc_model.specs.ProperRows.{row-is}
use Rattle.vc_model.specs.Members.{In-up_from, up_from-In, In-flat_map}
use Rattle.vc_model.specs.SumLaws.{sum_onto-is, sum-map, sum-flat_map, sum-filter, sum_same, sum_swap}
use Rattle.vc_model.specs.Outcomes as steps
use Rattle.vc_model.specs.OutcomeLaws.{AllFit-append}
use Rattle.vc_model.specs.Rearranged.{zero_plus, zero_times}
use Rattle.vc_ring.specs.Steps.{fits, AllFit}
use Rattle.vc_ring.specs.declared.faults.Overflow.{Overflow}
use Rattle.vc_eval.specs.Forward.{products, products_steps, by_source, last_factors, row_factors, row_steps}
use Rattle.vc_eval.specs.Moves.{entry, moved, move_steps}
use Rattle.vc_eval.proofs.Sources.{by_source-In}
use Rattle.vc_eval.proofs.Targets.{factor, factors_to, fixed, moved-entry, moved-fits, moved-In}

flat_map_same : {X Y : Type 0} (f h : X → List Y) (xs : List X) → ((x : X) → In x xs → f x ≡ h x) → flat_map f xs ≡ flat_map h xs
flat_map_same f h [] e = refl
flat_map_same f h (x ∷ xs) e = ap₂ ◌++◌ (e x (inl refl)) (flat_map_same f h xs (λ y i. e y (inr i)))

pub AllFit-flat_map : {X Y : Type 0} (fit : Y → Bool) (f : X → List Y) (xs : List X) → ((x : X) → In x xs → steps.AllFit fit (f x)) → steps.AllFit fit (flat_map f xs)
AllFit-flat_map fit f [] h = tt
AllFit-flat_map fit f (x ∷ xs) h = AllFit-append fit (f x) (flat_map f xs) (h x (inl refl)) (AllFit-flat_map fit f xs (λ y i. h y (inr i)))

not_empty : (w : Word) → size w ≢ 0 → is_empty w ≡ false
not_empty [] n = absurd (n refl)
not_empty ([] ∷ w) n = not_empty w (λ e. n (omega arith))
not_empty ((x ∷ a) ∷ w) n = refl

some_size : (w : Word) (P : Type 0) → size w ≢ 0 → ((k : ℕ) → size w ≡ suc k → P) → P
some_size w P n f = go (size w) refl
  where
    go : (k : ℕ) → size w ≡ k → P
    go zero e = absurd (n e)
    go (suc k) e = f k e

module _ {V : Type 0} {R : WeightSet V} (L : SemiringLaws R) (tapes : ℕ) (A : Automaton V) (G : IsAutomaton R tapes A) (proper : IsProper A) where
  -- a sum over the transitions by source
  pub sum-by_source : (f : Transition V → V) → sum_over R f (by_source A) ≡ sum_over R f A.transitions
  sum-by_source f =
      sum-flat_map L f (λ s. filter (λ t. t.from == s) A.transitions) (below A.states)
      ∙ sum_same L _ (λ s. sum_over R (λ t. cond (eqb t.from s) (f t) R.zero) A.transitions) (below A.states) (λ s i. sum-filter L f (λ t. t.from == s) A.transitions)
      ∙ sum_swap L (λ s t. cond (eqb t.from s) (f t) R.zero) (below A.states) A.transitions
      ∙ sum_same L _ _ A.transitions (λ t j.
      sum_same L _ _ (below A.states) (λ s i. ap (λ b. cond b (f t) R.zero) (eqb_comm t.from s))
      ∙ sum_pick_state L A tapes G.label (λ _. f t) t.from (G.from t j))

  -- what stands before a label is shorter
  shorter : (t : Transition V) → In t A.transitions → (w v : Word) → cut_end t.label w ≡ Some v → size v < size w
  shorter t i w v c =
      let j = join-cut_end t.label w v c in
      let s : size (join v t.label) ≡ size v + size t.label = size-join v t.label (j.1 ∙ sym j.2) in
      let s' : size (join v t.label) ≡ size w = ap size j.0 in
      let n : size t.label ≢ 0 = proper t i in
      omega arith

  module _ (w : Word) (e : length w ≡ tapes) (some : size w ≢ 0) where
    -- the row of a word with a letter, by what stands before the labels that end it
    row_before : (t : ℕ) → t < A.states → row R A w t ≡ sum_over R (λ u. cond (u.to == t) (R.times (at_rest R.zero (λ v. row R A v u.from) (cut_end u.label w)) u.weight) R.zero) A.transitions
    row_before t l = some_size w _ some (λ k z.
        sym (row-is L tapes A G proper (suc k) w t e l (omega (arith, z)))
        ∙ row_within-suc L A tapes G.label k w t e l
        ∙ ap (λ b. R.plus (cond b (initial_weight R A t) R.zero) (sum_over R (last_step R A k w t) A.transitions)) (not_empty w some)
        ∙ zero_plus L _
        ∙ sum_same L _ _ A.transitions (λ u i. ap (λ y. cond (eqb u.to t) (R.times y u.weight) R.zero)
        (at_rest_same R.zero _ _ (cut_end u.label w) (λ v c.
        let s = shorter u i w v c in
        row-is L tapes A G proper k v u.from ((join-cut_end u.label w v c).1 ∙ e) (G.from u i) (omega (arith, s, z))))))

    -- what the transition multiplies where its label ends the word
    abbrev pub brings : Transition V → Option V
    brings u = at_rest None (λ v. Some (row R A v u.from)) (cut_end u.label w)

    pub factors-are : (t : ℕ) → factors_to R brings 0 t (by_source A) ≡ row_factors R A w t
    factors-are t = flat_map_same _ _ (by_source A) (λ u i. ap (λ ps. cond (u.to == t) ps []) (go u (cut_end u.label w)))
      where
        go : (u : Transition V) (o : Option Word) → factor u (at_rest None (λ v. Some (row R A v u.from)) o) ≡ at_rest [] (λ v. (row R A v u.from, u.weight) ∷ []) o
        go u None = refl
        go u (Some v) = refl

    -- the sums are the row of the word
    pub sums-are : (t : ℕ) → t < A.states → sum_onto R R.zero (products R (row_factors R A w t)) ≡ row R A w t
    sums-are t l =
        sum_onto-is L R.zero (products R (row_factors R A w t))
        ∙ zero_plus L (sum_over R (λ y. y) (products R (row_factors R A w t)))
        ∙ sum-map L (λ y. y) (λ (p : V × V). R.times p.0 p.1) (row_factors R A w t)
        ∙ sum-flat_map L (λ (p : V × V). R.times p.0 p.1) (λ u. cond (u.to == t) (last_factors R A w u) []) (by_source A)
        ∙ sum_same L _ (λ u. cond (u.to == t) (R.times (at_rest R.zero (λ v. row R A v u.from) (cut_end u.label w)) u.weight) R.zero) (by_source A) (λ u i. one (u.to == t) u (cut_end u.label w))
        ∙ sum-by_source (λ u. cond (u.to == t) (R.times (at_rest R.zero (λ v. row R A v u.from) (cut_end u.label w)) u.weight) R.zero)
        ∙ sym (row_before t l)
      where
        one : (a : Bool) (u : Transition V) (o : Option Word) → sum_over R (λ (p : V × V). R.times p.0 p.1) (cond a (at_rest [] (λ v. (row R A v u.from, u.weight) ∷ []) o) [])
            ≡ cond a (R.times (at_rest R.zero (λ v. row R A v u.from) o) u.weight) R.zero
        one true u (Some v) = L.plus_zero (R.times (row R A v u.from) u.weight)
        one true u None = sym (zero_times L u.weight)
        one false u o = refl

    below-states : (t : ℕ) → In t (below A.states) → t < A.states
    below-states t i = omega (arith, (In-up_from t 0 A.states i).1)

    module _ (at : ℕ) (rows : List V) (room : at + A.states ≤ length rows) (zeros : (t : ℕ) → t < A.states → entry R rows (at + t) ≡ R.zero) where
      abbrev h : List V → Transition V → Option V
      h = fixed R brings at

      inside : (t : ℕ) → t < A.states → at + t < length rows
      inside t l = omega arith

      -- where all steps of a row step fit, those of the row of the word do
      pub row-fits : AllFit R (move_steps R (fixed R brings at) at (by_source A) rows) → AllFit R (row_steps R A w)
      row-fits k = AllFit-flat_map (fits R) (λ t. products_steps R R.zero (row_factors R A w t)) (below A.states) (λ t i.
          let l = below-states t i in
          subst (λ ps. AllFit R (products_steps R R.zero ps)) (factors-are t)
          (subst (λ a. AllFit R (products_steps R a (factors_to R brings at t (by_source A)))) (zeros t l) (moved-fits R brings at (by_source A) rows t (inside t l) k)))

      -- a step of a row step is one of the row of the word
      pub row-In : (e : Overflow V) → In e (move_steps R (fixed R brings at) at (by_source A) rows) → In e (row_steps R A w)
      row-In e i =
          let r = moved-In R brings at (by_source A) rows e (λ s j. inside s.to (G.to s (by_source-In A s j).0)) i in
          let t = r.0 in
          let l : t < A.states = subst (λ n. n < A.states) r.5 (G.to r.3 (by_source-In A r.3 r.4).0) in
          In-flat_map (λ t. products_steps R R.zero (row_factors R A w t)) e t (below A.states) (up_from-In t 0 A.states (omega arith) (omega arith))
          (subst (λ ps. In e (products_steps R R.zero ps)) (factors-are t) (subst (λ a. In e (products_steps R a (factors_to R brings at t (by_source A)))) (zeros t l) r.2))

      -- the entries after a row step are the row of the word
      pub row-entry : (t : ℕ) → t < A.states → entry R (moved R (fixed R brings at) at (by_source A) rows) (at + t) ≡ row R A w t
      row-entry t l =
          moved-entry R brings at (by_source A) rows t (inside t l)
          ∙ ap₂ (λ a ps. sum_onto R a (products R ps)) (zeros t l) (factors-are t)
          ∙ sums-are t l
