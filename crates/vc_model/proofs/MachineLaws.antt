-- The automaton of things whose series are given by their items has these series as futures.
use Rattle.std.proofs.Common.{◌≡◌, ℕ, List, [], ◌∷◌, ◌++◌, map, cond, Bool, true, false, eqb, refl, sym, ap, ◌∙◌, ap₂, inl, inr, subst, length, ◌<◌, arith, suc, zero, get_or}
use Rattle.std.specs.List.{flat_map}
use Rattle.std.proofs.lemmas.Bool.{false≢true, eqb-true, eq-eqb}
use Rattle.std.proofs.lemmas.List.{length-map, map-append}
use Rattle.vc_model.specs.WeightSet.{WeightSet, SemiringLaws}
use Rattle.vc_model.specs.Lists.{In, NoRepeat, IsEqualityTest, below, up_from}
use Rattle.vc_model.specs.Sums.{sum_over}
use Rattle.vc_model.specs.Words.{Word, is_empty, cut, IsLabel}
use Rattle.vc_model.specs.Series.{Series}
use Rattle.vc_model.specs.Automata.{Transition, Automaton, IsAutomaton, IsProper, initial_weight, final_weight, future, coefficient, at_rest, IsSolution, triple}
use Rattle.vc_model.specs.Items.{Item, item_key, taken, IsGiven, HaveLabels, AreNeat}
use Rattle.vc_model.specs.Gathered.{IsGathered}
use Rattle.vc_model.specs.Machines.{place_in, steps_of, initials, machine, StandsFor, LeadsInto}
use Rattle.vc_model.specs.Rearranged.{zero_times, one_times}
use Rattle.vc_model.specs.SumLaws.{sum_same, sum_zero, sum-map, sum-flat_map}
use Rattle.vc_model.specs.Members.{In-map, In-map_from, In-flat_map, In-flat_map_from, In-up_from, up_from-In, NoRepeat-up_from, NoRepeat-map, NoRepeat-flat_map}
use Rattle.vc_model.specs.Choices.{cond-sum}
use Rattle.vc_model.specs.Keys.{sum_at}
use Rattle.vc_model.specs.Gathering.{gathered_steps, gathered_from}
use Rattle.vc_model.specs.CircuitLaws.{proper-NoEmptyCircuit}
use Rattle.vc_model.specs.OneSolution.{solution_is_future}

map-map : {X Y Z : Type 0} (f : Y → Z) (g : X → Y) (xs : List X) → map f (map g xs) ≡ map (λ x. f (g x)) xs
map-map f g [] = refl
map-map f g (x ∷ xs) = ap (λ z. f (g x) ∷ z) (map-map f g xs)

map-flat_map : {X Y Z : Type 0} (f : Y → Z) (g : X → List Y) (xs : List X) → map f (flat_map g xs) ≡ flat_map (λ x. map f (g x)) xs
map-flat_map f g [] = refl
map-flat_map f g (x ∷ xs) = map-append f (g x) (flat_map g xs) ∙ ap (λ z. map f (g x) ++ z) (map-flat_map f g xs)

module _ {T : Type 0} (same : T → T → Bool) (Q : IsEqualityTest same) where
  -- places
  pub place_below : (t : T) (ts : List T) → In t ts → place_in same t ts < length ts
  place_below t [] i = absurd i
  place_below t (u ∷ ts) i = go (same u t) refl i (place_below t ts)
    where
      go : (b : Bool) → same u t ≡ b → In t (u ∷ ts) → (In t ts → place_in same t ts < length ts) → cond b 0 (suc (place_in same t ts)) < length (u ∷ ts)
      go true p i r = omega arith
      go false p (inl q) r = absurd (false≢true (sym p ∙ ap (same u) q ∙ (Q u u).1 refl))
      go false p (inr j) r = let h : place_in same t ts < length ts = r j in omega arith

  -- the thing at a place of a list without repeats has this place
  pub place_at : (d : T) (ts : List T) (i : ℕ) → NoRepeat ts → i < length ts → place_in same (get_or ts i d) ts ≡ i
  place_at d [] i n l = absurd (omega arith)
  place_at d (t ∷ ts) zero n l = ap (λ b. cond b 0 (suc (place_in same t ts))) ((Q t t).1 refl)
  place_at d (t ∷ ts) (suc i) n l = go (same t (get_or ts i d)) refl (place_at d ts i n.1 (omega arith))
    where
      inside : (us : List T) (j : ℕ) → j < length us → In (get_or us j d) us
      inside [] j m = absurd (omega arith)
      inside (u ∷ us) zero m = inl refl
      inside (u ∷ us) (suc j) m = inr (inside us j (omega arith))

      go : (b : Bool) → same t (get_or ts i d) ≡ b → place_in same (get_or ts i d) ts ≡ i → cond b 0 (suc (place_in same (get_or ts i d) ts)) ≡ suc i
      go true e h = absurd (n.0 (subst (λ z. In z ts) (sym ((Q t (get_or ts i d)).0 e)) (inside ts i (omega arith))))
      go false e h = ap suc h

  pub at_place : (s t : T) (ts : List T) → In t ts → get_or ts (place_in same t ts) s ≡ t
  at_place s t [] i = absurd i
  at_place s t (u ∷ ts) i = go (same u t) refl i (at_place s t ts)
    where
      go : (b : Bool) → same u t ≡ b → In t (u ∷ ts) → (In t ts → get_or ts (place_in same t ts) s ≡ t) → get_or (u ∷ ts) (cond b 0 (suc (place_in same t ts))) s ≡ t
      go true p i r = (Q u t).0 p
      go false p (inl q) r = absurd (false≢true (sym p ∙ ap (same u) q ∙ (Q u u).1 refl))
      go false p (inr j) r = r j

  pub at-In : (s : T) (ts : List T) (i : ℕ) → i < length ts → In (get_or ts i s) ts
  at-In s [] i l = absurd (omega arith)
  at-In s (t ∷ ts) zero l = inl refl
  at-In s (t ∷ ts) (suc i) l = inr (at-In s ts i (omega arith))

module _ {V : Type 0} {R : WeightSet V} (L : SemiringLaws R) where
  -- where the first state alone is initial, with weight one, its future is the coefficient
  pub first_alone : (B : Automaton V) → 0 < B.states → initial_weight R B 0 ≡ R.one → ((p : ℕ) → 0 < p → p < B.states → initial_weight R B p ≡ R.zero) → (w : Word) → coefficient R B w ≡ future R B 0 w
  first_alone B l one others w = go B.states refl l
    where
      later : (m : ℕ) → suc m ≡ B.states → (p : ℕ) → In p (up_from 1 m) → R.times (initial_weight R B p) (future R B p w) ≡ R.zero
      later m e p i = ap (λ x. R.times x (future R B p w)) (let r = In-up_from p 1 m i in others p (omega (arith, r.0)) (omega (arith, r.1, e))) ∙ zero_times L _

      go : (n : ℕ) → n ≡ B.states → 0 < n → sum_over R (λ p. R.times (initial_weight R B p) (future R B p w)) (below n) ≡ future R B 0 w
      go zero e h = absurd (omega arith)
      go (suc m) e h =
          ap₂ R.plus (ap (λ x. R.times x (future R B 0 w)) one ∙ one_times L _) (sum_zero L _ (up_from 1 m) (later m e))
          ∙ L.plus_zero (future R B 0 w)

module _ {V T : Type 0} {R : WeightSet V} (L : SemiringLaws R) where
  -- the series that the items give are the futures of every automaton that stands for the things
  pub stands_future : (tapes : ℕ) (B : Automaton V) → IsAutomaton R tapes B → IsProper B → (state : ℕ → T) (final : T → V) (items : T → List (Item V T)) → StandsFor R B state final items
      → (X : T → Series V) → ((i : ℕ) → i < B.states → IsGiven R tapes (X (state i)) (final (state i)) X (items (state i)))
      → (i : ℕ) (w : Word) → i < B.states → length w ≡ tapes → future R B i w ≡ X (state i) w
  stands_future tapes B b f state final items F X h i w l e = sym (solution_is_future L tapes B b (proper-NoEmptyCircuit tapes B b.label f) (λ j. X (state j)) solves i w l e)
    where
      solves : IsSolution R tapes B (λ j. X (state j))
      solves p w l e =
          h p l w e
          ∙ ap₂ R.plus (ap (λ x. cond (is_empty w) x R.zero) (sym (F.ends p l)))
          (sym (F.steps p (λ a u. at_rest R.zero (X u) (cut a w)) l))

  -- the first state alone is initial, with weight one
  later_initials : (d : T) (us : List T) (m k : ℕ) → get_or (map (λ (u : T). R.zero) us) k R.zero ≡ R.zero
  later_initials d [] m k = refl
  later_initials d (u ∷ us) m zero = refl
  later_initials d (u ∷ us) m (suc k) = later_initials d us m k

  pub machine_coefficient : (same : T → T → Bool) (final : T → V) (items : T → List (Item V T)) (d : T) (u : T) (us : List T) (w : Word) → coefficient R (machine R same final items d (u ∷ us)) w ≡ future R (machine R same final items d (u ∷ us)) 0 w
  machine_coefficient same final items d u us w =
      first_alone L (machine R same final items d (u ∷ us)) (omega arith) refl
      (λ p h l. next p h) w
    where
      next : (p : ℕ) → 0 < p → get_or (initials R (u ∷ us)) p R.zero ≡ R.zero
      next zero h = absurd (omega arith)
      next (suc p) h = later_initials d us 0 p

module _ {V T : Type 0} {R : WeightSet V} (L : SemiringLaws R) (same : T → T → Bool) (Q : IsEqualityTest same) where
  final_at : (final : T → V) (s : T) (ts : List T) (i : ℕ) → i < length ts → get_or (map final ts) i R.zero ≡ final (get_or ts i s)
  final_at final s [] i l = absurd (omega arith)
  final_at final s (t ∷ ts) zero l = refl
  final_at final s (t ∷ ts) (suc i) l = final_at final s ts i (omega arith)

  initials_length : (us : List T) → length (initials R us) ≡ length us
  initials_length [] = refl
  initials_length (u ∷ us) = ap suc (length-map us (λ v. R.zero))

  -- an item is a transition
  pub item_moves : (final : T → V) (items : T → List (Item V T)) (d : T) (ts : List T) (t : T) → In t ts → (e : Item V T) → In e (items t) → In (record { from = place_in same t ts; label = e.label; to = place_in same e.to ts; weight = e.weight }) (machine R same final items d ts).transitions
  item_moves final items d ts t i e j =
      In-flat_map (λ i. steps_of same items d ts i) _ (place_in same t ts) (below (length ts)) (up_from-In (place_in same t ts) 0 (length ts) (omega arith) (let l = place_below same Q t ts i in omega arith))
      (In-map (λ (e : Item V T). record { from = place_in same t ts; label = e.label; to = place_in same e.to ts; weight = e.weight }) e (items (get_or ts (place_in same t ts) d)) (subst (λ z. In e (items z)) (sym (at_place same Q d t ts i)) j))

  module _ (final : T → V) (items : T → List (Item V T)) (d : T) (ts : List T) (C : LeadsInto items ts) where
    abbrev steps : List (Transition V)
    steps = (machine R same final items d ts).transitions

    -- state i
    abbrev pub state : ℕ → T
    state i = get_or ts i d

    state-In : (i : ℕ) → i < length ts → In (state i) ts
    state-In i l = at-In same Q d ts i l

    item_to : (i : ℕ) → i < length ts → (e : Item V T) → In e (items (state i)) → In e.to ts
    item_to i l e j = C (state i) (state-In i l) e j

    -- what the transitions bring
    pub machine_steps : (i : ℕ) (h : Word → T → V) → i < length ts → sum_over R (λ t. cond (eqb t.from i) (R.times t.weight (h t.label (state t.to))) R.zero) steps ≡ taken R h (items (state i))
    machine_steps i h l =
        sum-flat_map L _ (λ i. steps_of same items d ts i) (below (length ts))
        ∙ sum_same L _ (λ j. cond (eqb i j) (taken R h (items (state i))) R.zero) (below (length ts)) (λ j m.
        let b = In-up_from j 0 (length ts) m in
        sum-map L _ _ (items (state j))
        ∙ sum_same L _ (λ e. cond (eqb j i) (R.times e.weight (h e.label e.to)) R.zero) (items (state j)) (λ e n.
        ap (λ u. cond (eqb j i) (R.times e.weight (h e.label u)) R.zero) (at_place same Q d e.to ts (item_to j (omega (arith, b.1)) e n)))
        ∙ cond-sum L (eqb j i) (λ e. R.times e.weight (h e.label e.to)) (items (state j))
        ∙ turn j)
        ∙ sum_at L eqb eqb-true (λ a. eq-eqb a a refl) (taken R h (items (state i))) i (below (length ts)) (NoRepeat-up_from 0 (length ts)) (up_from-In i 0 (length ts) (omega arith) (omega arith))
      where
        turn : (j : ℕ) → cond (eqb j i) (taken R h (items (state j))) R.zero ≡ cond (eqb i j) (taken R h (items (state i))) R.zero
        turn j = go (eqb j i) (eqb i j) refl refl
          where
            go : (a b : Bool) → eqb j i ≡ a → eqb i j ≡ b → cond a (taken R h (items (state j))) R.zero ≡ cond b (taken R h (items (state i))) R.zero
            go true true p q = ap (λ n. taken R h (items (state n))) (eqb-true j i p)
            go true false p q = absurd (false≢true (sym q ∙ eq-eqb i j (sym (eqb-true j i p))))
            go false true p q = absurd (false≢true (sym p ∙ eq-eqb j i (sym (eqb-true i j q))))
            go false false p q = refl

    pub machine_stands : StandsFor R (machine R same final items d ts) state final items
    machine_stands = record { ends = λ i l. final_at final d ts i l; steps = machine_steps }

    -- an automaton whose transitions gather those of the things
    pub gathered_stands : (B : Automaton V) → B.states ≡ length ts → ((i : ℕ) → i < length ts → final_weight R B i ≡ final (state i)) → IsGathered R steps B.transitions → StandsFor R B state final items
    gathered_stands B b f G = record {
      ends = λ i l. f i (subst (λ n. i < n) b l);
      steps = λ i h l. gathered_steps L steps B.transitions G.sums i (λ a j. h a (state j)) ∙ machine_steps i h (subst (λ n. i < n) b l);
    }

    pub record OfItem (t : Transition V) : Type 0 where
      pub from : ℕ
      pub below_all : from < length ts
      pub item : Item V T
      pub is_in : In item (items (state from))
      pub is : t ≡ record { from = from; label = item.label; to = place_in same item.to ts; weight = item.weight }

    pub of_item : (t : Transition V) → In t steps → OfItem t
    of_item t j =
        let r = In-flat_map_from (λ i. steps_of same items d ts i) t (below (length ts)) j in
        let b = In-up_from r.0 0 (length ts) r.1 in
        let m = In-map_from (λ (e : Item V T). record { from = r.0; label = e.label; to = place_in same e.to ts; weight = e.weight }) t (items (state r.0)) r.2 in
        record { from = r.0; below_all = omega (arith, b.1); item = m.0; is_in = m.1; is = m.2 }

    pub step_from : (t : Transition V) → In t steps → t.from < length ts
    step_from t j = let r = of_item t j in subst (λ z. z < length ts) (sym (ap (λ z. z.from) r.is)) r.below_all

    pub step_to : (t : Transition V) → In t steps → t.to < length ts
    step_to t j = let r = of_item t j in subst (λ z. z < length ts) (sym (ap (λ z. z.to) r.is)) (place_below same Q r.item.to ts (item_to r.from r.below_all r.item r.is_in))

    pub step_label : (tapes : ℕ) → ((t : T) → In t ts → HaveLabels tapes (items t)) → (t : Transition V) → In t steps → IsLabel tapes t.label
    step_label tapes H t j = let r = of_item t j in subst (IsLabel tapes) (sym (ap (λ z. z.label) r.is)) (H (state r.from) (state-In r.from r.below_all) r.item r.is_in)

    -- it is an automaton without empty labels
    pub gathered_automaton : (tapes : ℕ) → ((t : T) → In t ts → HaveLabels tapes (items t)) → (B : Automaton V) → B.states ≡ length ts → length B.initial ≡ B.states → length B.final ≡ B.states → IsGathered R steps B.transitions → IsAutomaton R tapes B × IsProper B
    gathered_automaton tapes H B b i f G = (
      record {
        initial = i;
        final = f;
        from = λ t j. let r = gathered_from L steps B.transitions G t j in subst (λ n. t.from < n) (sym b) (subst (λ (z : ℕ × Word × ℕ). z.0 < length ts) r.2 (step_from r.0 r.1));
        to = λ t j. let r = gathered_from L steps B.transitions G t j in subst (λ n. t.to < n) (sym b) (subst (λ (z : ℕ × Word × ℕ). z.2 < length ts) r.2 (step_to r.0 r.1));
        label = λ t j. (label t j).0;
        triples = G.triples;
        weight = G.weight;
      },
      λ t j. (label t j).1,
    )
      where
        label : (t : Transition V) → In t B.transitions → IsLabel tapes t.label
        label t j = let r = gathered_from L steps B.transitions G t j in subst (λ (z : ℕ × Word × ℕ). IsLabel tapes z.1) r.2 (step_label tapes H r.0 r.1)

  module _ (tapes : ℕ) (final : T → V) (items : T → List (Item V T)) (d : T) (ts : List T)
      (C : LeadsInto items ts)
      (N : (t : T) → In t ts → AreNeat R (items t))
      (H : (t : T) → In t ts → HaveLabels tapes (items t)) where
    abbrev A : Automaton V
    A = machine R same final items d ts

    -- state i
    abbrev here : ℕ → T
    here i = get_or ts i d

    same_place : (t u : T) → In t ts → In u ts → place_in same t ts ≡ place_in same u ts → t ≡ u
    same_place t u i j q = sym (at_place same Q d t ts i) ∙ ap (λ n. get_or ts n d) q ∙ at_place same Q d u ts j

    abbrev move_key : ℕ → Word × T → ℕ × Word × ℕ
    move_key i k = (i, k.0, place_in same k.1 ts)

    triples_once : (i : ℕ) → i < length ts → NoRepeat (map (move_key i) (map item_key (items (here i))))
    triples_once i l = NoRepeat-map (move_key i) (map item_key (items (here i)))
        (λ k k' m m' q.
        let r = In-map_from item_key k (items (here i)) m in
        let r' = In-map_from item_key k' (items (here i)) m' in
        ap₂ (λ a b. (a, b)) (ap (λ z. z.1) q)
        (same_place k.1 k'.1 (subst (λ z. In z ts) (sym (ap (λ z. z.1) r.2)) (item_to final items d ts C i l r.0 r.1)) (subst (λ z. In z ts) (sym (ap (λ z. z.1) r'.2)) (item_to final items d ts C i l r'.0 r'.1)) (ap (λ z. z.2) q)))
        (N (here i) (state-In final items d ts C i l)).once

    steps_triples : (i : ℕ) → map triple (steps_of same items d ts i) ≡ map (move_key i) (map item_key (items (here i)))
    steps_triples i =
        map-map triple (λ (e : Item V T). record { from = i; label = e.label; to = place_in same e.to ts; weight = e.weight }) (items (here i))
        ∙ sym (map-map (move_key i) item_key (items (here i)))

    pub machine_is_automaton : IsAutomaton R tapes A
    machine_is_automaton = record {
      initial = initials_length ts;
      final = length-map ts final;
      from = step_from final items d ts C;
      to = step_to final items d ts C;
      label = λ t j. (step_label final items d ts C tapes H t j).0;
      triples = subst NoRepeat (sym (map-flat_map triple (λ i. steps_of same items d ts i) (below (length ts))))
          (NoRepeat-flat_map (λ i. map triple (steps_of same items d ts i)) (below (length ts)) (NoRepeat-up_from 0 (length ts))
          (λ i m. let b = In-up_from i 0 (length ts) m in subst NoRepeat (sym (steps_triples i)) (triples_once i (omega (arith, b.1))))
          (λ i j y m m' n n'.
          let r = In-map_from triple y (steps_of same items d ts i) n in
          let r' = In-map_from triple y (steps_of same items d ts j) n' in
          sym (from_of i r.0 r.1) ∙ ap (λ z. z.0) (sym r.2 ∙ r'.2) ∙ from_of j r'.0 r'.1));
      weight = λ t j q. let r = of_item final items d ts C t j in (N (here r.from) (state-In final items d ts C r.from r.below_all)).weight r.item r.is_in (sym (ap (λ z. z.weight) r.is) ∙ q);
    }
      where
        from_of : (i : ℕ) (t : Transition V) → In t (steps_of same items d ts i) → t.from ≡ i
        from_of i t m = let s = In-map_from (λ (e : Item V T). record { from = i; label = e.label; to = place_in same e.to ts; weight = e.weight }) t (items (here i)) m in ap (λ z. z.from) s.2

    pub machine_full : IsProper A
    machine_full t j = (step_label final items d ts C tapes H t j).1

    -- series that the items give are the futures
    pub machine_future : (X : T → Series V) → ((t : T) → In t ts → IsGiven R tapes (X t) (final t) X (items t))
        → (i : ℕ) (w : Word) → i < length ts → length w ≡ tapes → future R A i w ≡ X (here i) w
    machine_future X h i w l e = stands_future L tapes A machine_is_automaton machine_full here final items (machine_stands final items d ts C) X (λ j m. h (here j) (state-In final items d ts C j m)) i w l e
