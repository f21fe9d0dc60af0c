-- What rows bring makes the automaton without empty labels.
use Rattle.std.proofs.Common.{◌≡◌, ℕ, ◌<◌, ◌+◌, List, [], ◌∷◌, ◌++◌, Bool, true, false, not, ◌&&◌, cond, eqb, length, map, get_or, refl, sym, ap, ◌∙◌, subst, arith, append-nil}
use Rattle.std.specs.Global.{Vec}
use Rattle.std.specs.List.{filter, flat_map}
use Rattle.std.proofs.lemmas.Grind.{flat_map-append}
use Rattle.std.proofs.lemmas.List.{map-append}
use Rattle.std.proofs.lemmas.List.Elements.{All-append, All-nil, filter-append}
use Rattle.vc_aut.specs.Drafts.{without_zeros}
use Rattle.vc_aut.specs.Labelled.{Labelled}
use Rattle.vc_aut.specs.Stored.{automaton_of}
use Rattle.vc_aut.specs.Sums.{insert_all}
use Rattle.vc_aut.specs.Validity.{IsMove}
use Rattle.vc_label.specs.declared.tape_set.TapeSet.{TapeSet}
use Rattle.vc_model.specs.Automata.{Automaton, Transition, final_weight, triple}
use Rattle.vc_model.specs.Choices.{cond-times}
use Rattle.vc_model.specs.Gathered.{IsGathered, same_triple, weight_at}
use Rattle.vc_model.specs.Lists.{In, below}
use Rattle.vc_model.specs.Members.{up_from-more}
use Rattle.vc_model.specs.SumLaws.{sum-append, sum-filter, sum-flat_map, sum-map, sum-times, sum-times_right, sum_same, sum_swap}
use Rattle.vc_model.specs.Sums.{sum_over}
use Rattle.vc_model.specs.WeightSet.{WeightSet, SemiringLaws}
use Rattle.vc_model.specs.Words.{Word, is_empty}
use Rattle.vc_closure.specs.Brought.{IsMore, entry_brought, moves_brought, row_brought, row_final, rows_brought}
use Rattle.vc_closure.specs.Closing.{IsClosing, all_brought, brought}
use Rattle.vc_closure.specs.Rows.{AreRows, AreRowsOf, entries_at, matrix_of, row_at}
use Rattle.vc_closure.specs.Searches.{moves_from}
use Rattle.vc_closure.specs.declared.rows.Entry.{Entry}
use Rattle.vc_closure.proofs.Closings.{less, pick}
use Rattle.vc_closure.proofs.EntrySteps.{turned}

pub moves_brought-append : {V : Type 0} (R : WeightSet V) (i : ℕ) (w : V) (ts us : List (Transition V)) → moves_brought R i w (ts ++ us) ≡ moves_brought R i w ts ++ moves_brought R i w us
moves_brought-append {V} R i w ts us =
    let part : Transition V → Transition V = λ t. record { from = i; label = t.label; to = t.to; weight = R.times w t.weight } in
    let full : Transition V → Bool = λ t. not (is_empty t.label) in
    ap (map part) (filter-append full ts us) ∙ map-append part (filter full ts) (filter full us)

module _ {V : Type 0} (R : WeightSet V) (sets : List TapeSet) (n : ℕ) where
  pub more_none : (xs : List (Transition V)) → IsMore R sets n xs xs []
  more_none xs = record { is = sym (append-nil xs); moves = All-nil (IsMove R sets n) }

  -- some more and then others
  pub more_then : (xs ys zs ts us vs : List (Transition V)) → IsMore R sets n xs ys ts → IsMore R sets n ys zs us → vs ≡ ts ++ us → IsMore R sets n xs zs vs
  more_then xs ys zs ts us vs a b e =
      subst (IsMore R sets n xs zs) (sym e)
      (record { is = b.is ∙ ap (λ x. x ++ us) a.is ∙ append_three xs ts us; moves = All-append (IsMove R sets n) ts us a.moves b.moves })
    where
      append_three : (us bs cs : List (Transition V)) → (us ++ bs) ++ cs ≡ us ++ (bs ++ cs)
      append_three [] bs cs = refl
      append_three (x ∷ us) bs cs = ap (λ zs. x ∷ zs) (append_three us bs cs)

  pub more_same : (xs ys ts us : List (Transition V)) → IsMore R sets n xs ys ts → us ≡ ts → IsMore R sets n xs ys us
  more_same xs ys ts us a e = subst (IsMore R sets n xs ys) (sym e) a

module _ {V : Type 0} {R : WeightSet V} (L : SemiringLaws R) where
  -- a row more
  pub rows_more : {S : Type 0} (A : Automaton V) (rows : List (Vec (Entry S V))) (n : ℕ) → rows_brought R A rows (n + 1) ≡ rows_brought R A rows n ++ row_brought R A n (entries_at rows n)
  rows_more {S} A rows n =
      let f : ℕ → List (Transition V) = λ i. row_brought R A i (entries_at rows i) in
      ap (flat_map f) (up_from-more 0 n) ∙ flat_map-append f (below n) ((0 + n) ∷ []) ∙ ap (λ xs. flat_map f (below n) ++ xs) (append-nil (f (0 + n)) ∙ ap f (omega arith))

  -- an entry more
  pub row_more : {S : Type 0} (A : Automaton V) (i : ℕ) (row : List (Entry S V)) (e : Entry S V) → row_brought R A i (row ++ e ∷ []) ≡ row_brought R A i row ++ entry_brought R A i e
  row_more A i row e = flat_map-append (entry_brought R A i) row (e ∷ []) ∙ ap (λ xs. row_brought R A i row ++ xs) (append-nil (entry_brought R A i e))

  pub entry_more : {S : Type 0} (A : Automaton V) (row : List (Entry S V)) (e : Entry S V) → row_final R A (row ++ e ∷ []) ≡ R.plus (row_final R A row) (R.times e.weight (final_weight R A e.state))
  entry_more {S} A row e = sum-append L (λ (x : Entry S V). R.times x.weight (final_weight R A x.state)) row (e ∷ []) ∙ ap (R.plus (row_final R A row)) (L.plus_zero (R.times e.weight (final_weight R A e.state)))

  -- the entries times what stands at their states are the columns times it
  pub entries_are : {S : Type 0} (n : ℕ) (row : List (Entry S V)) (g : ℕ → V) → ((e : Entry S V) → In e row → e.state < n) → sum_over R (λ e. R.times e.weight (g e.state)) row ≡ sum_over R (λ j. R.times (row_at R row j) (g j)) (below n)
  entries_are {S} n row g l =
      sum_same L _ (λ e. sum_over R (λ j. R.times (cond (eqb e.state j) e.weight R.zero) (g j)) (below n)) row (λ e i. sym (each e (l e i)))
      ∙ sum_swap L (λ (e : Entry S V) j. R.times (cond (eqb e.state j) e.weight R.zero) (g j)) row (below n)
      ∙ sum_same L _ _ (below n) (λ j m. sum-times_right L (g j) (λ (e : Entry S V). cond (eqb e.state j) e.weight R.zero) row)
    where
      each : (e : Entry S V) → e.state < n → sum_over R (λ j. R.times (cond (eqb e.state j) e.weight R.zero) (g j)) (below n) ≡ R.times e.weight (g e.state)
      each e k =
          sum_same L _ (λ j. cond (eqb j e.state) (R.times e.weight (g j)) R.zero) (below n) (λ j m. cond-times L (eqb e.state j) e.weight (g j) ∙ ap (λ b. cond b (R.times e.weight (g j)) R.zero) (turned e.state j))
          ∙ pick L n e.state (λ j. R.times e.weight (g j)) k

  module _ (A : Automaton V) (d : ℕ × Word × ℕ) where
    abbrev pub here : Transition V → V
    here t = cond (same_triple (triple t) d) t.weight R.zero

    -- what the transitions from a state have at the triple, as transitions from i
    abbrev pub share : ℕ → ℕ → V
    share i s = sum_over R (λ t. cond (eqb t.from s && not (is_empty t.label)) (cond (same_triple (i, t.label, t.to) d) t.weight R.zero) R.zero) A.transitions

    scaled : (w x : V) (a b c : Bool) → cond (a && b) (cond c (R.times w x) R.zero) R.zero ≡ R.times w (cond (a && b) (cond c x R.zero) R.zero)
    scaled w x true true true = refl
    scaled w x true true false = sym (L.times_zero w)
    scaled w x true false c = sym (L.times_zero w)
    scaled w x false b c = sym (L.times_zero w)

    nested : (x : V) (a b : Bool) → cond a (cond b x R.zero) R.zero ≡ cond (a && b) x R.zero
    nested x true b = refl
    nested x false b = refl

    pub moves_weight : (i s : ℕ) (w : V) → weight_at R (moves_brought R i w (moves_from A s)) d ≡ R.times w (share i s)
    moves_weight i s w =
        let part : Transition V → Transition V = λ t. record { from = i; label = t.label; to = t.to; weight = R.times w t.weight } in
        let full : Transition V → Bool = λ t. not (is_empty t.label) in
        sum-map L here part (filter full (moves_from A s)) ∙ sum-filter L (λ t. here (part t)) full (moves_from A s)
        ∙ sum-filter L (λ t. cond (full t) (here (part t)) R.zero) (λ (t : Transition V). eqb t.from s) A.transitions
        ∙ sum_same L _ _ A.transitions (λ t m. nested (here (part t)) (eqb t.from s) (full t) ∙ scaled w t.weight (eqb t.from s) (full t) (same_triple (i, t.label, t.to) d))
        ∙ sum-times L w (λ (t : Transition V). cond (eqb t.from s && not (is_empty t.label)) (cond (same_triple (i, t.label, t.to) d) t.weight R.zero) R.zero) A.transitions

    pub brought_weight : (K : ℕ → ℕ → V) (i j : ℕ) → weight_at R (brought R A K i j) d ≡ R.times (K i j) (share i j)
    brought_weight K i j =
        let part : Transition V → Transition V = λ t. record { from = i; label = t.label; to = t.to; weight = R.times (K i j) t.weight } in
        let of : Transition V → Bool = λ t. eqb t.from j && not (is_empty t.label) in
        sum-map L here part (filter of A.transitions) ∙ sum-filter L (λ t. here (part t)) of A.transitions
        ∙ sum_same L _ _ A.transitions (λ t m. scaled (K i j) t.weight (eqb t.from j) (not (is_empty t.label)) (same_triple (i, t.label, t.to) d))
        ∙ sum-times L (K i j) (λ (t : Transition V). cond (eqb t.from j && not (is_empty t.label)) (cond (same_triple (i, t.label, t.to) d) t.weight R.zero) R.zero) A.transitions

    -- the rows bring at each triple what the matrix of their entries brings
    pub rows_weight : {S : Type 0} (rows : List (Vec (Entry S V))) → AreRows R A.states rows → weight_at R (rows_brought R A rows A.states) d ≡ weight_at R (all_brought R A (λ i j. row_at R (entries_at rows i) j)) d
    rows_weight {S} rows h =
        let K : ℕ → ℕ → V = λ i j. row_at R (entries_at rows i) j in
        sum-flat_map L here (λ i. row_brought R A i (entries_at rows i)) (below A.states)
        ∙ sum_same L _ _ (below A.states) (λ i m.
        sum-flat_map L here (entry_brought R A i) (entries_at rows i)
        ∙ sum_same L _ (λ (e : Entry S V). R.times e.weight (share i e.state)) (entries_at rows i) (λ e k. moves_weight i e.state e.weight)
        ∙ entries_are A.states (entries_at rows i) (share i) (h.each i).inside
        ∙ sum_same L _ _ (below A.states) (λ j k. sym (brought_weight K i j))
        ∙ sym (sum-flat_map L here (brought R A K i) (below A.states)))
        ∙ sym (sum-flat_map L here (λ i. flat_map (brought R A K i) (below A.states)) (below A.states))

    -- equal matrices bring the same
    pub brought_same : (K H : ℕ → ℕ → V) → ((i j : ℕ) → i < A.states → j < A.states → K i j ≡ H i j) → weight_at R (all_brought R A K) d ≡ weight_at R (all_brought R A H) d
    brought_same K H h =
        sum-flat_map L here (λ i. flat_map (brought R A K i) (below A.states)) (below A.states)
        ∙ sum_same L _ _ (below A.states) (λ i m.
        sum-flat_map L here (brought R A K i) (below A.states)
        ∙ sum_same L _ _ (below A.states) (λ j k. brought_weight K i j ∙ ap (λ x. R.times x (share i j)) (h i j (less i A.states m) (less j A.states k)) ∙ sym (brought_weight H i j))
        ∙ sym (sum-flat_map L here (brought R A H i) (below A.states)))
        ∙ sym (sum-flat_map L here (λ i. flat_map (brought R A H i) (below A.states)) (below A.states))

  -- what the rows of K bring makes the automaton without empty labels
  pub closing : {S : Type 0} (same : V → V → Bool) (sets : List TapeSet) (A : Automaton V) (p : Labelled V) (K : ℕ → ℕ → V) (rows : List (Vec (Entry S V))) (initial finals : List V) (raw : List (Transition V))
      → AreRows R A.states rows → AreRowsOf R A K rows → length A.initial ≡ A.states → initial ≡ A.initial
      → ((i : ℕ) → i < A.states → get_or finals i R.zero ≡ row_final R A (entries_at rows i))
      → raw ≡ rows_brought R A rows A.states
      → ((added : List (Transition V)) → IsGathered R added (without_zeros R same (insert_all R [] added)))
      → p ≡ record { sets = sets; automaton = automaton_of initial finals (without_zeros R same (insert_all R [] raw)) } → IsClosing R A p.automaton K
  closing {S} same sets A p K rows initial finals raw h are len b f r law e =
      let n = A.states in
      let all : IsGathered R (rows_brought R A rows n) p.automaton.transitions =
      subst (λ xs. IsGathered R (rows_brought R A rows n) xs) (sym (ap (λ (x : Labelled V). x.automaton.transitions) e ∙ ap (λ xs. without_zeros R same (insert_all R [] xs)) r)) (law (rows_brought R A rows n)) in
      record {
        states = ap (λ (x : Labelled V). x.automaton.states) e ∙ ap (λ xs. length xs) b ∙ len;
        initial = ap (λ (x : Labelled V). x.automaton.initial) e ∙ b;
        final = λ i l. ap (λ (x : Labelled V). final_weight R x.automaton i) e ∙ f i l ∙ entries_are n (entries_at rows i) (final_weight R A) (h.each i).inside
            ∙ sum_same L _ _ (below n) (λ j m. ap (λ x. R.times x (final_weight R A j)) (are i j l (less j n m)));
        transitions = record { triples = all.triples; weight = all.weight; sums = λ t. all.sums t ∙ rows_weight A t rows h ∙ brought_same A t (matrix_of R rows) K are };
      }

-- a transition whose label is not empty is brought
pub one_brought : {V : Type 0} (R : WeightSet V) (i : ℕ) (w : V) (t : Transition V) → is_empty t.label ≡ false → moves_brought R i w (t ∷ []) ≡ record { from = i; label = t.label; to = t.to; weight = R.times w t.weight } ∷ []
one_brought {V} R i w t e =
    let part : Transition V → Transition V = λ t. record { from = i; label = t.label; to = t.to; weight = R.times w t.weight } in
    ap (λ b. map part (cond (not b) (t ∷ []) [])) e
