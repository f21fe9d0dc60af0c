-- A step of what empty transitions bring is a step of an entry of the closure.
use Rattle.std.proofs.Common.{◌≡◌, ℕ, ◌<◌, List, [], ◌∷◌, ◌++◌, Bool, true, false, cond, eqb, length, map, refl, sym, ap, ap₂, ◌∙◌, inl, inr, subst, nat_cmp, Less, Equal, arith}
use Rattle.std.specs.Global.{Vec}
use Rattle.std.specs.List.{AllByRecursion}
use Rattle.std.specs.List.Sorted.{IsStrictlySortedBy}
use Rattle.std.specs.Ordering.{ordering_then}
use Rattle.std.proofs.lemmas.Bool.{eqb-true, eq-eqb}
use Rattle.std.proofs.lemmas.Cmp.{ranked}
use Rattle.vc_aut.specs.Order.{move_order}
use Rattle.vc_closure.specs.Closing.{silent_weight, unit_entry}
use Rattle.vc_closure.specs.Formula.{IsEntryStep}
use Rattle.vc_closure.specs.Rows.{IsMovesStep, IsRow, entries_at, moves_part, row_at}
use Rattle.vc_closure.specs.Searches.{moves_from}
use Rattle.vc_closure.specs.declared.rows.Entry.{Entry}
use Rattle.vc_closure.proofs.Ascending.{Ascends, at_key, lesser, there}
use Rattle.vc_closure.proofs.Walks.{moves_member}
use Rattle.vc_label.specs.Order.{word_order}
use Rattle.vc_label.specs.OrderLaws.{equal}
use Rattle.vc_model.specs.Automata.{Automaton, IsAutomaton, Transition}
use Rattle.vc_model.specs.Choices.{off}
use Rattle.vc_model.specs.Lists.{In, IsIncreasing, below}
use Rattle.vc_model.specs.Members.{In-append_left, In-map, In-middle, place_of}
use Rattle.vc_model.specs.SumLaws.{sum-filter, sum_same}
use Rattle.vc_model.specs.Sums.{sum_over}
use Rattle.vc_model.specs.WeightSet.{WeightSet, SemiringLaws}
use Rattle.vc_model.specs.WordLaws.{bool_same, empty_from_size, size-is_empty}
use Rattle.vc_model.specs.Words.{empty_word, is_empty}
use Rattle.vc_ring.specs.declared.faults.Overflow.{Overflow}
use Rattle.vc_ring.specs.declared.faults.Overflow.TheVariants.{Add, Mul}

pub turned : (a b : ℕ) → eqb a b ≡ eqb b a
turned a b = bool_same (eqb a b) (eqb b a) (λ h. eq-eqb b a (sym (eqb-true a b h))) (λ h. eq-eqb a b (sym (eqb-true b a h)))

-- of the transitions from a state, in their order, the empty ones have ascending targets
pub ascending_moves : {V : Type 0} (tapes : ℕ) (ts : List (Transition V)) → ((t : Transition V) → In t ts → length t.label ≡ tapes) → IsStrictlySortedBy move_order ts → Ascends (λ (t : Transition V). is_empty t.label) (λ t. t.to) ts
unfolding IsStrictlySortedBy
ascending_moves tapes [] l s = tt
ascending_moves {V} tapes (t ∷ ts) l s = ((λ u i a b. less u (l u (inr i)) a b (front ts s.0 u i)), ascending_moves tapes ts (λ u i. l u (inr i)) s.1)
  where
    front : (us : List (Transition V)) → AllByRecursion (λ u. move_order t u ≡ Less) us → (u : Transition V) → In u us → move_order t u ≡ Less
    front [] h u i = absurd i
    front (v ∷ us) h u (inl e) = subst (λ (x : Transition V). move_order t x ≡ Less) (sym e) h.0
    front (v ∷ us) h u (inr i) = front us h.1 u i

    less : (u : Transition V) → length u.label ≡ tapes → is_empty t.label ≡ true → is_empty u.label ≡ true → move_order t u ≡ Less → t.to < u.to
    less u m a b h =
        let x : t.label ≡ empty_word tapes = empty_from_size t.label (size-is_empty t.label a) ∙ ap empty_word (l t (inl refl)) in
        let y : u.label ≡ empty_word tapes = empty_from_size u.label (size-is_empty u.label b) ∙ ap empty_word m in
        let e : word_order t.label u.label ≡ Equal = (equal t.label u.label).1 (x ∙ sym y) in
        let k : nat_cmp t.to u.to ≡ Less = sym (ap (λ o. ordering_then o (nat_cmp t.to u.to)) e) ∙ h in
        ranked t.to u.to Less (sym k)

module _ {S V : Type 0} {R : WeightSet V} (L : SemiringLaws R) where
  -- the entry of a row by its keys
  pub row_key : (row : List (Entry S V)) (q : ℕ) → row_at R row q ≡ at_key L (λ (e : Entry S V). true) (λ e. e.state) (λ e. e.weight) row q
  row_key row q = sum_same L _ _ row (λ e i. ap (λ b. cond b e.weight R.zero) (turned e.state q))

  pub ascending_row : (row : List (Entry S V)) → IsIncreasing (map (λ (e : Entry S V). e.state) row) → Ascends (λ (e : Entry S V). true) (λ e. e.state) row
  ascending_row [] h = tt
  ascending_row (x ∷ xs) h = ((λ y i a b. h.0 y.state (In-map (λ (e : Entry S V). e.state) y xs i)), ascending_row xs h.1)

  -- the entry of a row at the state of one of its entries
  pub row_there : (before after : List (Entry S V)) (e : Entry S V) → IsIncreasing (map (λ (x : Entry S V). x.state) (before ++ e ∷ after)) → row_at R (before ++ e ∷ after) e.state ≡ e.weight
  row_there before after e h = row_key (before ++ e ∷ after) e.state ∙ there L (λ (x : Entry S V). true) (λ x. x.state) (λ x. x.weight) before after e refl (ascending_row (before ++ e ∷ after) h)

  -- before an entry nothing stands in its column
  pub row_front : (before after : List (Entry S V)) (e : Entry S V) → IsIncreasing (map (λ (x : Entry S V). x.state) (before ++ e ∷ after)) → row_at R before e.state ≡ R.zero
  row_front [] after e h = refl
  row_front (x ∷ xs) after e h =
      ap₂ R.plus (off R.zero (eqb x.state e.state) x.weight (λ q. let k : x.state ≡ e.state = eqb-true x.state e.state q in let l : x.state < e.state = h.0 e.state (In-map (λ (y : Entry S V). y.state) e (xs ++ e ∷ after) (In-middle e xs after)) in absurd (omega arith))) (row_front xs after e h.1)
      ∙ L.plus_zero R.zero

  -- what stands before an entry is what stands in lesser columns
  pub row_lesser : (before after : List (Entry S V)) (e : Entry S V) (g : ℕ → V) → IsIncreasing (map (λ (x : Entry S V). x.state) (before ++ e ∷ after))
      → sum_over R (λ (x : Entry S V). R.times x.weight (g x.state)) before ≡ sum_over R (λ j. R.times (row_at R (before ++ e ∷ after) j) (g j)) (below e.state)
  row_lesser before after e g h =
      lesser L (λ (x : Entry S V). true) (λ x. x.state) (λ x. x.weight) before after e g refl (ascending_row (before ++ e ∷ after) h)
      ∙ sum_same L _ _ (below e.state) (λ j i. ap (λ v. R.times v (g j)) (sym (row_key (before ++ e ∷ after) j)))

abbrev on : {V : Type 0} → Transition V → Bool
on t = is_empty t.label

abbrev to : {V : Type 0} → Transition V → ℕ
to t = t.to

abbrev weight : {V : Type 0} → Transition V → V
weight t = t.weight

module _ {V : Type 0} {R : WeightSet V} (L : SemiringLaws R) (tapes : ℕ) (A : Automaton V) (G : IsAutomaton R tapes A) (s : ℕ) (sorted : IsStrictlySortedBy move_order (moves_from A s)) where
  -- the weight of an empty transition by its key
  silent_key : (j : ℕ) → silent_weight R A s j ≡ at_key L on to weight (moves_from A s) j
  silent_key j = sym (sum-filter L (λ (t : Transition V). cond (is_empty t.label) (cond (eqb j t.to) t.weight R.zero) R.zero) (λ t. eqb t.from s) A.transitions)

  ascends : Ascends on to (moves_from A s)
  ascends = ascending_moves tapes (moves_from A s) (λ t i. G.label t (moves_member A s t i).0) sorted

  module _ {S : Type 0} where
    pub entry_step : (K : ℕ → ℕ → V) (rows : List (Vec (Entry S V))) → s < A.states → ((p : ℕ) → IsRow R A.states (entries_at rows p))
        → ((t : Transition V) → In t A.transitions → t.from ≡ s → is_empty t.label ≡ true → (q : ℕ) → q < A.states → row_at R (entries_at rows t.to) q ≡ K t.to q)
        → (o : Overflow V) → IsMovesStep R (unit_entry R s) rows (moves_from A s) o → IsEntryStep R A K o
    entry_step K rows l each same o m =
        let u = m.move_ in
        let e = m.step.0 in
        let q = e.state in
        let i : In u (moves_from A s) = subst (λ (ts : List (Transition V)). In u ts) (sym m.is) (In-middle u m.before m.after) in
        let member = moves_member A s u i in
        let k : q < A.states = (each u.to).inside e m.step.1 in
        let a : Ascends on to (m.before ++ u ∷ m.after) = subst (λ (ts : List (Transition V)). Ascends on to ts) m.is ascends in
        let c : silent_weight R A s u.to ≡ u.weight = silent_key u.to ∙ ap (λ (ts : List (Transition V)). at_key L on to weight ts u.to) m.is ∙ there L on to weight m.before m.after u m.empty a in
        let v : e.weight ≡ K u.to q = value (entries_at rows u.to) e m.step.1 (each u.to).order ∙ same u member.0 member.1 m.empty q k in
        let sums : moves_part R rows m.before q ≡ sum_over R (λ j. R.times (silent_weight R A s j) (K j q)) (below u.to) =
        sum_same L _ _ m.before (λ t j. part_same t (subst (λ (ts : List (Transition V)). In t ts) (sym m.is) (In-append_left t m.before (u ∷ m.after) j)) q k (is_empty t.label) refl)
        ∙ lesser L on to weight m.before m.after u (λ j. K j q) m.empty a
        ∙ sum_same L _ _ (below u.to) (λ j x. ap (λ y. R.times y (K j q)) (sym (silent_key j ∙ ap (λ (ts : List (Transition V)). at_key L on to weight ts j) m.is))) in (
          s,
          q,
          l,
          k,
          (
            u.to,
            G.to u member.0,
            elim m.step.2 [
              | inl h ↦ inl (h ∙ ap₂ Mul (sym c) v)
              | inr h ↦ inr (h ∙ ap₂ Add (ap (R.plus (unit_entry R s q)) sums) (ap₂ R.times (sym c) v))
            ],
          ),
        )
      where
        value : (row : List (Entry S V)) (e : Entry S V) → In e row → IsIncreasing (map (λ (x : Entry S V). x.state) row) → e.weight ≡ row_at R row e.state
        value row e i h =
            let p = place_of e row i in
            sym (ap (λ (xs : List (Entry S V)). row_at R xs e.state) p.is ∙ row_there L p.before p.after e (subst (λ (xs : List (Entry S V)). IsIncreasing (map (λ (x : Entry S V). x.state) xs)) p.is h))

        part_same : (t : Transition V) → In t (moves_from A s) → (q : ℕ) → q < A.states → (b : Bool) → is_empty t.label ≡ b
            → cond b (R.times t.weight (row_at R (entries_at rows t.to) q)) R.zero ≡ cond b (R.times t.weight (K t.to q)) R.zero
        part_same t i q k true e = let n = moves_member A s t i in ap (R.times t.weight) (same t n.0 n.1 e q k)
        part_same t i q k false e = refl
