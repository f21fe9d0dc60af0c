-- What the builder adds keeps what is true of each draft.
use Rattle.std.proofs.Common.{◌≡◌, refl, ℕ, suc, ◌+◌, ◌≤◌, ◌<◌, Bool, true, false, List, [], ◌∷◌, map, length, cond, None, Some, Option, Less, Equal, Greater, arith, IsTrue, All}
use Rattle.std.specs.Prelude.{nat_lt, not, ◌≢◌}
use Rattle.std.specs.List.{filter}
use Rattle.std.specs.Ordering.{match_ordering}
use Rattle.std.specs.Cmp.{IsTotalOrder}
use Rattle.std.specs.declared.cmp.Ordering.{Ordering}
use Rattle.std.proofs.lemmas.List.Elements.{All-nil, All-cons, All-head, All-tail, All-filter, All-weaker, filter_passes}
use Rattle.std.proofs.lemmas.List.Filters.{length-filter_both}
use Rattle.std.proofs.lemmas.List.Kept.{IsStrictlySortedBy-filter}
use Rattle.std.proofs.lemmas.Grind.{common_steps}
use Rattle.vc_label.specs.declared.tape_set.TapeSet.{TapeSet}
use Rattle.vc_model.specs.Automata.{Transition}
use Rattle.vc_model.specs.Lists.{IsEqualityTest}
use Rattle.vc_model.specs.WeightSet.{WeightSet, RangeLaws}
use Rattle.vc_model.specs.Words.{Word}
use Rattle.vc_ring.specs.declared.faults.MakeFault.{MakeFault}
use Rattle.vc_ring.specs.declared.faults.MakeFault.TheVariants.{Overflow as Unfit, Limit as PastLimit}
use Rattle.vc_ring.specs.declared.faults.Measure.TheVariants.{Transitions}
use Rattle.vc_ring.specs.declared.faults.Overflow.TheVariants.{Add}
use Rattle.vc_aut.specs.Drafts.{Draft, IsDraft, empty_draft, finished, with_transition}
use Rattle.vc_aut.specs.Order.{triple_order, AreInOrder}
use Rattle.vc_aut.specs.Refusals.{weight_refusal, transition_refusal}
use Rattle.vc_aut.specs.Stored.{entry_transition}
use Rattle.vc_aut.specs.Sums.{insert_transition, standing}
use Rattle.vc_aut.specs.Validity.{IsLabelled, IsMove}
use Rattle.vc_aut.proofs.Inserted.{in_order-none, in_order-inserted, length-inserted, length-inserted_old}

module _ {V : Type 0} (R : WeightSet V) where
  pub empty_is_draft : (most : ℕ) (sets : List TapeSet) → most ≤ 1000000 → IsDraft R (empty_draft most sets)
  empty_is_draft most sets h = record {
    drawn = record {
      initial = refl;
      final = refl;
      initial_in = All-nil (λ a. IsTrue (R.in_range a));
      final_in = All-nil (λ a. IsTrue (R.in_range a));
      moves = All-nil (IsMove R sets 0);
      order = in_order-none [] refl;
    };
    most = h;
    states = omega arith;
    transitions = omega arith;
  }

  module _ (ranges : RangeLaws R) (sets : List TapeSet) (n : ℕ) where
    move_sum : (u t : Transition V) → IsMove R sets n u → IsMove R sets n t → R.fits_plus u.weight t.weight ≡ true → IsMove R sets n (record u { weight = R.plus u.weight t.weight })
    move_sum u t h k f = record { from = h.from; to = h.to; label = h.label; weight = ranges.plus_in u.weight t.weight h.weight k.weight f }

    moves_by : (u : Transition V) (us vs : List (Transition V)) (t : Transition V) → All (IsMove R sets n) (u ∷ us) → IsMove R sets n t
        → ((w : V) → standing (u ∷ us) t ≡ Some w → R.fits_plus w t.weight ≡ true)
        → (((w : V) → standing us t ≡ Some w → R.fits_plus w t.weight ≡ true) → All (IsMove R sets n) vs)
        → (o : Ordering) → triple_order t u ≡ o → All (IsMove R sets n) (match_ordering o (t ∷ u ∷ us) (record u { weight = R.plus u.weight t.weight } ∷ us) (u ∷ vs))
    moves_by u us vs t h m f k Less q = All-cons (IsMove R sets n) t (u ∷ us) m h
    moves_by u us vs t h m f k Equal q = All-cons (IsMove R sets n) (record u { weight = R.plus u.weight t.weight }) us (move_sum u t (All-head (IsMove R sets n) u us h) m (f u.weight (rw q refl))) (All-tail (IsMove R sets n) u us h)
    moves_by u us vs t h m f k Greater q = All-cons (IsMove R sets n) u vs (All-head (IsMove R sets n) u us h) (k (λ w s. f w (rw q s)))

    pub moves-inserted : (ts : List (Transition V)) (t : Transition V) → All (IsMove R sets n) ts → IsMove R sets n t
        → ((w : V) → standing ts t ≡ Some w → R.fits_plus w t.weight ≡ true) → All (IsMove R sets n) (insert_transition R ts t)
    moves-inserted [] t h m f = All-cons (IsMove R sets n) t [] m (All-nil (IsMove R sets n))
    moves-inserted (u ∷ us) t h m f =
        moves_by u us (insert_transition R us t) t h m f (λ g. moves-inserted us t (All-tail (IsMove R sets n) u us h) m g) (triple_order t u) refl

  fits_by : (v w : V) (b : Bool) → cond b None (Some (Unfit (Add v w))) ≡ None → b ≡ true
  fits_by v w true h = refl
  fits_by v w false h = cc

  pub fits_unrefused : (n : ℕ) (w v : V) (o : Option V) → weight_refusal R n w o ≡ None → o ≡ Some v → R.fits_plus v w ≡ true
  fits_unrefused n w v o h e = fits_by v w (R.fits_plus v w) (rw e at h)

  few_by : (n : ℕ) (l : MakeFault V) (b : Bool) → nat_lt n 4000000 ≡ b → cond b None (Some l) ≡ None → n < 4000000
  few_by n l true e h = grind (arith, common_steps)
  few_by n l false e h = cc

  few_unrefused : (n : ℕ) (w : V) → weight_refusal R n w None ≡ None → n < 4000000
  few_unrefused n w h = few_by n (PastLimit (record { what = Transitions; most = 4000000 })) (nat_lt n 4000000) refl h

  module _ (total : IsTotalOrder (triple_order {V = V})) where
    count_by : (ts : List (Transition V)) (t : Transition V) → AreInOrder ts → length ts ≤ 4000000 → (o : Option V) → standing ts t ≡ o → weight_refusal R (length ts) t.weight o ≡ None → length (insert_transition R ts t) ≤ 4000000
    count_by ts t h k None s f =
        let few : length ts < 4000000 = few_unrefused (length ts) t.weight f in
        let more : length (insert_transition R ts t) ≤ suc (length ts) = length-inserted R total ts t in
        omega arith
    count_by ts t h k (Some w) s f = rw (length-inserted_old R total ts t w h s) k

    pub with_transition_is_draft : RangeLaws R → (d : Draft V) (t : Transition V) → IsDraft R d → IsMove R d.sets d.automaton.states t
        → transition_refusal R d.automaton.transitions t ≡ None → IsDraft R (with_transition R d t)
    with_transition_is_draft ranges d t h m free = record {
      drawn = record {
        initial = h.drawn.initial;
        final = h.drawn.final;
        initial_in = h.drawn.initial_in;
        final_in = h.drawn.final_in;
        moves = moves-inserted ranges d.sets d.automaton.states d.automaton.transitions t h.drawn.moves m (λ w s. fits_unrefused (length d.automaton.transitions) t.weight w (standing d.automaton.transitions t) free s);
        order = in_order-inserted R total d.automaton.transitions t h.drawn.order;
      };
      most = h.most;
      states = h.states;
      transitions = count_by d.automaton.transitions t h.drawn.order h.transitions (standing d.automaton.transitions t) refl free;
    }

-- the weights of entries that stand for moves are in range
pub weights-in_range : {B V : Type 0} (R : WeightSet V) (parts : B → Word) (sets : List TapeSet) (n : ℕ) (es : List ((ℕ × B × ℕ) × V)) → All (IsMove R sets n) (map (entry_transition parts) es) → All (λ e. IsTrue (R.in_range e.1)) es
weights-in_range {B} {V} R parts sets n [] h = All-nil (λ (e : (ℕ × B × ℕ) × V). IsTrue (R.in_range e.1))
weights-in_range {B} {V} R parts sets n (e ∷ es) h =
    All-cons (λ (e : (ℕ × B × ℕ) × V). IsTrue (R.in_range e.1)) e es
    (All-head (IsMove R sets n) (entry_transition parts e) (map (entry_transition parts) es) h).weight
    (weights-in_range R parts sets n es (All-tail (IsMove R sets n) (entry_transition parts e) (map (entry_transition parts) es) h))

module _ {V : Type 0} (R : WeightSet V) (same : V → V → Bool) (tells : IsEqualityTest same) where
  pub not_zero : (w : V) → not (same w R.zero) ≡ true → w ≢ R.zero
  not_zero w h e = let z : same w R.zero ≡ true = (tells w R.zero).1 e in cc

  -- what the builder leaves is an automaton
  pub finished_is_labelled : (d : Draft V) → IsDraft R d → IsLabelled R (finished R same d)
  finished_is_labelled d h =
      let kept : Transition V → Bool = λ t. not (same t.weight R.zero) in
      record {
        drawn = record {
          initial = h.drawn.initial;
          final = h.drawn.final;
          initial_in = h.drawn.initial_in;
          final_in = h.drawn.final_in;
          moves = All-filter kept (IsMove R d.sets d.automaton.states) d.automaton.transitions h.drawn.moves;
          order = IsStrictlySortedBy-filter triple_order kept d.automaton.transitions h.drawn.order;
        };
        states = let most : d.most ≤ 1000000 = h.most in let states : d.automaton.states ≤ d.most = h.states in omega arith;
        few = let most : d.most ≤ 1000000 = h.most in let states : d.automaton.states ≤ d.most = h.states in omega arith;
        few_transitions =
            let both : length (filter kept d.automaton.transitions) + length (filter (λ t. not (kept t)) d.automaton.transitions) ≡ length d.automaton.transitions =
            length-filter_both kept (λ t. not (kept t)) (λ t. refl) d.automaton.transitions in
            let most : length d.automaton.transitions ≤ 4000000 = h.transitions in
            omega arith;
        weight = All-weaker (λ (t : Transition V). kept t ≡ true) (λ (t : Transition V). t.weight ≢ R.zero) (λ t e. not_zero t.weight e) (filter kept d.automaton.transitions) (filter_passes kept d.automaton.transitions);
      }
